-- What the modal voice reads its tables at. Assumes nothing.
use Rattle.std.specs.Prelude.{◌≡◌, not, cond, ℕ, ◌+◌, ◌≤◌, T, Float}
use Rattle.std.specs.Float.Ieee.{lt}
use Rattle.ground.specs.F32.{◌⊖◌, ◌⊗◌, c0, c0·5, c1, c2, c24, c36, c60, c64, c79·7}
use Rattle.ground.specs.Floats.{whole_part, clamp_f}
use Rattle.utils.specs.Units.{high_index, low_index}
use Rattle.utils.specs.Utils.{interpolate}
use Rattle.noise.specs.declared.excitation.Knobs.{Knobs}
use Rattle.noise.specs.Excitation.{raised}
use Rattle.modal_voice.specs.ModalVoice.{cutoff_for}

-- the semitones of the excitation's cutoff, as cutoff_for has them
abbrev pub exciter_semitones : Knobs → Float
exciter_semitones k = let brightness = raised k.accent k.brightness in (brightness ⊗ (c2 ⊖ brightness) ⊖ c0·5) ⊗ cond k.sustain c36 c60

-- those of strike_of
abbrev pub strike_semitones : Float → Float
strike_semitones cutoff = cutoff ⊗ cutoff ⊗ c24

-- those of q_sqrt in resonator_process
abbrev pub decay_semitones : Float → Float
decay_semitones damping = damping ⊗ c79·7

-- the first of the two neighbours that interpolate_of reads
abbrev pub stiffness_index : Float → ℕ
stiffness_index structure = whole_part (clamp_f structure c0 c1 ⊗ c64)

-- all of it, of knobs k
pub record InTables (k : Knobs) : Type 0 where
  -- the excitation reads the first pitch table at 236 or below
  pub exciter : high_index (exciter_semitones k) ≤ 236
  -- the strike too
  pub strike : high_index (strike_semitones (cutoff_for k)) ≤ 236
  -- q_sqrt too
  pub decay : high_index (decay_semitones (raised k.accent k.damping)) ≤ 236
  -- and each reads the second, whose last entry is 255, within it
  pub low : (semitones : Float) → low_index semitones ≤ 255
  -- below structure 1 the neighbours i and i + 1 are entries of the stiffness table, whose last is 64
  pub stiffness : T (lt k.structure c1) → stiffness_index k.structure + 1 ≤ 64
  -- from structure 1 on, which is 1 alone, the stiffness is 2.0: the departure
  pub departure : T (not (lt k.structure c1)) → interpolate k.structure ≡ c2
