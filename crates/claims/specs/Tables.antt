-- On a call that the table accepts no voice reaches an index past a table. Assumes nothing.
use Rattle.std.specs.Prelude.{◌≡◌, Bool, ℕ, ◌+◌, ◌≤◌, Float, Ok}
use Rattle.ground.specs.F32.{c0, c255}
use Rattle.ground.specs.Floats.{whole_part, clamp_f}
use Rattle.utils.specs.Units.{high_index, low_index}
use Rattle.noise.specs.declared.excitation.Knobs.{Knobs}
use Rattle.noise.specs.Excitation.{raised}
use Rattle.waveguide.specs.String.{cutoff_of, damping_of}
use Rattle.string_voice.specs.StringVoice.{exciter_semitones}
use Rattle.modal_voice.specs.Tables.{InTables}
use Rattle.slots.specs.Calls.{Bufs, render, InF32}
use Rattle.slots.specs.Table.{verdict}

-- the string's reads, of knobs k: the first pitch table at 236 or below for the excitation and for the damping, the second, whose last entry is 255,
-- within it, and two neighbours of the shift table, whose last is 256
pub record StringInTables (k : Knobs) : Type 0 where
  pub exciter : high_index (exciter_semitones (raised k.accent k.brightness)) ≤ 236
  pub damping : high_index (cutoff_of (raised k.accent k.brightness) (raised k.accent k.damping)) ≤ 236
  pub low : (semitones : Float) → low_index semitones ≤ 255
  pub shift : whole_part (clamp_f (damping_of k.f0 (raised k.accent k.brightness) (raised k.accent k.damping)).cutoff c0 c255) + 1 ≤ 256

-- both voices, wherever the table accepts a render
unfoldable pub AcceptedInTables : Type 0
AcceptedInTables = (bad : Bool) (kind slot : ℕ) (k : Knobs) (b : Bufs) → InF32 (render k b)
    → verdict bad kind (record { slot = slot; act = render k b }) ≡ Ok tt → StringInTables k × InTables k
