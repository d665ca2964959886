-- What accepted knobs keep within bounds: no table index without a meaning is reached, and left. Assumes nothing.
use Prim.Native.Nat.{◌≤◌}
use lib.Ieee.{Float, of_bits}
use Rattle.ground.specs.F32.{◌⊘◌, c1, c2, c36, c72}
use Rattle.ground.specs.Floats.{whole_part}
use Rattle.utils.specs.Units.{high_index}
use Rattle.bounds.proofs.Bounds.{int, minus, encloses, inside, const_in, widen, in_test, div_in}
use Rattle.bounds.proofs.Indices.{whole_at_most, high_in}
use Rattle.waveguide.specs.String.{cutoff_of}
use Rattle.waveguide.proofs.Ranges.{cutoff_in}
use Rattle.noise.specs.Excitation.{raised}
use Rattle.noise.proofs.Ranges.{Knob, Fundamental, raised_in, exciter_in}
use Rattle.string_voice.specs.StringVoice.{exciter_semitones}

-- ---- the semitones of both calls of semitones_to_ratio
module _ (accent brightness : Float) (a : Knob accent) (b : Knob brightness) where
  -- the excitation's
  pub exciter_index : high_index (exciter_semitones (raised accent brightness)) ≤ 236
  unfolding exciter_semitones inside of_bits
  exciter_index = high_in _ (exciter_in (raised_in a b) (in_test c36 c72 c72 tt))

  -- the damping's
  pub damping_index : (damping : Float) → Knob damping → high_index (cutoff_of (raised accent brightness) (raised accent damping)) ≤ 236
  unfolding inside of_bits
  damping_index damping d = high_in _ (widen (cutoff_in (raised_in a b) (raised_in a d)) (minus 36) (int 108) tt tt)

-- ---- left
pub left_in : (f0 : Float) → Fundamental f0 → whole_part (c1 ⊘ f0) ≤ 1048576
unfolding encloses of_bits
left_in f0 f = whole_at_most 1048576 (c1 ⊘ f0) (div_in (const_in c1 tt) f c2 (int 1048576) tt).most
