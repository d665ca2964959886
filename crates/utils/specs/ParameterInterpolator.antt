-- parameter_interpolator.rs. Assumes nothing.
use Rattle.std.specs.Prelude.{ℕ, pos, Float}
use Rattle.std.specs.Float.{binary32}
use Rattle.std.specs.Float.Ieee.{of_int}
use Rattle.utils.specs.declared.parameter_interpolator.ParameterInterpolator.{ParameterInterpolator}
use Rattle.ground.specs.F32.{◌⊕◌, ◌⊖◌, ◌⊘◌}

-- ParameterInterpolator::new
unfoldable pub interpolator_new : Float → Float → ℕ → ParameterInterpolator
interpolator_new state new size = record { value = state; increment = (new ⊖ state) ⊘ of_int binary32 (pos size) }

-- next
unfoldable pub interpolator_next : ParameterInterpolator → ParameterInterpolator
interpolator_next p = record p { value = p.value ⊕ p.increment }
