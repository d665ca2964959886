-- The state variable filter as a filter that may be a frame ahead. Assumes nothing.
use Rattle.std.specs.Prelude.{Bool, ◌&&◌}
use Rattle.ground.specs.Floats.{same_float}
use Rattle.utils.specs.declared.filter.Svf.{Svf}

-- whether two filters are the same in every bit
abbrev pub svf_same : Svf → Svf → Bool
svf_same s t = same_float s.state_1 t.state_1 && same_float s.state_2 t.state_2 && same_float s.g t.g && same_float s.r t.r && same_float s.h t.h
