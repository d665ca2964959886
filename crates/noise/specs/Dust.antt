-- dust.rs. Assumes nothing.
use Rattle.std.specs.Prelude.{cond, Float}
use Rattle.std.specs.Float.Ieee.{lt}
use Rattle.ground.specs.F32.{◌⊗◌, ◌⊘◌, c0, c1}
use Rattle.ground.specs.Draw.{Draw, ret, ask}
use Rattle.ground.specs.Random.{get_float}

-- dust: one word, whose float u gives u * (1 / frequency) below the frequency, else 0
unfoldable pub dust : Float → Draw Float
dust frequency = ask (λ w. let u = get_float w in ret (cond (lt u frequency) (u ⊗ (c1 ⊘ frequency)) c0))
