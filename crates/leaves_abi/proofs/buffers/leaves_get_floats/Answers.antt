-- `buffers::leaves_get_floats` meets its contract, by the law of loops over frames: a word a frame.
-- a turn draws the next word and puts its float
use mathlib.Core.Path.{◌≡◌}
use Prim.Native.Nat.{ℕ}
use native.Mathlib.Omega.{arith}
use lib.Ieee.{Float, nan}
use Rattle.ground.specs.Draw.{ret, run}
use Rattle.ground.specs.Random.{get_word, get_float}
use Rattle.ground.proofs.Frames.{frames_begin, frames_turn, frames_then}
use Rattle.noise.specs.Excitation.{fill_step}
use Rattle.leaves_abi.specs.Buffers.{drawn_float}
use Rattle.leaves_abi.proofs.buffers.leaves_get_floats.Goals as goal

drew : (w v : ℕ) (u y x : Float) → v ≡ get_word w → u ≡ get_float v → run (fill_step drawn_float tt x y) w ≡ record { value = (tt, u); word = v }
drew w v u y x e f = rw (f, e)

pub loop-u-init : goal.loop-u-init
loop-u-init c = frames_begin

pub loop-u-preserved : goal.loop-u-preserved
loop-u-preserved c =
    frames_turn nan nan c.loop-u.invariant (omega arith)
    (drew _ _ _ nan nan c.get_word-drawn.ensures c.get_float.ensures)

pub returns : goal.returns
returns c = frames_then (λ q. ret q.1) c.loop-u.invariant (omega arith)
