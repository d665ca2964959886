-- `resonator::States::any_small` meets its contract, by the law of loops that only count.
use mathlib.Core.Path.{ap}
use mathlib.Core.Bool.{Bool, ◌||◌}
use native.Mathlib.Omega.{arith}
use Rattle.ground.proofs.Frames.{counted_begin, counted_turn, counted_end}
use Rattle.modes.proofs.resonator.States.any_small.Goals as goal

pub loop-b-init : goal.loop-b-init
loop-b-init c = counted_begin

pub loop-b-preserved : goal.loop-b-preserved
loop-b-preserved c = counted_turn c.loop-b.invariant (omega arith) (ap (λ (b : Bool). c.loop-b.small || b) c.batch_small-small.ensures)

pub returns : goal.returns
returns c = counted_end c.loop-b.invariant (omega arith)
