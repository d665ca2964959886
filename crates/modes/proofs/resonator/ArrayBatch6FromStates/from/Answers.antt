-- `resonator::ArrayBatch6FromStates::from` meets its contract: each batch stands at its number.
use Rattle.ground.proofs.Tab.{stored_begin, stored_turn, stored_end}
use Rattle.modes.specs.OnePass.{filters_of}
use native.Mathlib.Omega.{arith}
use Rattle.modes.proofs.resonator.ArrayBatch6FromStates.from.Goals as goal

pub loop-b-init : goal.loop-b-init
loop-b-init c = stored_begin

pub loop-b-preserved : goal.loop-b-preserved
loop-b-preserved c = stored_turn c.loop-b.invariant (omega arith) c.batch_at.ensures

pub returns : goal.returns
unfolding filters_of
returns c = stored_end {n = 6} c.loop-b.invariant (omega arith) (omega arith)
