-- `words::floats_stand` meets its contract.
use Rattle.slot_bytes.proofs.Stand.{standing_begin, standing_turn, standing_end}
use native.Mathlib.Omega.{arith}
use Rattle.slot_bytes.proofs.words.floats_stand.Goals as goal

pub loop-i-init : goal.loop-i-init
loop-i-init c = standing_begin

pub loop-i-preserved : goal.loop-i-preserved
loop-i-preserved c = standing_turn c.loop-i.invariant (omega arith) c.requires (assumption c) (assumption c)

pub returns : goal.returns
returns c = standing_end c.loop-i.invariant (omega arith)
