-- `words::floats_stand` meets its contract.
use Rattle.slot_bytes.proofs.Stand.{Standing}
use Rattle.slot_bytes.proofs.words.floats_stand.Given as goal

abbrev pub invariant-loop-i : goal.invariant-loop-i
invariant-loop-i l = Standing l.b l.k l.n l.i l.stand
