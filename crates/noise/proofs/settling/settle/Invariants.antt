-- `settling::settle` meets its contract: what was given a period before is given again.
use Rattle.ground.proofs.Tab.{Stored}
use Rattle.noise.specs.Settling.{given}
use Rattle.noise.proofs.settling.settle.Given as goal

abbrev pub invariant-loop-i : goal.invariant-loop-i
invariant-loop-i g l = Stored (given g.F.Filter.step l.fn.f l.xs) l.fn.ys l.i l.ys
