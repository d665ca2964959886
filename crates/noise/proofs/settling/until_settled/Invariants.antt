-- `settling::until_settled` meets its contract: what is done so far.
use Rattle.noise.proofs.Settled.{Coming}
use Rattle.noise.proofs.settling.until_settled.Given as goal

abbrev pub invariant-loop-i : goal.invariant-loop-i
invariant-loop-i g l = Coming g.F.Filter.step l.fn.f l.xs l.initial.ys l.n l.i l.filter l.anchor l.at l.ys
