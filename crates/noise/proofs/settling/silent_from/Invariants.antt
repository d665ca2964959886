-- `settling::silent_from` meets its contract: what was looked at from m on is silent.
use Rattle.noise.proofs.Settled.{SilentSoFar}
use Rattle.noise.proofs.settling.silent_from.Given as goal

abbrev pub invariant-loop-i : goal.invariant-loop-i
invariant-loop-i l = SilentSoFar l.xs l.m l.i
