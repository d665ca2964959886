-- `excitation::add_into` meets its contract, by the law of loops over frames.
use Rattle.ground.proofs.Frames.{Scan}
use Rattle.noise.specs.Excitation.{add_step}
use Rattle.noise.proofs.excitation.add_into.Given as goal

abbrev pub invariant-loop-i : goal.invariant-loop-i
invariant-loop-i l = Scan add_step tt l.in_ l.initial.out l.i tt l.out
