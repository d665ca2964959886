-- `resonator::run_frames` meets its contract, by the law of loops over frames.
use Rattle.ground.proofs.Frames.{Scan}
use Rattle.modes.specs.OnePass.{frame_of}
use Rattle.modes.proofs.resonator.run_frames.Given as goal

abbrev pub invariant-loop-i : goal.invariant-loop-i
invariant-loop-i g l = Scan (frame_of l.k) l.initial.states l.in_ l.initial.out l.i l.states l.out
