-- `resonator::run_frames` meets its contract, by the law of loops over frames.
use lib.Ieee.{nan}
use Rattle.ground.proofs.Frames.{frames_begin, scan_turn, scan_end}
use native.Mathlib.Omega.{arith}
use Rattle.modes.proofs.resonator.run_frames.Goals as goal

pub loop-i-init : goal.loop-i-init
loop-i-init g c = frames_begin

pub loop-i-preserved : goal.loop-i-preserved
loop-i-preserved g c = scan_turn nan nan c.loop-i.invariant (omega arith) c.frame.ensures

pub returns : goal.returns
returns g c = scan_end c.loop-i.invariant (omega arith)
