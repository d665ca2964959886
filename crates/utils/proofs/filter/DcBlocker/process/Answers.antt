-- `filter::DcBlocker::process` meets its contract, by the law of loops over frames: in place, so that the input is the buffer as it was.
use mathlib.Core.Path.{ap}
use native.Mathlib.Omega.{arith}
use lib.Ieee.{nan}
use Rattle.utils.specs.declared.filter.DcBlocker.{DcBlocker}
use Rattle.ground.proofs.Frames.{frames_begin, scan_turn, scan_end}
use Rattle.utils.proofs.filter.DcBlocker.process.Goals as goal

pub loop-sample-init : goal.loop-sample-init
loop-sample-init c = frames_begin

pub loop-sample-preserved : goal.loop-sample-preserved
loop-sample-preserved c = scan_turn nan nan c.loop-sample.invariant (omega arith) (ap (λ (d : DcBlocker). (d, d.y)) c.process_sample-blocker.ensures)

pub returns : goal.returns
returns c = scan_end c.loop-sample.invariant (omega arith)
