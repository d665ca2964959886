-- `filter::DcBlocker::process` meets its contract, by the law of loops over frames: in place, so that the input is the buffer as it was.
use Rattle.utils.specs.Filter.{dc_step}
use Rattle.ground.proofs.Frames.{Scan}
use Rattle.utils.proofs.filter.DcBlocker.process.Given as goal

abbrev pub invariant-loop-sample : goal.invariant-loop-sample
invariant-loop-sample l = Scan dc_step l.initial.blocker l.initial.in_out l.initial.in_out l.sample-index l.blocker l.in_out
