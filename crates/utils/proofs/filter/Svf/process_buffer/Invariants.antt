-- `filter::Svf::process_buffer` meets its contract, by the law of loops over frames.
use Rattle.utils.specs.Filter.{svf_step}
use Rattle.ground.proofs.Frames.{Scan}
use Rattle.utils.proofs.filter.Svf.process_buffer.Given as goal

abbrev pub invariant-loop-i : goal.invariant-loop-i
invariant-loop-i l = Scan svf_step l.initial.svf l.in_ l.initial.out l.i l.svf l.out
