-- `buffers::leaves_read_hermites` meets its contract, by the law of loops over frames.
use Rattle.utils.specs.DelayLine.{read_hermite}
use Rattle.ground.specs.Part.{part}
use Rattle.ground.proofs.Frames.{Scan}
use Rattle.leaves_abi.specs.Buffers.{apply_step}
use Rattle.leaves_abi.proofs.buffers.leaves_read_hermites.Given as goal

abbrev pub invariant-loop-i : goal.invariant-loop-i
invariant-loop-i l = Scan (apply_step (read_hermite (part 0 1024 l.line) l.write_ptr)) tt l.delays l.initial.out l.i tt l.out
