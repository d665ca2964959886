-- `buffers::leaves_semitones_to_ratio` meets its contract, by the law of loops over frames.
use Rattle.ground.proofs.Frames.{Scan}
use Rattle.utils.specs.Units.{semitones_to_ratio}
use Rattle.leaves_abi.specs.Buffers.{apply_step}
use Rattle.leaves_abi.proofs.buffers.leaves_semitones_to_ratio.Given as goal

abbrev pub invariant-loop-i : goal.invariant-loop-i
invariant-loop-i l = Scan (apply_step semitones_to_ratio) tt l.semitones l.initial.out l.i tt l.out
