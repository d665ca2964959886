-- `buffers::leaves_get_floats` meets its contract, by the law of loops over frames: a word a frame.
-- a turn draws the next word and puts its float
use Rattle.ground.proofs.Frames.{Frames}
use Rattle.noise.specs.Excitation.{fill_step}
use Rattle.leaves_abi.specs.Buffers.{drawn_float}
use Rattle.leaves_abi.proofs.buffers.leaves_get_floats.Given as goal

abbrev pub invariant-loop-u : goal.invariant-loop-u
invariant-loop-u l = Frames (fill_step drawn_float) tt l.initial.out l.initial.out l.word l.u-index tt l.out l.drawn
