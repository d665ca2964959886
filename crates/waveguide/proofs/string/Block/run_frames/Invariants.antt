-- `string::Block::run_frames` meets its contract, by the law of loops over frames.
use mathlib.Core.Path.{◌≡◌}
use Rattle.ground.proofs.Frames.{Frames}
use Rattle.waveguide.specs.String.{frame}
use Rattle.waveguide.specs.Underway.{Ahead}
use Rattle.waveguide.proofs.Steps.{words_to}
use Rattle.waveguide.proofs.string.Block.run_frames.Given as goal

abbrev pub invariant-loop-i : goal.invariant-loop-i
invariant-loop-i l =
    let b = l.self in
    Frames (frame b.shape b.params) (l.initial.u.string, l.initial.lines) l.in_ l.initial.out l.initial.u.word l.i (l.u.string, l.lines) l.out l.u.word
    × Ahead b.params l.u × (l.u.drawn ≡ words_to b.shape b.params l.initial.u.string.src_phase l.i)
