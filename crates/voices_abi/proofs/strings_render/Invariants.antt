-- `strings_render` meets its contract: block after block.
use lib.ListN.{length}
use Rattle.noise.specs.Buffers.{held, IsSame}
use Rattle.voices_abi.specs.Strings.{again}
use Rattle.voices_abi.proofs.Blocks.{Done}
use Rattle.voices_abi.proofs.Strings.{Sized}
use Rattle.voices_abi.proofs.strings_render.Given as goal

abbrev pub invariant-loop : goal.invariant-loop
invariant-loop l =
    Done (again l.k) (Sized (length l.initial.b.out.now)) l.blocks ((l.initial.voice, l.initial.lines), held l.initial.b) l.word l.counter
    ((l.voice, l.lines), held l.b) l.drawn
    × IsSame l.b l.initial.b
