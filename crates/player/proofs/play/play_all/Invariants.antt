-- `play::play_all` meets its contract: the turns done so far.
use Rattle.noise.specs.Buffers.{held, IsSame}
use Rattle.bank.specs.World.{World}
use Rattle.player.specs.Play.{Playing, bank_move}
use Rattle.player.proofs.Turns.{Sofar}
use Rattle.player.proofs.play.play_all.Given as goal

abbrev pub invariant-loop-i : goal.invariant-loop-i
invariant-loop-i l = let s₀ : Playing World = record {
  world = record { bank = l.fn.bank; word = l.fn.word; mem = l.fn.lines };
  bufs = held l.fn.b;
  answers = l.fn.answers;
} in
    let s : Playing World = record {
      world = record { bank = l.bank; word = l.word; mem = l.lines };
      bufs = held l.b;
      answers = l.answers;
    } in
    Sofar bank_move l.sheet l.n s₀ l.i s × IsSame l.b l.fn.b
