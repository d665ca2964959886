-- `sheets::play_all` meets its contract: the turns done so far.
use Rattle.noise.specs.Buffers.{held, IsSame}
use Rattle.player.specs.Play.{Playing}
use Rattle.bank_abi.specs.Crossing.{Crossing}
use Rattle.bank_abi.proofs.Plays.{Both}
use Rattle.bank_abi.proofs.sheets.play_all.Given as goal

abbrev pub invariant-loop-i : goal.invariant-loop-i
invariant-loop-i l = let s₀ : Playing Crossing = record {
  world = record { bytes = l.fn.bytes; word = l.fn.word; mem = l.fn.lines };
  bufs = held l.fn.b;
  answers = l.fn.answers;
} in
    let s : Playing Crossing = record {
      world = record { bytes = l.bytes; word = l.word; mem = l.lines };
      bufs = held l.b;
      answers = l.answers;
    } in
    Both l.sheet l.n s₀ l.i s × IsSame l.b l.fn.b
