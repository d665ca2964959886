-- `record::read_all` meets its contract.
use Rattle.slot_bytes.specs.Words.{words_in}
use Rattle.ground.proofs.Tab.{Stored}
use lib.ListN.{length}
use Prim.Native.Nat.{◌+◌, ◌*◌}
use mathlib.Core.Path.{◌≡◌}
use Rattle.slot_bytes.proofs.record.read_all.Given as goal

abbrev pub invariant-loop-i : goal.invariant-loop-i
invariant-loop-i g l = let m = g.T.Record in (length l.initial.a ≡ g.row.N) × Stored (λ j. m.from_words (words_in l.b) (l.k + m.WORDS * j)) l.initial.a l.i l.a
