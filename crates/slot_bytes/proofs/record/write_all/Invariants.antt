-- `record::write_all` meets its contract.
use Rattle.slot_bytes.proofs.Little.{Written}
use Rattle.ground.specs.Each.{Each}
use lib.ListN.{length, take}
use mathlib.Core.Path.{◌≡◌}
use Rattle.slot_bytes.proofs.record.write_all.Given as goal

abbrev pub invariant-loop-i : goal.invariant-loop-i
invariant-loop-i g l = let m = g.T.Record in (length l.a ≡ g.row.N) × Written m.to_words l.k l.a l.initial.b l.i l.b × Each m.is_f32 (take l.i l.a)
