-- `record::BatchRecord::write` meets its contract.
use Rattle.slot_bytes.specs.Layout.{BatchF32, batch_words, mode_words}
use Rattle.slot_bytes.proofs.Little.{wrote}
use native.Mathlib.Omega.{arith}
use Rattle.slot_bytes.proofs.record.BatchRecord.write.Goals as goal

pub returns : goal.returns
unfolding BatchF32 batch_words mode_words
returns c = (
  wrote _ _ _ _ _ (wrote _ _ _ _ _ (wrote _ _ _ _ _ c.write.ensures.0 c.write-2.ensures.0 (omega arith) (omega (arith, c.requires))) c.write-3.ensures.0
      (omega arith) (omega (arith, c.requires))) c.write-4.ensures.0 (omega arith) (omega (arith, c.requires)),
  (c.write.ensures.1, c.write-2.ensures.1, c.write-3.ensures.1, c.write-4.ensures.1),
)
