-- `record::ResonatorSvfRecord::write` meets its contract.
use Rattle.slot_bytes.specs.Layout.{mode_words, float_words}
use Rattle.slot_bytes.proofs.Little.{wrote}
use native.Mathlib.Omega.{arith}
use Rattle.slot_bytes.proofs.record.ResonatorSvfRecord.write.Goals as goal

pub returns : goal.returns
unfolding mode_words float_words
returns c = (
  wrote _ _ _ _ _ c.write.ensures.0 c.write-2.ensures.0 (omega arith) (omega (arith, c.requires)),
  (c.write.ensures.1, c.write-2.ensures.1),
)
