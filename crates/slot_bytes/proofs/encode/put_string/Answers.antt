-- `encode::put_string` meets its contract.
use Rattle.slot_bytes.specs.Layout.{string_words, svf_words, dc_words, float_words}
use Rattle.slot_bytes.proofs.Little.{wrote}
use native.Mathlib.Omega.{arith}
use Rattle.slot_bytes.proofs.encode.put_string.Goals as goal

pub returns : goal.returns
unfolding string_words svf_words dc_words float_words
returns c = (
  wrote _ _ _ _ _ (wrote _ _ _ _ _ (wrote _ _ _ _ _ (wrote _ _ _ _ _
      (wrote _ _ _ _ _ (wrote _ _ _ _ _ (wrote _ _ _ _ _ (wrote _ _ _ _ _
      (wrote _ _ _ _ _ (wrote _ _ _ _ _ c.put_word.ensures c.put_word-2.ensures (omega arith) (omega (arith, c.told-b))) c.write.ensures.0 (omega arith)
      (omega (arith, c.told-b))) c.write-2.ensures.0 (omega arith) (omega (arith, c.told-b))) c.write-3.ensures.0 (omega arith)
      (omega (arith, c.told-b))) c.write-4.ensures.0 (omega arith) (omega (arith, c.told-b))) c.write-5.ensures.0 (omega arith)
      (omega (arith, c.told-b))) c.write-6.ensures.0 (omega arith) (omega (arith, c.told-b))) c.write-7.ensures.0 (omega arith)
      (omega (arith, c.told-b))) c.write-8.ensures.0 (omega arith) (omega (arith, c.told-b))) c.write-9.ensures.0 (omega arith)
      (omega (arith, c.told-b)),
  (
    c.write.ensures.1,
    c.write-2.ensures.1,
    c.write-3.ensures.1,
    c.write-4.ensures.1,
    c.write-5.ensures.1,
    c.write-6.ensures.1,
    c.write-7.ensures.1,
    c.write-8.ensures.1,
    c.write-9.ensures.1,
  ),
)
