-- `encode::put_voice` meets its contract.
use Rattle.slot_bytes.specs.Layout.{voice_words, string_words, svf_words, dc_words}
use Rattle.slot_bytes.proofs.Little.{wrote}
use native.Mathlib.Omega.{arith}
use Rattle.slot_bytes.proofs.encode.put_voice.Goals as goal

pub returns : goal.returns
unfolding voice_words string_words svf_words dc_words
returns c = (
  wrote _ _ _ _ _ (wrote _ _ _ _ _ c.write.ensures.0 c.put_string.ensures.0 (omega arith) (omega (arith, c.told-b))) c.put_word.ensures (omega arith)
      (omega (arith, c.told-b)),
  (c.write.ensures.1, c.put_string.ensures.1),
)
