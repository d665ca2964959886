-- `put` of a string's voice meets its contract.
use mathlib.Core.Path.{◌∙◌}
use Rattle.slot_bytes.proofs.Little.{flag_is}
use Rattle.slot_bytes.specs.Layout.{decode_slot, slot_in, modal_in}
use Rattle.slot_bytes.proofs.Stand.{string_wrote}
use Rattle.slot_bytes.proofs.encode.StringVoicePut.put.Goals as goal

pub returns : goal.returns
unfolding decode_slot slot_in modal_in
returns c =
    let a = c.args in
    let m = c.put_modal_again.ensures in
    let v = c.put_voice.ensures in (
      string_wrote (record (decode_slot a.b.now) { string = a.self }) _ c.from.result a.b.now m.0 v.0 c.put_word.ensures c.told-b m.1 c.word_at-kind.ensures.0
          (c.from.ensures ∙ flag_is _),
      (v.1, m.1),
    )
