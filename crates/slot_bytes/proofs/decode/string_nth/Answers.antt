-- `decode::string_nth` meets its contract.
use mathlib.Core.Path.{ap, ◌∙◌}
use mathlib.Core.List.{List, []}
use Prim.Native.Nat.{ℕ}
use lib.ListN.{get_or}
use Rattle.slots.specs.declared.slots.Slot.{Slot}
use Rattle.slot_bytes.specs.Words.{words_in}
use Rattle.slot_bytes.specs.Layout.{voice_in, decode_slot, slot_in}
use Rattle.slot_bytes.proofs.Parts.{slot_of}
use Rattle.slot_bytes.proofs.decode.string_nth.Goals as goal

pub returns : goal.returns
unfolding decode_slot slot_in
returns c =
    let a = c.args in
    c.voice_at.ensures ∙ ap (λ (ps : List (List ℕ)). voice_in (words_in (get_or ps a.slot []))) (c.slots_of.ensures.parts c.requires.1)
    ∙ ap (λ (x : Slot). x.string) (slot_of a.bytes.now a.slot [] c.requires.0)
