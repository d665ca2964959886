-- Every list of exported calls and sheets, from the bytes of a fresh bank on, is a run of the bank. Assumes nothing.
use mathlib.Core.Path.{◌≡◌, refl, sym, ◌∙◌, ap, subst}
use mathlib.Core.Bool.{true}
use mathlib.Core.List.{List, [], ◌∷◌, map}
use Prim.Native.Nat.{ℕ}
use lib.Ieee.{of_bits}
use Rattle.ground.specs.Frames.{tab}
use Rattle.utils.specs.Filter.{svf_new, dc_init}
use Rattle.modes.specs.Resonator.{svf_new as mode_new, filters_new, resonator_new}
use Rattle.modal_voice.specs.ModalVoice.{voice_new}
use Rattle.noise.specs.declared.excitation.Counts.{Counts}
use Rattle.waveguide.specs.String.{string_new}
use Rattle.string_voice.specs.StringVoice as string_voice
use Rattle.slots.specs.declared.slots.Bank.{Bank}
use Rattle.slots.specs.Calls.{Bufs}
use Rattle.slots.specs.Slots.{no_string, empty_slot, fresh_bank}
use Rattle.slots.specs.Calls.{InF32}
use Rattle.bank.specs.World.{World, start}
use Rattle.ground.specs.Each.{Each}
use Rattle.player.specs.declared.play.Told.{Told}
use Rattle.player.specs.Play.{told, Playing}
use Rattle.claims.specs.Items.{made, run_items, all_events, Demand3Items}
use Rattle.claims.proofs.Items.{join_f32, call_f32, sheet_f32s, demand_3_items}
use Rattle.slot_bytes.specs.Words.{words_in}
use Rattle.slot_bytes.specs.Layout.{decode_bank, encode_bank, parts, decode_slot, slot_in, voice_in, string_in, svf_in, dc_in, modal_in, mode_in, batch_in}
use Rattle.bank_abi.specs.Crossing.{is_bank, bad_flags, Crossing, world_of}
use Rattle.bank_abi.specs.Chain.{Exported, called, played, item_of, after_of, GivesItem, MadeBy, items_made, left_by, decoded_item, ExportedDemand3}
use Rattle.bank_abi.proofs.Zeros.{fresh_zeros}

-- an item on bytes that are a bank is the bank's, and they stay one
item_is : (r : Exported) (x : Crossing) → is_bank x.bytes ≡ true → GivesItem x r → left_by (made (world_of x) (item_of r)) ≡ decoded_item r
unfolding made
item_is (called c y) x e g = ap (λ (q : ℕ × Counts × World × Bufs). (q.0, told q.0 q.1 ∷ [], q.2, q.3)) (g.agrees e)
item_is (played es ts b r) x e g = ap (λ (q : ℕ × Playing World). (q.0, q.1.answers, q.1.world, q.1.bufs)) (g.agrees e)

item_stays : (r : Exported) (x : Crossing) → is_bank x.bytes ≡ true → GivesItem x r → is_bank (after_of r).bytes ≡ true
item_stays (called c y) x e g = g.stays e
item_stays (played es ts b r) x e g = g.stays e

item_f32 : (r : Exported) (x : Crossing) → is_bank x.bytes ≡ true → GivesItem x r
    → Each (λ e. InF32 e.call.act) (made (world_of x) (item_of r)).events
item_f32 (called c y) x e g = call_f32 (world_of x) c g.given
item_f32 (played es ts b r) x e g =
    sheet_f32s (world_of x) es ts b (λ n. g.given (sym (ap (λ (q : ℕ × List Told × World × Bufs). q.0) (item_is (played es ts b r) x e g)) ∙ n))

record Chained (rs : List Exported) (w : World) : Type 0 where
  run : map left_by (run_items w (items_made rs)) ≡ map decoded_item rs
  f32 : Each (λ e. InF32 e.call.act) (all_events (run_items w (items_made rs)))

chain : (rs : List Exported) (x : Crossing) → is_bank x.bytes ≡ true → MadeBy x rs → Chained rs (world_of x)
unfolding run_items
chain [] x e g = record { run = refl; f32 = tt }
chain (r ∷ rs) x e g =
    let m = made (world_of x) (item_of r) in
    let h = item_is r x e g.0 in
    let w : m.after ≡ world_of (after_of r) = ap (λ (q : ℕ × List Told × World × Bufs). q.2) h ∙ after_is r in
    let c : Chained rs m.after = subst (Chained rs) (sym w) (chain rs (after_of r) (item_stays r x e g.0) g.1) in
    record {
      run = λ i. h i ∷ c.run i;
      f32 = join_f32 m.events (all_events (run_items m.after (items_made rs))) (item_f32 r x e g.0) c.f32;
    }
  where
    after_is : (r : Exported) → (decoded_item r).2 ≡ world_of (after_of r)
    after_is (called c y) = refl
    after_is (played es ts b r) = refl

fresh_is : is_bank (encode_bank fresh_bank) ≡ true
unfolding is_bank bad_flags parts
fresh_is = ap is_bank fresh_zeros ∙ refl

fresh_back : decode_bank (encode_bank fresh_bank) ≡ fresh_bank
unfolding decode_bank parts decode_slot slot_in voice_in string_in svf_in dc_in modal_in mode_in batch_in words_in of_bits tab fresh_bank empty_slot no_string
    string_voice.voice_new string_new voice_new resonator_new filters_new mode_new svf_new dc_init
fresh_back = ap decode_bank fresh_zeros ∙ refl

pub exported_demand_3 : ExportedDemand3
unfolding ExportedDemand3 Demand3Items
exported_demand_3 seed h mem rs g =
    let x : Crossing = record { bytes = encode_bank fresh_bank; word = seed; mem = mem } in
    let c : Chained rs (start seed mem) =
    subst (λ (b : Bank). Chained rs (record { bank = b; word = seed; mem = mem })) fresh_back (chain rs x fresh_is g) in
    record { run = c.run; account = demand_3_items seed h mem (items_made rs) c.f32 }
