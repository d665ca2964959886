-- A fresh bank is 3,144 zeros. Assumes nothing.
use mathlib.Core.Path.{◌≡◌, refl, sym, ◌∙◌, ap}
use mathlib.Core.List.{List, ◌++◌}
use Prim.Native.Nat.{ℕ, zero, suc, ◌*◌}
use native.Mathlib.Nat.{add_comm, zero-mul, suc-mul}
use borrow.Author.Tests.{eq-eqb}
use lib.ListN.{length, replicate, replicate-append-replicate}
use lib.Ieee.{to_bits, of_bits}
use Rattle.utils.specs.Filter.{svf_new, dc_init}
use Rattle.modes.specs.Resonator.{svf_new as mode_new, filters_new, resonator_new}
use Rattle.modal_voice.specs.ModalVoice.{voice_new}
use Rattle.waveguide.specs.String.{string_new}
use Rattle.string_voice.specs.StringVoice as string_voice
use Rattle.slots.specs.declared.slots.Slot.{Slot}
use Rattle.slots.specs.Slots.{no_string, empty_slot, fresh_bank}
use Rattle.slot_bytes.specs.Words.{bytes, each}
use Rattle.slot_bytes.specs.Layout.{svf_words, dc_words, string_words, voice_words, mode_words, batch_words, float_words, modal_words, slot_words, encode_slot}
use Rattle.slot_bytes.specs.Layout.{encode_bank}
use Rattle.bank_abi.specs.Crossing.{fresh_def}

empty_zeros : encode_slot empty_slot ≡ replicate 393 0
unfolding encode_slot slot_words voice_words string_words svf_words dc_words modal_words mode_words batch_words float_words each bytes empty_slot no_string
    string_voice.voice_new string_new voice_new resonator_new filters_new mode_new svf_new dc_init to_bits of_bits
empty_zeros = refl

each_zeros : (n k : ℕ) (x : Slot) → encode_slot x ≡ replicate k 0 → each encode_slot (replicate n x) ≡ replicate (n * k) 0
unfolding each
each_zeros zero k x e = ap (λ (m : ℕ). replicate m 0) (sym (zero-mul k))
each_zeros (suc n) k x e =
    (λ i. e i ++ each_zeros n k x e i) ∙ replicate-append-replicate k (n * k) 0 ∙ ap (λ (m : ℕ). replicate m 0) (add_comm k (n * k) ∙ sym (suc-mul n k))

pub fresh_zeros : encode_bank fresh_bank ≡ replicate 3144 0
unfolding encode_bank fresh_bank
fresh_zeros = each_zeros 8 393 empty_slot empty_zeros

pub made_fresh : (bs xs : List ℕ) → length bs ≡ 3144 → xs ≡ replicate (length bs) 0 → (0, xs) ≡ fresh_def bs
unfolding fresh_def
made_fresh bs xs e h = rw (eq-eqb (length bs) 3144 e) (ap (λ (l : List ℕ). (0, l)) (h ∙ ap (λ (n : ℕ). replicate n 0) e ∙ sym fresh_zeros))
