-- Encode after decode keeps every word but a NaN's, another slot's bytes are kept, and a whole bank decodes back. Assumes nothing.
use mathlib.Core.Path.{◌≡◌, refl, sym, ◌∙◌, ap}
use mathlib.Core.Bool.{Bool, cond}
use mathlib.Core.List.{List, [], ◌∷◌, ◌++◌, map}
use Prim.Native.Nat.{ℕ, zero, suc, ◌+◌, ◌*◌, ◌<◌}
use native.Mathlib.Omega.{arith}
use native.Mathlib.Decide.{dec_lt}
use lib.Dec.{eqb}
use lib.ListN.{length, get_or}
use lib.Seq.{take_at, drop_at}
use lib.Ieee.{binary32, of_bits}
use Rattle.ground.specs.Frames.{tab}
use Rattle.ground.specs.Part.{part}
use Rattle.ground.proofs.Tab.{tab_get_d}
use Rattle.ground.proofs.Part.{part_put_below, part_put_above}
use Rattle.slots.specs.declared.slots.Slot.{Slot}
use Rattle.ground.specs.Each.{Each}
use Rattle.slot_bytes.specs.Words.{words_in, bytes, each}
use Rattle.slot_bytes.specs.Layout.{SlotF32, bits, svf_in, dc_in, string_in, voice_in, mode_in, batch_in, modal_in, slot_in, decode_slot, svf_words, dc_words}
use Rattle.slot_bytes.specs.Layout.{string_words, voice_words, mode_words, batch_words, float_words, modal_words, slot_words, flag_of, encode_slot, parts}
use Rattle.slot_bytes.specs.Layout.{decode_bank, encode_bank, with_bytes}
use Rattle.bank_abi.specs.Claims.{Numbers, DecodeEncodeBank, is_number, kept, EncodeDecode, Words, Untouched}
use Rattle.slot_bytes.proofs.Little.{length_slot_bytes}
use Rattle.slot_bytes.proofs.Stand.{byte_0, byte_1, byte_2, byte_3, word_kept}
use Rattle.bank_abi.proofs.Back.{Small, tab_same, decode_encode}

-- ---- the words of a slot that was read

abbrev again : ℕ → ℕ → ℕ
again k w = cond (is_number k) w (bits (of_bits binary32 w))

words_again : (ws : List ℕ) (h : Bool) → slot_words (slot_in ws h) ≡ tab 98 (λ k. again k (get_or ws k 0))
unfolding slot_words voice_words string_words svf_words dc_words modal_words mode_words batch_words float_words each slot_in voice_in string_in svf_in dc_in
    modal_in mode_in batch_in tab
words_again ws h = refl

small_words : (bs : List ℕ) → Each (λ b. b < 256) bs → Each Small (words_in bs)
unfolding words_in
small_words [] h = tt
small_words (a ∷ []) h = tt
small_words (a ∷ b ∷ []) h = tt
small_words (a ∷ b ∷ c ∷ []) h = tt
small_words (a ∷ b ∷ c ∷ d ∷ bs) h =
    let p = h.0 in
    let q = h.1.0 in
    let r = h.1.1.0 in
    let s = h.1.1.1.0 in
    (omega arith, small_words bs h.1.1.1.1)

small_at : (ws : List ℕ) (k : ℕ) → Each Small ws → Small (get_or ws k 0)
small_at [] k h = omega arith
small_at (w ∷ ws) zero h = h.0
small_at (w ∷ ws) (suc k) h = small_at ws k h.1

by_number : (b : Bool) (w x y : ℕ) → x ≡ y → cond b w x ≡ cond b w y
by_number b w x y e = ap (cond b w) e

flag_kept : (n : ℕ) → n < 2 → flag_of (eqb n 1) ≡ n
flag_kept zero h = refl
flag_kept (suc zero) h = refl
flag_kept (suc (suc n)) h = absurd (omega arith)

held_is : (ws : List ℕ) (h : Bool) → (slot_in ws h).modal.held ≡ h
unfolding slot_in modal_in
held_is ws h = refl

pub encode_decode : EncodeDecode
unfolding encode_slot decode_slot
encode_decode bs b =
    let ws = words_in bs in
    let f = eqb (get_or bs 392 0) 1 in
    (λ i. bytes (words_again ws f i) ++ ((ap flag_of (held_is ws f) ∙ flag_kept (get_or bs 392 0) b.flag) i ∷ []))
    ∙ ap (λ (l : List ℕ). bytes l ++ (get_or bs 392 0 ∷ []))
    (tab_same 98 (λ k. again k (get_or ws k 0)) (λ k. kept k (get_or ws k 0))
    (λ k l. by_number (is_number k) (get_or ws k 0) _ _ (word_kept (get_or ws k 0) (small_at ws k (small_words bs b.bytes)))))

-- ---- bytes are the bytes of their words

split : (n : ℕ) (bs : List ℕ) → length bs ≡ 4 * n + 1 → Each (λ b. b < 256) bs → (length (words_in bs) ≡ n)
    × (bytes (words_in bs) ++ (get_or bs (4 * n) 0 ∷ []) ≡ bs)
unfolding words_in bytes
split n [] l h = absurd (omega arith)
split zero (a ∷ []) l h = (refl, refl)
split zero (a ∷ b ∷ bs) l h = absurd (omega arith)
split (suc n) (a ∷ []) l h = absurd (omega arith)
split (suc n) (a ∷ b ∷ []) l h = absurd (omega arith)
split (suc n) (a ∷ b ∷ c ∷ []) l h = absurd (omega arith)
split (suc n) (a ∷ b ∷ c ∷ d ∷ bs) l h =
    let p = h.0 in
    let q = h.1.0 in
    let r = h.1.1.0 in
    let s = h.1.1.1.0 in
    let e : 4 * suc n ≡ suc (suc (suc (suc (4 * n)))) = omega arith in
    let m = split n bs (omega arith) h.1.1.1.1 in
    let g : get_or (a ∷ b ∷ c ∷ d ∷ bs) (4 * suc n) 0 ≡ get_or bs (4 * n) 0 = ap (λ (k : ℕ). get_or (a ∷ b ∷ c ∷ d ∷ bs) k 0) e in (
      ap suc m.0,
      (λ i. byte_0 a b c d p q r s i ∷ byte_1 a b c d p q r s i ∷ byte_2 a b c d p q r s i ∷ byte_3 a b c d p q r s i ∷ (bytes (words_in bs) ++ (g i ∷ [])))
          ∙ ap (λ (z : List ℕ). a ∷ b ∷ c ∷ d ∷ z) m.1,
    )

pub of_words : Words
of_words bs b =
    let m = split 98 bs b.size b.bytes in
    ap (λ (l : List ℕ). bytes l ++ (get_or bs 392 0 ∷ [])) (tab_get_d (words_in bs) 98 0 m.0) ∙ m.1

-- ---- another slot's bytes

pub untouched : Untouched
untouched bs new slot other l k h g d = go (dec_lt slot other)
  where
    go : Dec (slot < other) → part (393 * other) 393 (with_bytes slot new bs) ≡ part (393 * other) 393 bs
    go (yes e) = part_put_above (393 * other) 393 (393 * slot) 393 new bs (omega arith) (omega arith) k
    go (no n) = let e : other < slot = omega arith in part_put_below (393 * other) 393 (393 * slot) 393 new bs (omega arith) (omega arith)

-- ---- a whole bank

slots_back : (xs : List Slot) → Each (λ s. SlotF32 s × Numbers s) xs → map decode_slot (parts (length xs) (each encode_slot xs)) ≡ xs
unfolding parts each
slots_back [] e = refl
slots_back (x ∷ xs) e =
    let l = length_slot_bytes x e.0.0.1 in
    let rest = each encode_slot xs in
    (λ i. decode_slot (take_at (encode_slot x) rest 393 l i) ∷ map decode_slot (parts (length xs) (drop_at (encode_slot x) rest 393 l i)))
    ∙ λ i. decode_encode x e.0.0 e.0.1 i ∷ slots_back xs e.1 i

pub decode_encode_bank : DecodeEncodeBank
unfolding decode_bank encode_bank
decode_encode_bank b l e =
    λ i. record { slots = (ap (λ (n : ℕ). map decode_slot (parts n (each encode_slot b.slots))) (sym l) ∙ slots_back b.slots e) i }
