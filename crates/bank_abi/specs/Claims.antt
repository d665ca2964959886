-- What is claimed of the layout by itself. Assumes nothing.
use Rattle.std.specs.Prelude.{◌≡◌, Bool, ◌||◌, cond, List, [], ◌∷◌, ◌++◌, ℕ, ◌*◌, ◌<◌, ◌^◌, eqb, length, get_or}
use Rattle.std.specs.Float.{binary32}
use Rattle.std.specs.Float.Ieee.{nan_bits}
use Rattle.ground.specs.Frames.{tab}
use Rattle.ground.specs.Part.{part}
use Rattle.slots.specs.declared.slots.Slot.{Slot}
use Rattle.slots.specs.declared.slots.Bank.{Bank}
use Rattle.ground.specs.Each.{Each}
use Rattle.slot_bytes.specs.Words.{words_in, bytes}
use Rattle.slot_bytes.specs.Layout.{SlotF32, decode_slot, encode_slot, decode_bank, encode_bank, with_bytes}

-- a slot whose numbers have 32 bits
pub record Numbers (s : Slot) : Type 0 where
  pub kind : s.kind < 2 ^ 32
  pub string : s.string.string.string < 2 ^ 32
  pub stretch : s.string.string.stretch < 2 ^ 32
  pub left : s.string.remaining_noise_samples < 2 ^ 32

-- decode after encode is the identity
abbrev pub DecodeEncode : Type 0
DecodeEncode = (s : Slot) → SlotF32 s → Numbers s → decode_slot (encode_slot s) ≡ s

-- and so for a whole bank, a fresh one too
abbrev pub DecodeEncodeBank : Type 0
DecodeEncodeBank = (b : Bank) → length b.slots ≡ 8 → Each (λ s. SlotF32 s × Numbers s) b.slots → decode_bank (encode_bank b) ≡ b

-- the words of a slot that are numbers: kind, the two places, left
abbrev pub is_number : ℕ → Bool
is_number k = eqb k 0 || eqb k 6 || eqb k 7 || eqb k 23

-- the k-th word after decode and encode: a NaN's pattern becomes the one NaN's, and every other word is kept
abbrev pub kept : ℕ → ℕ → ℕ
kept k w = cond (is_number k) w (cond (nan_bits binary32 w) 0x7fc00000 w)

-- a slot's bytes, with a flag
pub record SlotBytes (bs : List ℕ) : Type 0 where
  pub size : length bs ≡ 393
  pub bytes : Each (λ b. b < 256) bs
  pub flag : get_or bs 392 0 < 2

-- encode after decode
abbrev pub EncodeDecode : Type 0
EncodeDecode = (bs : List ℕ) → SlotBytes bs → encode_slot (decode_slot bs) ≡ bytes (tab 98 (λ k. kept k (get_or (words_in bs) k 0))) ++ (get_or bs 392 0 ∷ [])

-- a slot's bytes are the bytes of its words, and its flag
abbrev pub Words : Type 0
Words = (bs : List ℕ) → SlotBytes bs → bytes (tab 98 (λ k. get_or (words_in bs) k 0)) ++ (get_or bs 392 0 ∷ []) ≡ bs

-- another slot's bytes are kept
abbrev pub Untouched : Type 0
Untouched = (bs new : List ℕ) (slot other : ℕ) → length bs ≡ 3144 → length new ≡ 393 → slot < 8 → other < 8 → (slot ≡ other → ⊥)
    → part (393 * other) 393 (with_bytes slot new bs) ≡ part (393 * other) 393 bs
