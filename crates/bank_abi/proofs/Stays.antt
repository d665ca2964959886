-- Bytes that are a bank stay one where a slot's are replaced. Assumes nothing.
use mathlib.Core.Path.{◌≡◌, ◌∙◌, ap}
use mathlib.Core.Bool.{Bool, true, false, not}
use mathlib.Core.List.{List, [], ◌∷◌, ◌++◌}
use Prim.Native.Nat.{ℕ, zero, suc, ◌*◌, ◌<◌}
use native.Mathlib.Omega.{arith}
use lib.Dec.{eqb}
use lib.ListN.{length, get_or, set}
use lib.Seq.{get_or_at}
use borrow.Author.Tests.{eqb-true, eq-eqb, not-true}
use Rattle.ground.proofs.Part.{length_put}
use Rattle.ground.proofs.Bools.{or_false, and_true}
use Rattle.slots.specs.declared.slots.Slot.{Slot}
use Rattle.slot_bytes.specs.Words.{bytes}
use Rattle.slot_bytes.specs.Layout.{SlotF32, encode_slot, slot_words, flag_of, parts, with_bytes}
use Rattle.slot_bytes.proofs.Parts.{parts_put}
use Rattle.slot_bytes.proofs.Little.{length_bytes, length_slot, length_slot_bytes}
use Rattle.bank_abi.specs.Crossing.{bad_flag, bad_flags, is_bank}

flag_good : (s : Slot) → SlotF32 s → bad_flag (encode_slot s) ≡ false
unfolding encode_slot
flag_good s f =
    let ws = slot_words s in
    let l : length (bytes ws) ≡ 392 = length_bytes ws ∙ ap (λ (m : ℕ). 4 * m) (length_slot s f.1) in
    go s.modal.held (get_or_at (bytes ws) (flag_of s.modal.held) [] 0 392 l)
  where
    go : (h : Bool) → get_or (bytes (slot_words s) ++ (flag_of h ∷ [])) 392 0 ≡ flag_of h → bad_flag (bytes (slot_words s) ++ (flag_of h ∷ [])) ≡ false
    go true e = rw e
    go false e = rw e

flags_set : (ps : List (List ℕ)) (i : ℕ) (new : List ℕ) → bad_flag new ≡ false → bad_flags ps ≡ false → bad_flags (set ps i new) ≡ false
unfolding bad_flags
flags_set [] i new n e = e
flags_set (p ∷ ps) zero new n e = rw (n, (or_false (bad_flag p) (bad_flags ps) e).1)
flags_set (p ∷ ps) (suc i) new n e = let o = or_false (bad_flag p) (bad_flags ps) e in rw (o.0, flags_set ps i new n o.1)

pub bank_stays : (bs : List ℕ) (slot : ℕ) (s : Slot) → is_bank bs ≡ true → slot < 8 → SlotF32 s → is_bank (with_bytes slot (encode_slot s) bs) ≡ true
unfolding is_bank
bank_stays bs slot s e h f =
    let p = and_true (eqb (length bs) 3144) (not (bad_flags (parts 8 bs))) e in
    let l : length bs ≡ 3144 = eqb-true (length bs) 3144 p.0 in
    let k = length_slot_bytes s f.1 in
    let n : length (with_bytes slot (encode_slot s) bs) ≡ 3144 = length_put (393 * slot) 393 (encode_slot s) bs (omega arith) k ∙ l in
    let g : bad_flags (parts 8 (with_bytes slot (encode_slot s) bs)) ≡ false =
    ap bad_flags (parts_put 8 slot (encode_slot s) bs h (omega arith) k)
    ∙ flags_set (parts 8 bs) slot (encode_slot s) (flag_good s f) (not-true (bad_flags (parts 8 bs)) p.1) in
    rw (eq-eqb (length (with_bytes slot (encode_slot s) bs)) 3144 n, g)
