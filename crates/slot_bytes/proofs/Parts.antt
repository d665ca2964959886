-- The bytes of eight slots: a slot's part, the bank that they decode to, and a slot's bytes replaced. Assumes nothing.
use Rattle.std.specs.Simd.{first_chunks}
use mathlib.Core.Path.{◌≡◌, refl, sym, ◌∙◌, ap}
use mathlib.Core.List.{List, [], ◌∷◌, ◌++◌, map, append_assoc}
use Prim.Native.Nat.{ℕ, zero, suc, ◌+◌, ◌-◌, ◌*◌, ◌<◌, ◌≤◌}
use native.Mathlib.Omega.{arith}
use lib.ListN.{length, get_or, get_or-eq_default, take, drop, set, length-take, length-drop, length-map, take-append-drop}
use lib.Seq.{take_at, drop_at, take-append-add, drop-append-add, length-take-le, drop-drop}
use Rattle.ground.specs.Part.{put}
use Rattle.slots.specs.declared.slots.Slot.{Slot}
use Rattle.slots.specs.Slots.{empty_slot, slot_at, with_slot}
use Rattle.slot_bytes.specs.Layout.{decode_slot, parts, decode_bank, with_bytes}

-- ---- a slot's part

pub length_parts : (n : ℕ) (bs : List ℕ) → length (parts n bs) ≡ n
unfolding parts
length_parts zero bs = refl
length_parts (suc n) bs = ap suc (length_parts n (drop 393 bs))

pub part_at : (n i : ℕ) (bs : List ℕ) (d : List ℕ) → i < n → get_or (parts n bs) i d ≡ take 393 (drop (393 * i) bs)
unfolding parts
part_at zero i bs d h = absurd (omega arith)
part_at (suc n) zero bs d h = refl
part_at (suc n) (suc i) bs d h =
    let e : 393 + 393 * i ≡ 393 * suc i = omega arith in
    part_at n i (drop 393 bs) d (omega arith)
    ∙ ap (λ (l : List ℕ). take 393 l) (drop-drop (393 * i) 393 bs ∙ ap (λ (j : ℕ). drop j bs) e)

pub length_part : (i : ℕ) (bs : List ℕ) → length bs ≡ 3144 → i < 8 → length (take 393 (drop (393 * i) bs)) ≡ 393
length_part i bs l h = simp (length-take, length-drop) (omega arith)

-- the code's end less its start
pub width : (i : ℕ) → 393 * i + 393 - 393 * i ≡ 393
width i = omega arith

pub as_cut : (bs : List ℕ) (i : ℕ) → take (393 * i + 393 - 393 * i) (drop (393 * i) bs) ≡ take 393 (drop (393 * i) bs)
as_cut bs i = ap (λ (j : ℕ). take j (drop (393 * i) bs)) (width i)

-- ---- the slot that a bank has there

map_at : {A B : Type 0} (f : A → B) (l : List A) (i : ℕ) (d : A) (e : B) → i < length l → get_or (map f l) i e ≡ f (get_or l i d)
map_at f [] i d e h = absurd (omega arith)
map_at f (x ∷ xs) zero d e h = refl
map_at f (x ∷ xs) (suc i) d e h = map_at f xs i d e (omega arith)

pub slot_is : (bs : List ℕ) (slot : ℕ) → slot < 8 → slot_at (decode_bank bs) slot ≡ decode_slot (take 393 (drop (393 * slot) bs))
unfolding decode_bank
slot_is bs slot h =
    let l = length_parts 8 bs in
    map_at decode_slot (parts 8 bs) slot [] empty_slot (omega arith) ∙ ap decode_slot (part_at 8 slot bs [] h)

-- the slot that an element of the parts decodes to
pub slot_of : (bs : List ℕ) (slot : ℕ) (d : List ℕ) → slot < 8 → decode_slot (get_or (parts 8 bs) slot d) ≡ slot_at (decode_bank bs) slot
unfolding decode_bank
slot_of bs slot d h =
    let l = length_parts 8 bs in
    sym (map_at decode_slot (parts 8 bs) slot d empty_slot (omega arith))

-- the parts are the chunks that the library cuts
pub parts_are : (n : ℕ) (bs : List ℕ) → first_chunks 393 n bs ≡ parts n bs
unfolding parts
parts_are zero bs = refl
parts_are (suc n) bs = ap (λ (ps : List (List ℕ)). take 393 bs ∷ ps) (parts_are n (drop 393 bs))

-- the slot's bytes as the code cuts them
pub slot_cut : (bs : List ℕ) (slot : ℕ) → slot < 8 → decode_slot (take (393 * slot + 393 - 393 * slot) (drop (393 * slot) bs)) ≡ slot_at (decode_bank bs) slot
slot_cut bs slot h = ap decode_slot (as_cut bs slot) ∙ sym (slot_is bs slot h)

pub slot_none : (bs : List ℕ) (slot : ℕ) → 7 < slot → 0 ≡ (slot_at (decode_bank bs) slot).kind
unfolding decode_bank empty_slot
slot_none bs slot h =
    let l = length_parts 8 bs in
    let m = length-map (parts 8 bs) decode_slot in
    sym (ap (λ (x : Slot). x.kind) (get_or-eq_default (map decode_slot (parts 8 bs)) empty_slot (omega arith)))

-- ---- a slot's bytes replaced

put_past : (p q new : List ℕ) (m : ℕ) → length p ≡ 393 → put (393 + m) 393 new (p ++ q) ≡ p ++ put m 393 new q
unfolding put
put_past p q new m l =
    ap (λ (n : ℕ). take (n + m) (p ++ q) ++ (new ++ drop 393 (drop (n + m) (p ++ q)))) (sym l)
    ∙ ap (λ (z : List ℕ). z ++ (new ++ drop 393 (drop (length p + m) (p ++ q)))) (take-append-add p q m)
    ∙ ap (λ (z : List ℕ). (p ++ take m q) ++ (new ++ drop 393 z)) (drop-append-add p q m)
    ∙ append_assoc p (take m q) (new ++ drop 393 (drop m q))

pub parts_put : (n i : ℕ) (new bs : List ℕ) → i < n → 393 * n ≤ length bs → length new ≡ 393 → parts n (put (393 * i) 393 new bs) ≡ set (parts n bs) i new
unfolding parts put
parts_put zero i new bs h l k = absurd (omega arith)
parts_put (suc n) zero new bs h l k =
    λ t. take_at new (drop 393 bs) 393 k t ∷ parts n (drop_at new (drop 393 bs) 393 k t)
parts_put (suc n) (suc i) new bs h l k =
    let p = take 393 bs in
    let q = drop 393 bs in
    let lp : length p ≡ 393 = length-take-le 393 bs (omega arith) in
    let e : 393 * suc i ≡ 393 + 393 * i = omega arith in
    let lq : 393 * n ≤ length q = simp length-drop (omega arith) in
    let x : put (393 * suc i) 393 new bs ≡ p ++ put (393 * i) 393 new q =
    ap (λ (j : ℕ). put j 393 new bs) e ∙ ap (put (393 + 393 * i) 393 new) (sym (take-append-drop 393 bs)) ∙ put_past p q new (393 * i) lp in
    ap (parts (suc n)) x
    ∙ (λ t. take_at p (put (393 * i) 393 new q) 393 lp t ∷ parts n (drop_at p (put (393 * i) 393 new q) 393 lp t))
    ∙ ap (λ (ps : List (List ℕ)). p ∷ ps) (parts_put n i new q (omega arith) lq k)

map_set : {A B : Type 0} (f : A → B) (l : List A) (i : ℕ) (x : A) → map f (set l i x) ≡ set (map f l) i (f x)
map_set f [] i x = refl
map_set f (y ∷ l) zero x = refl
map_set f (y ∷ l) (suc i) x = ap (λ z. f y ∷ z) (map_set f l i x)

pub bank_after : (bs new : List ℕ) (slot : ℕ) (x : Slot) → length bs ≡ 3144 → slot < 8 → length new ≡ 393 → decode_slot new ≡ x
    → decode_bank (with_bytes slot new bs) ≡ with_slot (decode_bank bs) slot x
unfolding decode_bank
bank_after bs new slot x l h k e =
    λ t. record {
      slots = (ap (map decode_slot) (parts_put 8 slot new bs h (omega arith) k) ∙ map_set decode_slot (parts 8 bs) slot new
          ∙ ap (set (map decode_slot (parts 8 bs)) slot) e) t;
    }

-- what the code leaves where it writes a slot's part
pub put_cut : (bs new : List ℕ) (slot : ℕ) {zs : List ℕ} → zs ≡ new
    → take (393 * slot) bs ++ (zs ++ drop (393 * slot + 393 - 393 * slot) (drop (393 * slot) bs)) ≡ with_bytes slot new bs
unfolding put
put_cut bs new slot {zs} e =
    ap (λ (z : List ℕ). take (393 * slot) bs ++ (z ++ drop (393 * slot + 393 - 393 * slot) (drop (393 * slot) bs))) e
    ∙ ap (λ (j : ℕ). take (393 * slot) bs ++ (new ++ drop j (drop (393 * slot) bs))) (width slot)
