-- Number 1 read off the bytes of eight slots. Assumes nothing.
use mathlib.Core.Path.{◌≡◌, refl, sym, ◌∙◌, ap}
use mathlib.Core.Bool.{Bool, true, false, ◌||◌}
use mathlib.Core.List.{List, [], ◌∷◌, map}
use Prim.Native.Nat.{ℕ}
use Rattle.std.specs.List.{list_any}
use Rattle.slots.specs.Table.{bad_slot, bad_slots}
use Rattle.slot_bytes.specs.Layout.{decode_slot}
use Rattle.bank_abi.specs.Crossing.{bad_flag, bad_flags}

abbrev pub any_bad : List (List ℕ) → Bool
any_bad ps = bad_slots (map decode_slot ps) || bad_flags ps

or_swap : (a b s t : Bool) → (a || s) || (b || t) ≡ (a || b) || (s || t)
or_swap true b s t = refl
or_swap false true true t = refl
or_swap false true false t = refl
or_swap false false s t = refl

any_more : (p : List ℕ) (ps : List (List ℕ)) → any_bad (p ∷ ps) ≡ (bad_slot (decode_slot p) || bad_flag p) || any_bad ps
unfolding bad_slots bad_flags
any_more p ps = or_swap (bad_slot (decode_slot p)) (bad_flag p) (bad_slots (map decode_slot ps)) (bad_flags ps)

-- a bad slot is one whose bytes pass the test
pub some_bad : (ps : List (List ℕ)) → list_any (λ p. bad_slot (decode_slot p) || bad_flag p) ps ≡ any_bad ps
unfolding bad_slots bad_flags
some_bad [] = refl
some_bad (p ∷ ps) = ap (λ (b : Bool). (bad_slot (decode_slot p) || bad_flag p) || b) (some_bad ps) ∙ sym (any_more p ps)
