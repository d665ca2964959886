-- `table::bad_slots` meets its contract: the call's result is the test of some slot, and so is the definition.
use Rattle.std.proofs.Common.{refl, ap, rules, tests, ◌≡◌, ◌∙◌, ◌||◌, Bool, List, [], ◌∷◌}
use Rattle.std.specs.List.{list_any}
use Rattle.std.proofs.lemmas.Iterator.{YieldsList-from_slice}
use Rattle.std.proofs.lemmas.Iterator.Search.{any_from_yields_List}
use Rattle.slots.specs.declared.slots.Slot.{Slot}
use Rattle.slots.specs.Table.{bad_slot, bad_slots}
use Rattle.slots.proofs.table.bad_slots.Goals as goal

some_bad : (xs : List Slot) → list_any bad_slot xs ≡ bad_slots xs
unfolding bad_slots
some_bad [] = refl
some_bad (x ∷ xs) = ap (λ (b : Bool). bad_slot x || b) (some_bad xs)

pub returns : goal.returns
returns c =
    let xs = c.args.bank.slots in
    let e = any_from_yields_List bad_slot _ _ c.any.result c.any.ensures.ran (YieldsList-from_slice xs cc) (λ x b q k. search (rules, tests)) in
    e ∙ some_bad xs
