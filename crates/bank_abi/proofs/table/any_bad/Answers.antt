-- `table::any_bad` meets its contract: the call's result is the test of some slot's bytes, and so is the definition.
use Rattle.std.proofs.Common.{rules, tests, ◌∙◌, ◌||◌}
use Rattle.std.proofs.lemmas.Iterator.{YieldsList-from_slice}
use Rattle.std.proofs.lemmas.Iterator.Search.{any_from_yields_List}
use Rattle.slots.specs.Table.{bad_slot}
use Rattle.slot_bytes.specs.Layout.{decode_slot}
use Rattle.bank_abi.specs.Crossing.{bad_flag}
use Rattle.bank_abi.proofs.NumberOne.{some_bad}
use Rattle.bank_abi.proofs.table.any_bad.Goals as goal

pub returns : goal.returns
returns c =
    let ps = c.args.slots.now in
    let e = any_from_yields_List (λ p. bad_slot (decode_slot p) || bad_flag p) _ _ c.any.result c.any.ensures.ran (YieldsList-from_slice ps cc)
    (λ x b q k. search (rules, tests)) in
    e ∙ some_bad ps
