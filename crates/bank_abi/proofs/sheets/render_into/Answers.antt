-- `sheets::render_into` meets its contract: the buffers are those lent.
use Rattle.std.proofs.Common.{rules}
use Rattle.noise.proofs.Lent.{lent_back}
use Rattle.slots.specs.Answers.{number_of, counts_of}
use Rattle.slots.specs.Calls.{render}
use Rattle.slots.specs.Table.{Call}
use Rattle.bank_abi.specs.Crossing.{Crossing, Gives}
use Rattle.bank_abi.proofs.sheets.render_into.Goals as goal

pub returns : goal.returns
returns c =
    let a = c.args in
    let r = c.answered in
    let x : Crossing = record { bytes = a.bytes.now; word = a.word; mem = a.lines.now } in
    let after : Crossing = record { bytes = r.new.bytes; word = r.result.word; mem = r.new.lines } in
    let call : Call = record { slot = a.slot; act = render a.k (record { temp = a.temp.now; temp2 = a.temp_2.now; out = a.out.now; aux = a.aux.now }) } in
    lent_back (search rules) (search rules) (search rules) (search rules)
    (λ v. Gives x call (record { number = number_of r.result.answer; counts = counts_of r.result.answer; after = after; bufs = v }))
    r.ensures.gives
