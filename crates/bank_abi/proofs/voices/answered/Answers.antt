-- `voices::answered` meets its contract: the table decides.
use Rattle.std.proofs.Common.{rules, refl}
use Rattle.bank.proofs.Accepted.{ready, alike_lent}
use Rattle.noise.specs.Buffers.{held}
use Rattle.slots.specs.Calls.{render}
use Rattle.slots.specs.Slots.{slot_at}
use Rattle.slots.specs.Table.{Call}
use Rattle.slot_bytes.specs.Layout.{decode_bank}
use Rattle.bank_abi.proofs.Crosses.{kind_read, decided, taken, refused, accepted}
use Rattle.bank_abi.proofs.voices.answered.Goals as goal

pub render-r-requires : goal.render-r-requires
render-r-requires c =
    let a = c.args in
    let n = (slot_at (decode_bank a.bytes.now) a.slot).kind in
    let call : Call = record { slot = a.slot; act = render a.k (held a.b.now) } in
    let r = kind_read a.bytes.now a.lines.now call c.kind_at-kind.ensures in
    let t = taken a.bytes.now a.lines.now call c.check_lent.ensures c.requires r c.in-Ok.is in (
      r t.size,
      ready n a.k (held a.b.now) t.rest (slot_at (decode_bank a.bytes.now) a.slot) a.lines.now a.slot refl t.sound t.lines t.slot_within,
      alike_lent n a.k (held a.b.now) t.rest,
      t.size,
    )

pub returns-in-Err-clause-gives : goal.returns-in-Err-clause-gives
returns-in-Err-clause-gives c =
    let a = c.args in
    let call : Call = record { slot = a.slot; act = render a.k (held a.b.now) } in
    let r = kind_read a.bytes.now a.lines.now call c.kind_at-kind.ensures in
    refused (record { bytes = a.bytes.now; word = a.word; mem = a.lines.now }) call c.in-Err.reason (search rules) refl
    (decided a.bytes.now a.lines.now call c.check_lent.ensures c.requires r c.in-Err.is)

pub returns-in-Ok-clause-gives : goal.returns-in-Ok-clause-gives
returns-in-Ok-clause-gives c =
    let a = c.args in
    let call : Call = record { slot = a.slot; act = render a.k (held a.b.now) } in
    let r = kind_read a.bytes.now a.lines.now call c.kind_at-kind.ensures in
    accepted (record { bytes = a.bytes.now; word = a.word; mem = a.lines.now }) call _
    (taken a.bytes.now a.lines.now call c.check_lent.ensures c.requires r c.in-Ok.is) (search rules) c.render-r.ensures.wrote
