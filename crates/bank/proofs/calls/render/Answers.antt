-- `calls::render` meets its contract: the table decides.
use Rattle.noise.specs.Buffers.{held}
use Rattle.slots.specs.Slots.{slot_at}
use Rattle.slots.specs.Calls.{Bufs, render}
use Rattle.bank.proofs.Accepted.{taken, ready, alike_lent}
use Rattle.bank.proofs.Moves.{decided, refused_left}
use Rattle.bank.proofs.calls.render.Goals as goal

pub slot_at-x-requires : goal.slot_at-x-requires
slot_at-x-requires c =
    let a = c.args in
    (taken a.bank a.lines.now (record { slot = a.slot; act = render a.k (held a.b.now) }) c.check_lent.ensures c.bad-bad.ensures c.kind_at-held.ensures
    c.in-Ok.is).slot_within

pub render-r-requires : goal.render-r-requires
render-r-requires c =
    let a = c.args in
    let u : Bufs = held a.b.now in
    let x = c.slot_at-x in
    let t = taken a.bank a.lines.now (record { slot = a.slot; act = render a.k (held a.b.now) }) c.check_lent.ensures c.bad-bad.ensures c.kind_at-held.ensures
    c.in-Ok.is in
    let n = (slot_at a.bank a.slot).kind in
    (ready n a.k u t.rest x.result a.lines.now a.slot (rw x.ensures) (rw x.ensures t.whole.sound) t.whole.size t.slot_within, alike_lent n a.k u t.rest)

pub with_slot-after-requires : goal.with_slot-after-requires
with_slot-after-requires c =
    let a = c.args in
    (taken a.bank a.lines.now (record { slot = a.slot; act = render a.k (held a.b.now) }) c.check_lent.ensures c.bad-bad.ensures c.kind_at-held.ensures
    c.in-Ok.is).slot_within

pub returns-in-Err-clause-left : goal.returns-in-Err-clause-left
returns-in-Err-clause-left c =
    let a = c.args in
    refused_left (record { bank = a.bank; word = a.word; mem = a.lines.now }) (record { slot = a.slot; act = render a.k (held a.b.now) }) c.in-Err.reason
    (decided (record { slot = a.slot; act = render a.k (held a.b.now) }) c.check_lent.ensures c.bad-bad.ensures c.kind_at-held.ensures c.in-Err.is)
