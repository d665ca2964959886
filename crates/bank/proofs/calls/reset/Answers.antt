-- `calls::reset` meets its contract: the table decides.
use Rattle.slots.specs.Calls.{reset}
use Rattle.bank.proofs.Accepted.{taken}
use Rattle.bank.proofs.Moves.{decided, refused_left}
use Rattle.bank.proofs.calls.reset.Goals as goal

pub slot_at-x-requires : goal.slot_at-x-requires
slot_at-x-requires c =
    let a = c.args in
    (taken a.bank a.lines.now (record { slot = a.slot; act = reset }) c.check_reset.ensures c.bad-bad.ensures c.kind_at-held.ensures c.in-Ok.is).slot_within

pub reset-y-requires : goal.reset-y-requires
reset-y-requires c =
    let a = c.args in
    let t = taken a.bank a.lines.now (record { slot = a.slot; act = reset }) c.check_reset.ensures c.bad-bad.ensures c.kind_at-held.ensures c.in-Ok.is in
    (t.slot_within, t.whole.size)

pub with_slot-requires : goal.with_slot-requires
with_slot-requires c =
    let a = c.args in
    (taken a.bank a.lines.now (record { slot = a.slot; act = reset }) c.check_reset.ensures c.bad-bad.ensures c.kind_at-held.ensures c.in-Ok.is).slot_within

pub returns-in-Err : goal.returns-in-Err
returns-in-Err c = λ w.
    let a = c.args in
    refused_left (record { bank = a.bank; word = w; mem = a.lines.now }) (record { slot = a.slot; act = reset }) c.in-Err.reason
    (decided (record { slot = a.slot; act = reset }) c.check_reset.ensures c.bad-bad.ensures c.kind_at-held.ensures c.in-Err.is)
