-- `calls::open` meets its contract: the table decides.
use mathlib.Core.Path.{refl}
use Rattle.slots.specs.Slots.{slot_at}
use Rattle.slots.specs.Calls.{opening}
use Rattle.bank.proofs.Accepted.{taken, asked}
use Rattle.bank.proofs.Moves.{decided, refused_left}
use Rattle.bank.proofs.calls.open.Goals as goal

pub open-x-requires : goal.open-x-requires
open-x-requires c =
    let a = c.args in
    let n = (slot_at a.bank a.slot).kind in
    let t = taken a.bank a.lines.now (record { slot = a.slot; act = opening a.kind a.sample_rate_hz }) (c.check_open.ensures n) c.bad-bad.ensures refl
    c.in-Ok.is in
    (t.slot_within, t.whole.size, asked n a.kind a.sample_rate_hz t.rest)

pub with_slot-requires : goal.with_slot-requires
with_slot-requires c =
    let a = c.args in
    (taken a.bank a.lines.now (record { slot = a.slot; act = opening a.kind a.sample_rate_hz }) (c.check_open.ensures (slot_at a.bank a.slot).kind)
    c.bad-bad.ensures refl c.in-Ok.is).slot_within

pub returns-in-Err : goal.returns-in-Err
returns-in-Err c = λ w.
    let a = c.args in
    refused_left (record { bank = a.bank; word = w; mem = a.lines.now }) (record { slot = a.slot; act = opening a.kind a.sample_rate_hz }) c.in-Err.reason
    (decided (record { slot = a.slot; act = opening a.kind a.sample_rate_hz }) (c.check_open.ensures (slot_at a.bank a.slot).kind) c.bad-bad.ensures refl
    c.in-Err.is)
