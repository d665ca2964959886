-- `bleidhvan_open` meets its contract: the table decides.
use Rattle.bank.proofs.Accepted.{asked}
use Rattle.slots.specs.Calls.{opening}
use Rattle.slot_bytes.specs.Layout.{decode_bank}
use Rattle.slots.specs.Slots.{slot_at}
use Rattle.bank_abi.proofs.Crosses.{decided, taken, refused, wrote, accepted}
use mathlib.Core.Path.{refl}
use Rattle.bank_abi.proofs.bleidhvan_open.Goals as goal

pub open-x-requires : goal.open-x-requires
open-x-requires c =
    let a = c.args in
    let t = taken a.bytes.now a.lines.now (record { slot = a.slot; act = opening a.kind a.sample_rate_hz })
    (c.check_open.ensures (slot_at (decode_bank a.bytes.now) a.slot).kind) c.bad-bad.ensures (λ _. refl) c.in-Ok.is in
    (t.slot_within, t.lines, asked (slot_at (decode_bank a.bytes.now) a.slot).kind a.kind a.sample_rate_hz t.rest)

pub put_nth-requires : goal.put_nth-requires
put_nth-requires c =
    let a = c.args in
    let t = taken a.bytes.now a.lines.now (record { slot = a.slot; act = opening a.kind a.sample_rate_hz })
    (c.check_open.ensures (slot_at (decode_bank a.bytes.now) a.slot).kind) c.bad-bad.ensures (λ _. refl) c.in-Ok.is in
    (t.slot_within, t.size)

pub returns-in-Err : goal.returns-in-Err
returns-in-Err c = λ w.
    let a = c.args in
    refused (record { bytes = a.bytes.now; word = w; mem = a.lines.now }) (record { slot = a.slot; act = opening a.kind a.sample_rate_hz }) c.in-Err.reason tt
    c.from.ensures (decided a.bytes.now a.lines.now (record { slot = a.slot; act = opening a.kind a.sample_rate_hz })
    (c.check_open.ensures (slot_at (decode_bank a.bytes.now) a.slot).kind) c.bad-bad.ensures (λ _. refl) c.in-Err.is)

pub returns-in-Ok : goal.returns-in-Ok
returns-in-Ok c = λ w.
    let a = c.args in
    let p = c.put_nth.ensures in
    accepted (record { bytes = a.bytes.now; word = w; mem = a.lines.now }) (record { slot = a.slot; act = opening a.kind a.sample_rate_hz }) _
    (taken a.bytes.now a.lines.now (record { slot = a.slot; act = opening a.kind a.sample_rate_hz })
    (c.check_open.ensures (slot_at (decode_bank a.bytes.now) a.slot).kind) c.bad-bad.ensures (λ _. refl) c.in-Ok.is) tt
    (wrote (record { bytes = a.bytes.now; word = w; mem = a.lines.now }) (record { slot = a.slot; act = opening a.kind a.sample_rate_hz })
    (slot_at (decode_bank a.bytes.now) a.slot) _ _ refl (c.open-x.ensures _ w) p.0 p.1)
