-- `bleidhvan_reset` meets its contract: the table decides.
use mathlib.Core.Path.{refl, sym}
use Rattle.slots.specs.Slots.{slot_at}
use Rattle.slots.specs.Calls.{reset}
use Rattle.slot_bytes.specs.Layout.{decode_bank}
use Rattle.bank_abi.proofs.Crosses.{kind_read, decided, taken, refused, wrote, accepted}
use Rattle.bank_abi.proofs.bleidhvan_reset.Goals as goal

pub string_nth-voice-requires : goal.string_nth-voice-requires
string_nth-voice-requires c =
    let a = c.args in
    let t = taken a.bytes.now a.lines.now (record { slot = a.slot; act = reset }) c.check_reset.ensures c.bad-bad.ensures
    (kind_read a.bytes.now a.lines.now (record { slot = a.slot; act = reset }) c.kind_at-kind.ensures) c.in-Ok.is in
    (t.slot_within, t.size)

pub reset_string-after-requires : goal.reset_string-after-requires
reset_string-after-requires c =
    let a = c.args in
    let t = taken a.bytes.now a.lines.now (record { slot = a.slot; act = reset }) c.check_reset.ensures c.bad-bad.ensures
    (kind_read a.bytes.now a.lines.now (record { slot = a.slot; act = reset }) c.kind_at-kind.ensures) c.in-Ok.is in
    (t.slot_within, t.lines)

pub put_nth-requires : goal.put_nth-requires
put_nth-requires c =
    let a = c.args in
    let t = taken a.bytes.now a.lines.now (record { slot = a.slot; act = reset }) c.check_reset.ensures c.bad-bad.ensures
    (kind_read a.bytes.now a.lines.now (record { slot = a.slot; act = reset }) c.kind_at-kind.ensures) c.in-Ok.is in
    (t.slot_within, t.size)

pub returns-in-Err : goal.returns-in-Err
returns-in-Err c = λ w.
    let a = c.args in
    refused (record { bytes = a.bytes.now; word = w; mem = a.lines.now }) (record { slot = a.slot; act = reset }) c.in-Err.reason tt c.from.ensures
    (decided a.bytes.now a.lines.now (record { slot = a.slot; act = reset }) c.check_reset.ensures c.bad-bad.ensures
    (kind_read a.bytes.now a.lines.now (record { slot = a.slot; act = reset }) c.kind_at-kind.ensures) c.in-Err.is)

pub returns-in-Ok : goal.returns-in-Ok
returns-in-Ok c = λ w.
    let a = c.args in
    let x = slot_at (decode_bank a.bytes.now) a.slot in
    let p = c.put_nth.ensures in
    accepted (record { bytes = a.bytes.now; word = w; mem = a.lines.now }) (record { slot = a.slot; act = reset }) _
    (taken a.bytes.now a.lines.now (record { slot = a.slot; act = reset }) c.check_reset.ensures c.bad-bad.ensures
    (kind_read a.bytes.now a.lines.now (record { slot = a.slot; act = reset }) c.kind_at-kind.ensures) c.in-Ok.is) tt
    (wrote (record { bytes = a.bytes.now; word = w; mem = a.lines.now }) (record { slot = a.slot; act = reset }) x _ _ refl
    (c.reset_string-after.ensures x w (sym c.string_nth-voice.ensures)) p.0 p.1)
