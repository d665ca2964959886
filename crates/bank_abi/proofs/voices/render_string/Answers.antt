-- `voices::render_string` meets its contract.
use Rattle.noise.specs.Buffers.{held}
use mathlib.Core.Path.{refl, sym}
use Rattle.slots.specs.Calls.{Bufs, render}
use Rattle.slots.specs.Slots.{slot_at}
use Rattle.slot_bytes.specs.Layout.{decode_bank}
use Rattle.bank_abi.proofs.Crosses.{wrote}
use Rattle.bank_abi.proofs.voices.render_string.Goals as goal

pub returns-clause-wrote : goal.returns-clause-wrote
returns-clause-wrote c =
    let a = c.args in
    let x = slot_at (decode_bank a.bytes.now) a.slot in
    let u : Bufs = held a.b.now in
    let p = c.put_nth.ensures in
    rw c.with.ensures (wrote (record { bytes = a.bytes.now; word = a.word; mem = a.lines.now }) (record { slot = a.slot; act = render a.k u }) x _ _ refl
    (c.render_string-r.ensures.moved x c.requires.0 (sym c.string_nth-voice.ensures)) p.0 p.1)
