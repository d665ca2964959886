-- `bleidhvan_render` meets its contract: the buffers are those lent, and the answer's counts are written.
use Rattle.std.proofs.Common.{rules, sym, subst}
use Rattle.noise.specs.Buffers.{held}
use Rattle.noise.specs.declared.excitation.Knobs.{Knobs}
use Rattle.noise.proofs.Lent.{lent_back}
use Rattle.slots.specs.Calls.{Bufs, render}
use Rattle.slots.specs.Table.{Call}
use Rattle.bank_abi.specs.Crossing.{Crossing, Crossed, Gives}
use Rattle.bank_abi.proofs.bleidhvan_render.Goals as goal

pub returns : goal.returns
returns c =
    let a = c.args in
    let r = c.answered-r in
    let k : Knobs = record {
      sustain = a.sustain;
      trigger = a.trigger;
      accent = a.accent;
      f0 = a.f0;
      structure = a.structure;
      brightness = a.brightness;
      damping = a.damping;
    } in
    let u : Bufs = record { temp = a.temp.now; temp2 = a.temp_2.now; out = a.out.now; aux = a.aux.now } in
    let x : Crossing = record { bytes = a.bytes.now; word = a.word.now; mem = a.lines.now } in
    let after : Crossing = record { bytes = r.new.bytes; word = r.result.word; mem = r.new.lines } in
    let call : Call = record { slot = a.slot; act = render k u } in
    lent_back (search rules) (search rules) (search rules) (search rules)
    (λ v. Gives x call (record { number = c.number_of.result; counts = c.counts_of-counts.result; after = after; bufs = v }))
    (subst (λ (y : Crossed). Gives x call y)
    (λ i. record { number = sym c.number_of.ensures i; counts = sym c.counts_of-counts.ensures i; after = after; bufs = held r.new.b })
    r.ensures.gives)
