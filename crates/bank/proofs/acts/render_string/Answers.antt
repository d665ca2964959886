-- `acts::render_string` meets its contract.
use Rattle.noise.specs.Buffers.{held}
use Rattle.bank.proofs.Moves.{width, string_moved}
use Prim.Native.Nat.{◌+◌, ◌-◌, ◌*◌}
use Rattle.bank.proofs.acts.render_string.Goals as goal

pub returns-clause-moved : goal.returns-clause-moved
returns-clause-moved c = λ x one same.
    let a = c.args in
    let r = c.render in
    string_moved a.lines.now a.word a.slot (1280 * a.slot + 1280 - 1280 * a.slot) (width a.slot) a.k
    (held a.b.now)
    (held r.new.b)
    x r.result.voice r.new.lines r.result.counts r.result.word one (rw same r.ensures.all)
