-- `acts::render_modal` meets its contract.
use Rattle.noise.specs.Buffers.{held}
use Rattle.bank.proofs.Moves.{modal_moved}
use mathlib.Core.Path.{refl}
use Rattle.bank.proofs.acts.render_modal.Goals as goal

pub returns-clause-moved : goal.returns-clause-moved
returns-clause-moved c = λ mem.
    let a = c.args in
    let r = c.render-m in
    rw c.with.ensures (modal_moved mem a.word a.slot 1280 refl a.k
    (held a.b.now)
    (held r.new.b)
    a.x r.result.voice r.result.counts r.result.word c.requires.0 r.ensures.all)
