-- `resonator::Resonator::process` meets its contract: one pass is the batches one after the other.
use mathlib.Core.Path.{◌∙◌}
use Rattle.modes.proofs.OnePass.{mapped_length, ran, processed}
use borrow.Author.Rules.{rules}
use Rattle.modes.proofs.resonator.Resonator.process.Goals as goal
use Rattle.modes.proofs.resonator.Resonator.process.Goals.{then-around, else-around}

pub returns : goal.returns
returns c =
    let a = c.args in
    let k = c.modes_for-k.result in
    processed a.self a.f0 a.structure a.brightness a.damping a.in_.now a.out.now (search (mapped_length, rules, c)) c.modes_for-k.ensures
    (ran k a.self.mode_filters a.in_.now a.out.now c.from-states.ensures (elim c.if-around.branch [
      | then-around w ↦ (λ j. (w.states-is j, w.out-is j)) ∙ w.run_frames.ensures
      | else-around w ↦ (λ j. (w.states-is j, w.out-is j)) ∙ w.run_frames-else-around.ensures
    ]) c.into.ensures)
