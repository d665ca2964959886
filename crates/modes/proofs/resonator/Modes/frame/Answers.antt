-- `resonator::Modes::frame` meets its contract, by the law of loops that only count.
use mathlib.Core.Path.{◌∙◌, ap}
use native.Mathlib.Omega.{arith}
use Rattle.ground.proofs.Frames.{counted_begin, counted_turn, counted_end}
use Rattle.modes.specs.OnePass.{Bands, add_batches, frame_of}
use Rattle.modes.proofs.resonator.Modes.frame.Goals as goal
use Rattle.modes.proofs.resonator.Modes.frame.Goals.{then-this-ne0+then-batch_small, else-this-ne0}

pub loop-b-init : goal.loop-b-init
loop-b-init g c = counted_begin

pub loop-b-preserved : goal.loop-b-preserved
loop-b-preserved g c =
    counted_turn c.loop-b.invariant (omega arith) (elim c.if-this-ne0.branch [
      | then-this-ne0+then-batch_small w ↦ (λ j. record { states = w.states-is j; bands = w.bands-is j }) ∙ w.tick_batch.ensures
      | else-this-ne0 w ↦ (λ j. record { states = w.states-is j; bands = w.bands-is j }) ∙ w.tick_batch-else-this-ne0.ensures
    ])

pub returns : goal.returns
unfolding frame_of
returns g c =
    let e = counted_end c.loop-b.invariant (omega arith) in
    λ j. ((e j).states, (c.add_batches.ensures ∙ ap (λ (b : Bands). add_batches c.args.y b.bands) e) j)
