-- `settling::until_settled` meets its contract: a frame more, and the filter that is the anchor.
use mathlib.Core.Path.{◌≡◌, sym, ◌∙◌, ap}
use Prim.Native.Nat.{◌≤◌}
use native.Mathlib.Omega.{arith}
use Rattle.noise.specs.Settling.{before}
use Rattle.noise.proofs.Settled.{coming_begin, coming_turn, coming_round}
use Rattle.noise.proofs.settling.until_settled.Goals as goal
use Rattle.noise.proofs.settling.until_settled.Goals.{then-i-m, else-i-m}

pub loop-i-init : goal.loop-i-init
loop-i-init g c = coming_begin g.F.Filter.step c.args.f c.args.xs.now c.args.ys.now c.min-n.ensures

pub returns-then-is : goal.returns-then-is
returns-then-is g c =
    let a = c.args in
    let v = c.loop-i.invariant in
    let p = g.F.Filter.step in
    let k : (c.if-i-m.anchor ≡ before p a.f a.xs.now c.if-i-m.at) × (c.if-i-m.at ≤ c.loop-i.i) = elim c.if-i-m.branch [
      | then-i-m w ↦ (w.anchor-is ∙ v.filter_is ∙ ap (before p a.f a.xs.now) (sym w.at-is), omega (arith, w.at-is))
      | else-i-m w ↦ (w.anchor-is ∙ v.anchor_is ∙ ap (before p a.f a.xs.now) (sym w.at-is), omega (arith, w.at-is, v.earlier))
    ] in
    coming_round p a.f a.xs.now a.ys.now a.m (coming_turn p a.f a.xs.now a.ys.now v (omega arith) c.step-after.ensures k.0 k.1) (omega arith) k.1 (omega arith)
    (c.is.ensures c.if-is.true)

pub loop-i-preserved : goal.loop-i-preserved
loop-i-preserved g c =
    let a = c.args in
    let v = c.loop-i.invariant in
    let p = g.F.Filter.step in
    let k : (c.if-i-m.anchor ≡ before p a.f a.xs.now c.if-i-m.at) × (c.if-i-m.at ≤ c.loop-i.i) = elim c.if-i-m.branch [
      | then-i-m w ↦ (w.anchor-is ∙ v.filter_is ∙ ap (before p a.f a.xs.now) (sym w.at-is), omega (arith, w.at-is))
      | else-i-m w ↦ (w.anchor-is ∙ v.anchor_is ∙ ap (before p a.f a.xs.now) (sym w.at-is), omega (arith, w.at-is, v.earlier))
    ] in
    coming_turn p a.f a.xs.now a.ys.now v (omega arith) c.step-after.ensures k.0 k.1
