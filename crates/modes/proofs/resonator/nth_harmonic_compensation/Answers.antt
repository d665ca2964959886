-- `resonator::nth_harmonic_compensation` meets its contract, by the law of a turn more.
use mathlib.Core.Path.{◌≡◌, ap, ◌∙◌}
use Prim.Native.Nat.{ℕ, ◌-◌}
use lib.Ieee.{Float}
use Rattle.ground.specs.F32.{◌⊕◌, ◌⊘◌, c1}
use Rattle.ground.specs.Frames.{after}
use Rattle.ground.proofs.Frames.{after_turn}
use Rattle.modes.specs.Resonator.{compensation_step, nth_harmonic_compensation}
use native.Mathlib.Omega.{arith}
use Rattle.modes.proofs.resonator.nth_harmonic_compensation.Goals as goal

pub loop-preserved : goal.loop-preserved
loop-preserved c =
    let l = c.loop in
    after_turn compensation_step l.counter (c1, c.args.stiffness) l.invariant (λ j. (l.stretch_factor ⊕ l.s, c.shrink-s.ensures j))

pub returns : goal.returns
unfolding nth_harmonic_compensation
returns c =
    let a = c.args in
    let l = c.loop in
    let e : l.counter ≡ a.n - 1 = omega arith in
    ap (λ (u : Float × Float). c1 ⊘ u.0) (l.invariant ∙ ap (λ (m : ℕ). after compensation_step m (c1, a.stiffness)) e)
