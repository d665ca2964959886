-- `settling::silent_from` meets its contract: what was looked at from m on is silent.
use mathlib.Core.Path.{subst, sym}
use Prim.Native.Nat.{ℕ, ◌+◌}
use native.Mathlib.Omega.{arith}
use Rattle.noise.proofs.Settled.{SilentSoFar, silent_turn, silent_anew}
use Rattle.noise.proofs.settling.silent_from.Goals as goal
use Rattle.noise.proofs.settling.silent_from.Goals.{then-not-same, else-not-same}

pub loop-i-init : goal.loop-i-init
loop-i-init c = silent_anew c.args.xs.now 0

pub loop-i-preserved : goal.loop-i-preserved
loop-i-preserved c =
    let xs = c.args.xs.now in
    let i = c.loop-i.i in
    elim c.if-not-same.branch [
      | then-not-same w ↦ subst (λ (m : ℕ). SilentSoFar xs m (i + 1)) (sym w.m-is) (silent_anew xs (i + 1))
      | else-not-same w ↦ subst (λ (m : ℕ). SilentSoFar xs m (i + 1)) (sym w.m-is) (silent_turn xs c.loop-i.invariant (c.same.ensures.1 w.if-not-same.false))
    ]

pub returns : goal.returns
returns c = λ k l h. c.loop-i.invariant.silent k l (omega arith)
