-- `resonator::States::any_small` meets its contract, by the law of loops that only count.
use mathlib.Core.Bool.{Bool, ◌||◌}
use Prim.Native.Nat.{ℕ, ◌*◌}
use Rattle.ground.proofs.Frames.{Counted}
use Rattle.modes.specs.Subnormal.{batch_small}
use Rattle.modes.proofs.resonator.States.any_small.Given as goal

abbrev pub invariant-loop-b : goal.invariant-loop-b
invariant-loop-b l = Counted (λ (b : Bool) (j : ℕ). b || batch_small l.self (4 * j)) 6 l.initial.small l.b l.small
