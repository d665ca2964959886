-- `resonator::ArrayBatch6FromStates::from` meets its contract: each batch stands at its number.
use Prim.Native.Nat.{ℕ, ◌*◌}
use Rattle.ground.proofs.Tab.{Stored}
use Rattle.modes.specs.OnePass.{batch_at}
use Rattle.modes.proofs.resonator.ArrayBatch6FromStates.from.Given as goal

abbrev pub invariant-loop-b : goal.invariant-loop-b
invariant-loop-b l = Stored (λ (b : ℕ). batch_at l.states (4 * b)) l.initial.mode_filters l.b l.mode_filters
