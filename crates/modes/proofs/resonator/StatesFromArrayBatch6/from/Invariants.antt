-- `resonator::StatesFromArrayBatch6::from` meets its contract: one batch after the other is put to its places.
use mathlib.Core.Path.{◌≡◌}
use Rattle.modes.proofs.OnePass.{put_first}
use Rattle.modes.proofs.resonator.StatesFromArrayBatch6.from.Given as goal

abbrev pub invariant-loop-b : goal.invariant-loop-b
invariant-loop-b l = l.states ≡ put_first l.mode_filters l.b l.initial.states
