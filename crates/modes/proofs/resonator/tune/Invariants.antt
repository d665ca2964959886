-- `resonator::tune` meets its contract, by the law of loops that store a value at each place.
use mathlib.Core.Path.{◌≡◌}
use lib.ListN.{get_or}
use lib.Ieee.{nan}
use Rattle.ground.proofs.Tab.{Stored}
use Rattle.modes.specs.Resonator.{frequency, resonance, amplitude}
use Rattle.modes.specs.OnePass.{partial_at}
use Rattle.modes.proofs.resonator.tune.Given as goal

abbrev pub invariant-loop-i : goal.invariant-loop-i
invariant-loop-i l =
    (l.p ≡ partial_at l.f0 l.q_loss l.initial.p l.i)
    × Stored (λ m. frequency (partial_at l.f0 l.q_loss l.initial.p m)) l.initial.t.f l.i l.t.f
    × Stored (λ m. resonance (partial_at l.f0 l.q_loss l.initial.p m)) l.initial.t.q l.i l.t.q
    × Stored (λ m. amplitude (get_or l.mode_amplitude m nan) (partial_at l.f0 l.q_loss l.initial.p m)) l.initial.t.a l.i l.t.a
