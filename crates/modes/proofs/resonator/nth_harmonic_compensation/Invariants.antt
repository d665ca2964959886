-- `resonator::nth_harmonic_compensation` meets its contract, by the law of a turn more.
use mathlib.Core.Path.{◌≡◌}
use lib.Ieee.{Float}
use Rattle.ground.specs.Frames.{after}
use Rattle.modes.specs.Resonator.{compensation_step}
use Rattle.modes.proofs.resonator.nth_harmonic_compensation.Given as goal

abbrev pub invariant-loop : goal.invariant-loop
invariant-loop l = ◌≡◌ {A = Float × Float} (l.stretch_factor, l.s) (after compensation_step l.counter (l.initial.stretch_factor, l.initial.s))
