-- `settling::in_silence` meets its contract: a turn more at each frame.
use Rattle.ground.specs.Frames.{after}
use Rattle.noise.specs.Settling.{quiet}
use mathlib.Core.Path.{◌≡◌}
use Rattle.noise.proofs.settling.in_silence.Given as goal

abbrev pub invariant-loop : goal.invariant-loop
invariant-loop g l = l.filter ≡ after (quiet g.F.Filter.step) l.counter l.fn.f
