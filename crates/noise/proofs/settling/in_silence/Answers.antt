-- `settling::in_silence` meets its contract: a turn more at each frame.
use mathlib.Core.Path.{ap}
use Rattle.noise.specs.Settling.{quiet}
use Rattle.ground.proofs.Frames.{after_turn}
use Rattle.noise.proofs.settling.in_silence.Goals as goal

pub loop-preserved : goal.loop-preserved
loop-preserved g c = after_turn (quiet g.F.Filter.step) c.loop.counter c.args.f c.loop.invariant (ap (λ q. q.0) c.step-filter.ensures)
