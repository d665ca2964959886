-- `excitation::add_into` meets its contract, by the law of loops over frames.
use mathlib.Core.Path.{refl, ap}
use native.Mathlib.Omega.{arith}
use lib.Ieee.{nan}
use Rattle.ground.proofs.Frames.{frames_begin, scan_turn, scan_end}
use Rattle.noise.proofs.excitation.add_into.Goals as goal

pub loop-i-init : goal.loop-i-init
loop-i-init c = frames_begin

pub loop-i-preserved : goal.loop-i-preserved
loop-i-preserved c = scan_turn nan nan c.loop-i.invariant (omega arith) refl

pub returns : goal.returns
returns c = ap (λ q. q.1) (scan_end c.loop-i.invariant (omega arith))
