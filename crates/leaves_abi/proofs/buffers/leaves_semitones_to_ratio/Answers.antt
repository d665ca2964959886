-- `buffers::leaves_semitones_to_ratio` meets its contract, by the law of loops over frames.
use mathlib.Core.Path.{ap}
use native.Mathlib.Omega.{arith}
use lib.Ieee.{Float, nan}
use Rattle.ground.proofs.Frames.{frames_begin, scan_turn, scan_end}
use Rattle.leaves_abi.proofs.buffers.leaves_semitones_to_ratio.Goals as goal

pub loop-i-init : goal.loop-i-init
loop-i-init c = frames_begin

pub loop-i-preserved : goal.loop-i-preserved
loop-i-preserved c = scan_turn nan nan c.loop-i.invariant (omega arith) (ap (λ (y : Float). (tt, y)) c.semitones_to_ratio.ensures)

pub returns : goal.returns
returns c = ap (λ q. q.1) (scan_end c.loop-i.invariant (omega arith))
