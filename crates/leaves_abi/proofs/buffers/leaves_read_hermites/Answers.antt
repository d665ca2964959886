-- `buffers::leaves_read_hermites` meets its contract, by the law of loops over frames.
use mathlib.Core.Path.{ap}
use native.Mathlib.Omega.{arith}
use lib.Ieee.{Float, nan}
use borrow.Author.Tests.{le-ltb, lt-leb}
use Rattle.ground.specs.Part.{part}
use Rattle.ground.proofs.Frames.{frames_begin, scan_turn, scan_end}
use Rattle.leaves_abi.proofs.buffers.leaves_read_hermites.Goals as goal

pub loop-i-init : goal.loop-i-init
loop-i-init c = frames_begin

pub loop-i-preserved : goal.loop-i-preserved
unfolding part
loop-i-preserved c = scan_turn nan nan c.loop-i.invariant (omega arith) (ap (λ (y : Float). (tt, y)) c.read_hermite.ensures)

pub returns : goal.returns
returns c = rw (le-ltb _ _ c.if-line-lt1024.false, lt-leb _ _ c.if-write_ptr-ge1024.false) (ap (λ q. q.1) (scan_end c.loop-i.invariant (omega arith)))
