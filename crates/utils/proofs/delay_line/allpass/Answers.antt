-- `delay_line::allpass` meets its contract.
use mathlib.Core.Path.{ap}
use Prim.Native.Nat.{◌+◌, ◌%◌}
use native.Mathlib.Omega.{arith}
use lib.ListN.{length}
use Rattle.utils.specs.DelayLine.{allpass}
use Rattle.utils.proofs.DelayLine.{tap_round}
use Rattle.utils.proofs.delay_line.allpass.Goals as goal

pub returns : goal.returns
unfolding allpass
returns c =
    let a = c.args in
    rw (
      ap (λ q. q.0) c.write-next.ensures,
      ap (λ q. q.1) c.write-next.ensures,
      c.read-tapped.ensures,
      tap_round a.line.now a.delay (a.write_ptr + a.delay % length a.line.now) (a.write_ptr + a.delay) (omega arith),
    )
