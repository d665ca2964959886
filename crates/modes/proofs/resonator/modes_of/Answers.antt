-- `resonator::modes_of` meets its contract, by the law of loops that store a value at each place.
use mathlib.Core.Path.{ap}
use Rattle.ground.proofs.Tab.{stored_begin, stored_turn, stored_end}
use Rattle.modes.specs.declared.resonator.Mode.{Mode}
use Rattle.modes.specs.OnePass.{modes_of}
use native.Mathlib.Omega.{arith}
use Rattle.modes.proofs.resonator.modes_of.Goals as goal

pub loop-i-init : goal.loop-i-init
loop-i-init c = (stored_begin, stored_begin, stored_begin, stored_begin)

pub loop-i-preserved : goal.loop-i-preserved
loop-i-preserved c =
    let l = c.loop-i in
    let e = c.mode_of-k.ensures in (
      stored_turn l.invariant.0 (omega arith) (ap (λ (k : Mode). k.g) e),
      stored_turn l.invariant.1 (omega arith) (ap (λ (k : Mode). k.r_plus_g) e),
      stored_turn l.invariant.2 (omega arith) (ap (λ (k : Mode). k.h) e),
      stored_turn l.invariant.3 (omega arith) (ap (λ (k : Mode). k.gain) e),
    )

pub returns : goal.returns
unfolding modes_of
returns c =
    let v = c.loop-i.invariant in
    λ j. record {
      g = stored_end {n = 24} v.0 (omega arith) (omega arith) j;
      r_plus_g = stored_end {n = 24} v.1 (omega arith) (omega arith) j;
      h = stored_end {n = 24} v.2 (omega arith) (omega arith) j;
      gain = stored_end {n = 24} v.3 (omega arith) (omega arith) j;
    }
