-- `resonator::tune` meets its contract, by the law of loops that store a value at each place.
use mathlib.Core.Path.{refl}
use lib.ListN.{get_or}
use lib.Ieee.{nan}
use Rattle.ground.proofs.Frames.{after_turn}
use Rattle.ground.proofs.Tab.{stored_begin, stored_turn, stored_end}
use Rattle.modes.specs.Resonator.{next_of}
use Rattle.modes.specs.OnePass.{tuned}
use Rattle.modes.proofs.Frame.{stored_f, stored_q, stored_a}
use native.Mathlib.Omega.{arith}
use Rattle.modes.proofs.resonator.tune.Goals as goal

pub loop-i-init : goal.loop-i-init
loop-i-init c = (refl, stored_begin, stored_begin, stored_begin)

pub loop-i-preserved : goal.loop-i-preserved
loop-i-preserved c =
    let l = c.loop-i in
    let a = c.args in
    let e = c.cap-mode_frequency.ensures in
    let s = l.invariant.0 in (
      after_turn (next_of a.f0 a.q_loss) l.i a.first s c.next_partial-p.ensures,
      stored_turn l.invariant.1 (omega arith) (stored_f e s),
      stored_turn l.invariant.2 (omega arith) (stored_q e s),
      stored_turn l.invariant.3 (omega arith) (stored_a e s (get_or a.mode_amplitude l.i nan)),
    )

pub returns : goal.returns
unfolding tuned
returns c =
    let v = c.loop-i.invariant in
    λ j. record {
      f = stored_end {n = 24} v.1 (omega arith) (omega arith) j;
      q = stored_end {n = 24} v.2 (omega arith) (omega arith) j;
      a = stored_end {n = 24} v.3 (omega arith) (omega arith) j;
    }
