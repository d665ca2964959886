-- `modal_voice::frames_in_one` meets its contract: the loops that it joins, each by the law of loops over frames.
use mathlib.Core.Path.{refl}
use native.Mathlib.Omega.{arith}
use Rattle.modal_voice.proofs.OneLoop.{underway_begin_compared, underway_turn_compared, underway_filtered, underway_mixed, underway_passed}
use Rattle.modal_voice.proofs.modal_voice.frames_in_one.Goals as goal

pub loop-i-init : goal.loop-i-init
loop-i-init g c =
    let a = c.args in
    let b = a.b.now in
    let h = c.first_compared-ahead.ensures in
    underway_begin_compared a.filter a.m.now c.from-states.result b.temp.now b.temp_2.now b.out.now b.aux.now c.requires h.0 h.1

pub loop-i-preserved : goal.loop-i-preserved
loop-i-preserved g c =
    let a = c.args in
    let b = a.b.now in
    let h = c.on_compared-ahead.ensures in
    underway_turn_compared a.filter a.m.now c.from-states.result b.temp.now b.temp_2.now b.out.now b.aux.now c.loop-i.invariant (omega arith) h.0 h.1
    c.frame_at.ensures

pub returns : goal.returns
returns g c =
    let a = c.args in
    let b = a.b.now in
    let m = a.m.now in
    let s = c.from-states.result in
    let v = c.loop-i.invariant.0 in
    record {
      filtered = underway_filtered a.filter m s b.temp.now b.temp_2.now b.out.now b.aux.now v (omega arith);
      mixed = underway_mixed a.filter m s b.temp.now b.temp_2.now b.out.now b.aux.now v (omega arith);
      passed = underway_passed a.filter m s b.temp.now b.temp_2.now b.out.now b.aux.now v (omega arith) a.mode_filters c.from-states.ensures c.into.ensures;
      temp = refl;
      same = record { temp = refl; temp2 = refl; out = refl; aux = refl };
    }
