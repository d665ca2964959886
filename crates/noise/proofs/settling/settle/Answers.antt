-- `settling::settle` meets its contract: what was given a period before is given again.
use native.Mathlib.Omega.{arith}
use Rattle.noise.proofs.Settled.{settled_turn, settled_end}
use Rattle.noise.proofs.settling.settle.Goals as goal

pub loop-i-preserved : goal.loop-i-preserved
loop-i-preserved g c =
    let a = c.args in
    settled_turn g.F.Filter.step a.f a.xs.now a.ys.now a.m c.requires c.until_settled-s.ensures c.loop-i.invariant (omega arith) (omega arith)

pub returns : goal.returns
returns g c =
    let a = c.args in
    settled_end g.F.Filter.step a.f a.xs.now a.ys.now a.m c.requires c.until_settled-s.ensures c.min-n.ensures c.loop-i.invariant
    (omega (arith, c.until_settled-s.ensures.within)) c.in_silence.ensures
