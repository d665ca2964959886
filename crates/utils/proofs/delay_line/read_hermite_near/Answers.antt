-- `delay_line::read_hermite_near` meets its contract.
use native.Mathlib.Omega.{arith}
use Rattle.utils.proofs.DelayLine.{read_hermite_lem}
use Rattle.utils.proofs.delay_line.read_hermite_near.Goals as goal

pub returns : goal.returns
returns c =
    let a = c.args in
    read_hermite_lem a.line.now a.write_ptr c.split_near-delayed.result a.delay _ _ _ _ _ (omega arith) c.split_near-delayed.ensures
    c.read.ensures c.read-2.ensures c.read-3.ensures c.read-4.ensures c.cubic.ensures
