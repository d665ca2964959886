-- `delay_line::read_with_delay_frac` meets its contract.
use Rattle.utils.proofs.DelayLine.{read_frac_lem}
use Rattle.utils.proofs.delay_line.read_with_delay_frac.Goals as goal

pub returns : goal.returns
returns c =
    let a = c.args in
    read_frac_lem a.line.now a.write_ptr c.split-delayed.result a.delay _ _ _ c.split-delayed.ensures c.read.ensures c.read-2.ensures c.crossfade.ensures
