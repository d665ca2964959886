-- `filter::leaves_dc_blocker_process` meets its contract.
use Rattle.leaves_abi.proofs.Held.{crossed}
use Rattle.leaves_abi.proofs.filter.leaves_dc_blocker_process.Goals as goal

pub returns : goal.returns
returns c = crossed _ _ _ _ (c.process.result, c.process.new.in_out) c.in-Some.is c.get.ensures c.process.ensures c.put.ensures
