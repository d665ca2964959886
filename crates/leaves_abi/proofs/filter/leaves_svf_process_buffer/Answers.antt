-- `filter::leaves_svf_process_buffer` meets its contract.
use Rattle.leaves_abi.proofs.Held.{crossed}
use Rattle.leaves_abi.proofs.filter.leaves_svf_process_buffer.Goals as goal

pub returns : goal.returns
returns c = crossed _ _ _ _ (c.process_buffer.result, c.process_buffer.new.out) c.in-Some.is c.get.ensures c.process_buffer.ensures c.put.ensures
