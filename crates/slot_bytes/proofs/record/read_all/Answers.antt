-- `record::read_all` meets its contract.
use lib.ListN.{length-replicate}
use Rattle.ground.proofs.Tab.{stored_begin}
use Rattle.slot_bytes.proofs.record.read_all.Goals as goal

pub loop-i-init : goal.loop-i-init
loop-i-init g c = (length-replicate g.row.N c.read-a.result, stored_begin)
