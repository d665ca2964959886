-- `encode::put_modal_again` meets its contract.
use Rattle.slot_bytes.proofs.Stand.{modal_stands}
use Rattle.slot_bytes.proofs.encode.put_modal_again.Goals as goal

pub returns-then-floats_stand : goal.returns-then-floats_stand
returns-then-floats_stand c = modal_stands c.args.b.now (c.floats_stand.ensures.1 c.if-floats_stand.true)
