-- `acts::open` meets its contract.
use Rattle.bank.proofs.Moves.{width, opened_moved}
use Prim.Native.Nat.{◌+◌, ◌-◌, ◌*◌}
use Rattle.bank.proofs.acts.open.Goals as goal

pub returns : goal.returns
returns c = λ x w.
    let a = c.args in
    let o = c.opened in
    opened_moved a.lines.now w a.slot (1280 * a.slot + 1280 - 1280 * a.slot) (width a.slot) a.kind a.sample_rate_hz x o.result o.new.lines o.ensures
