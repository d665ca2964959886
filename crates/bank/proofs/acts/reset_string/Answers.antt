-- `acts::reset_string` meets its contract.
use Rattle.bank.proofs.Moves.{width, reset_moved}
use Prim.Native.Nat.{◌+◌, ◌-◌, ◌*◌}
use Rattle.bank.proofs.acts.reset_string.Goals as goal

pub returns : goal.returns
returns c = λ x w same.
    let a = c.args in
    let o = c.reset in
    reset_moved a.lines.now w a.slot (1280 * a.slot + 1280 - 1280 * a.slot) (width a.slot) x o.result o.new.lines (rw same o.ensures)
