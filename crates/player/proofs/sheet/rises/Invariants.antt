-- `sheet::rises` meets its contract: what is left decides.
use Rattle.std.proofs.Common.{◌≡◌}
use lib.ListN.{drop}
use Rattle.player.specs.Sheet.{rises}
use Rattle.player.proofs.sheet.rises.Given as goal

abbrev pub invariant-loop-e : goal.invariant-loop-e
invariant-loop-e l = rises 0 l.sheet ≡ rises l.last (drop l.e-index l.sheet)
