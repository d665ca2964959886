-- `sheet::until` meets its contract: what is left decides.
use Rattle.std.proofs.Common.{◌≡◌}
use lib.ListN.{drop}
use Rattle.player.specs.Sheet.{until}
use Rattle.player.proofs.sheet.until.Given as goal

abbrev pub invariant-loop-e : goal.invariant-loop-e
invariant-loop-e l = until l.n l.slot l.following ≡ until l.n l.slot (drop l.e-index l.following)
