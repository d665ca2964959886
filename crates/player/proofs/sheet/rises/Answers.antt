-- `sheet::rises` meets its contract: what is left decides.
use Rattle.std.proofs.Common.{rules, sym, ◌∙◌}
use Rattle.player.specs.Owners.{no_event}
use Rattle.player.proofs.Following.{rises_on, falls_here, rises_to_last}
use Rattle.player.proofs.sheet.rises.Goals as goal

pub returns-then-e-last : goal.returns-then-e-last
returns-then-e-last c = falls_here c.args.sheet.now c.loop-e.e-index no_event (search rules) c.loop-e.last (search rules) ∙ sym c.loop-e.invariant

pub loop-e-preserved : goal.loop-e-preserved
loop-e-preserved c = c.loop-e.invariant ∙ rises_on c.args.sheet.now c.loop-e.e-index no_event (search rules) c.loop-e.last (search rules)

pub returns : goal.returns
returns c = rises_to_last c.args.sheet.now c.loop-e.e-index (search rules) c.loop-e.last ∙ sym c.loop-e.invariant
