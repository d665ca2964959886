-- `sheet::until` meets its contract: what is left decides.
use Rattle.std.proofs.Common.{rules, sym, ◌∙◌}
use Rattle.player.specs.Owners.{no_event}
use Rattle.player.proofs.Following.{ends_here, ends_later, ends_at_last}
use Rattle.player.proofs.sheet.until.Goals as goal

pub returns-then-e-slot : goal.returns-then-e-slot
returns-then-e-slot c = ends_here c.args.following.now c.loop-e.e-index no_event (search rules) c.args.n c.args.slot (search rules) ∙ sym c.loop-e.invariant

pub loop-e-preserved : goal.loop-e-preserved
loop-e-preserved c = c.loop-e.invariant ∙ ends_later c.args.following.now c.loop-e.e-index no_event (search rules) c.args.n c.args.slot (search rules)

pub returns : goal.returns
returns c = ends_at_last c.args.following.now c.loop-e.e-index (search rules) c.args.n c.args.slot ∙ sym c.loop-e.invariant
