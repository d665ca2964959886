-- `subnormal::product` meets its contract.
use mathlib.Core.Path.{◌∙◌}
use lib.Ieee.{of_bits, neg}
use borrow.Author.Rules.{rules}
use Rattle.modes.proofs.Grid.{small_on_grid}
use Rattle.modes.proofs.subnormal.product.Goals as goal

pub returns-then-w : goal.returns-then-w
unfolding of_bits neg
returns-then-w c = c.zero_of.ensures
    ∙ (small_on_grid c.args.a c.args.b c.on_grid-w.result (search rules) (search rules) c.if-not-p.false c.on_grid-w.ensures).at_zero c.if-w.true
    c.if-not-p-2.false

pub float_to_float-result : goal.float_to_float-result
unfolding of_bits neg
float_to_float-result c =
    ((small_on_grid c.args.a c.args.b c.on_grid-w.result (search rules) (search rules) c.if-not-p.false c.on_grid-w.ensures).past_zero c.if-w.false).short

pub returns : goal.returns
unfolding of_bits neg
returns c = ((small_on_grid c.args.a c.args.b c.on_grid-w.result (search rules) (search rules) c.if-not-p.false c.on_grid-w.ensures).past_zero
    c.if-w.false).same
