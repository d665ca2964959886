-- `floats::cut` meets its contract.
use Rattle.std.proofs.Common.{arith}
use Rattle.ground.proofs.Wholes.{cut}
use Rattle.ground.proofs.floats.cut.Goals as goal

pub overflow_sub-result : goal.overflow_sub-result
overflow_sub-result c = omega (arith, (cut c.args.x c.requires.least c.requires.most).most)

pub overflow_shr-result : goal.overflow_shr-result
overflow_shr-result c = omega (arith, (cut c.args.x c.requires.least c.requires.most).least)

pub returns-clause-whole : goal.returns-clause-whole
returns-clause-whole c = (cut c.args.x c.requires.least c.requires.most).whole
