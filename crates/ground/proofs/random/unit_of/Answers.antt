-- `random::unit_of` meets its contract, arm by arm.
use Rattle.std.proofs.Common.{refl, arith}
use lib.Ieee.{of_bits, of_int}
use Rattle.ground.proofs.Words.{unit_arm}
use Rattle.ground.proofs.random.unit_of.Goals as goal

pub returns-in-0 : goal.returns-in-0
unfolding of_bits of_int
returns-in-0 c = unit_arm c.args.zeros 0 _ c.requires c.in-0.is refl

pub returns-in-1 : goal.returns-in-1
unfolding of_bits of_int
returns-in-1 c = unit_arm c.args.zeros 1 _ c.requires c.in-1.is refl

pub returns-in-2 : goal.returns-in-2
unfolding of_bits of_int
returns-in-2 c = unit_arm c.args.zeros 2 _ c.requires c.in-2.is refl

pub returns-in-3 : goal.returns-in-3
unfolding of_bits of_int
returns-in-3 c = unit_arm c.args.zeros 3 _ c.requires c.in-3.is refl

pub returns-in-4 : goal.returns-in-4
unfolding of_bits of_int
returns-in-4 c = unit_arm c.args.zeros 4 _ c.requires c.in-4.is refl

pub returns-in-5 : goal.returns-in-5
unfolding of_bits of_int
returns-in-5 c = unit_arm c.args.zeros 5 _ c.requires c.in-5.is refl

pub returns-in-6 : goal.returns-in-6
unfolding of_bits of_int
returns-in-6 c = unit_arm c.args.zeros 6 _ c.requires c.in-6.is refl

pub returns-in_default : goal.returns-in_default
unfolding of_bits of_int
returns-in_default c = unit_arm c.args.zeros 7 _ c.requires (omega arith) refl
