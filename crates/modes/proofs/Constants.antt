-- The source's negative numbers, as the definitions write them. Assumes nothing.
use mathlib.Core.Path.{◌≡◌, refl}
use lib.Ieee.{binary32, of_bits, neg}
use Rattle.modes.specs.Subnormal.{small_plus, small_minus}

pub minus_small : neg small_plus ≡ small_minus
unfolding of_bits neg
minus_small = refl

pub minus_zero : neg (of_bits binary32 0x00000000) ≡ of_bits binary32 0x80000000
unfolding of_bits neg
minus_zero = refl
