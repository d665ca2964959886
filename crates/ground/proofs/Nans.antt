-- When a float is the NaN, from the tests that tell it. Assumes nothing.
use Rattle.std.proofs.Common.{◌≡◌, true, not, T, sym, refl, ap, ◌∙◌}
use Rattle.std.proofs.lemmas.Float.{le_of_eq, le_left, le_right, T_from_true}
use Rattle.std.specs.Float.{◌≤ᶠ◌}
use mathlib.Core.Bool.{false≢true}
use lib.Ieee.{Float, nan, inf, fin, binary32, of_bits, to_bits, is_nan, eq, fits}
use lib.Ieee.Bits.{of_bits-to_bits}

-- what is a NaN is the NaN
pub is_nan_lem : (x : Float) → is_nan x ≡ true → x ≡ nan
unfolding is_nan
is_nan_lem nan e = refl
is_nan_lem (inf s) e = absurd (false≢true e)
is_nan_lem (fin s m x) e = absurd (false≢true e)

-- what are equal are no NaNs
pub equal_no_nan : (x y : Float) → eq x y ≡ true → T (not (is_nan x)) × T (not (is_nan y))
equal_no_nan x y e = let l : x ≤ᶠ y = le_of_eq x y (T_from_true (eq x y) e) in (le_left x y l, le_right x y l)

-- of one pattern there is one float
pub same_bits : (x y : Float) → T (fits binary32 x) → T (fits binary32 y) → to_bits binary32 x ≡ to_bits binary32 y → x ≡ y
same_bits x y t u e = sym (of_bits-to_bits binary32 x t) ∙ ap (of_bits binary32) e ∙ of_bits-to_bits binary32 y u
