-- What Rust does to an f32 by `as usize`, `min`, `clamp` and `abs`. Assumes nothing.
use Rattle.std.specs.Prelude.{ℕ, Bool, false, cond, ◌&&◌, pos, ◌==◌, is_nan, to_bits, Float}
use Rattle.std.specs.Float.{nan, inf, fin, binary32}
use Rattle.std.specs.Float.Ieee.{lt, le, eq, of_int, to_unsigned}
use Rattle.ground.specs.declared.floats.Parts.{Parts}
use Rattle.ground.specs.F32.{◌⊖◌, c0, c1, two_to64}

-- `x as usize`, 01 'Whole part': NaN or below 1 gives 0; below 2^64, the truncation; from there on 0
unfoldable pub whole_part : Float → ℕ
whole_part x = cond (le c1 x && lt x two_to64) (to_unsigned 64 x) 0

-- `x - (x as usize as f32)`, and 0 from 2^64 on
unfoldable pub fraction_of : Float → Float
fraction_of x = cond (le two_to64 x) c0 (x ⊖ of_int binary32 (pos (whole_part x)))

-- both
abbrev pub split_of : Float → Parts
split_of x = record { integral = whole_part x; fractional = fraction_of x }

-- f32::min: the other one where one is a NaN
unfoldable pub min_f : Float → Float → Float
min_f x y = cond (lt x y) x (cond (is_nan y) x y)

-- f32::clamp: a NaN stays a NaN
unfoldable pub clamp_f : Float → Float → Float → Float
clamp_f x lo hi = let y = cond (lt x lo) lo x in cond (lt hi y) hi y

-- f32::abs
unfoldable pub abs_f : Float → Float
abs_f nan = nan
abs_f (inf s) = inf false
abs_f (fin s m e) = fin false m e

-- the same float: equal, and zeros of one sign
abbrev pub same_float : Float → Float → Bool
same_float x y = eq x y && to_bits binary32 x == to_bits binary32 y
