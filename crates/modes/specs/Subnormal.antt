-- A product that is subnormal as an f32, rounded by sums of f64. Assumes nothing.
use Rattle.std.specs.Prelude.{Bool, false, ◌&&◌, ◌||◌, cond, ℕ, ◌+◌, ◌*◌, get_or, Float}
use Rattle.std.specs.Float.{nan, binary32, binary64}
use Rattle.std.specs.Float.Ieee.{of_bits, add, sub, lt}
use Rattle.ground.specs.Frames.{over, up_to}
use Rattle.modes.specs.declared.resonator.States.{States}

-- 3 * 2^-98: beside it the digits of an f64 end at 2^-149, the least f32
abbrev pub anchor : Float
anchor = of_bits binary64 0x39e8000000000000

abbrev pub zero64 : Float
zero64 = of_bits binary64 0x0000000000000000

-- the zero of p's sign
unfoldable pub zero_of : Float → Float
zero_of p = cond (lt p zero64) (of_bits binary32 0x80000000) (of_bits binary32 0x00000000)

-- p rounded to a multiple of the least f32
unfoldable pub on_grid : Float → Float
on_grid p = sub binary64 (add binary64 p anchor) anchor

-- 1e-35 and -1e-35: what lies between may have subnormal products
abbrev pub small_plus : Float
small_plus = of_bits binary32 0x554ad2e

abbrev pub small_minus : Float
small_minus = of_bits binary32 0x8554ad2e

unfoldable pub is_small : Float → Bool
is_small x = lt x small_plus && lt small_minus x

-- whether a mode of the batch that stands at a is small, and a mode of all
unfoldable pub batch_small : States → ℕ → Bool
batch_small s a =
    let small = λ (t : ℕ). is_small (get_or s.state_1 t nan) in
    small a || small (a + 1) || small (a + 2) || small (a + 3)

abbrev pub any_small : States → Bool
any_small s = over (λ (b : Bool) (j : ℕ). b || batch_small s (4 * j)) false (up_to 6)
