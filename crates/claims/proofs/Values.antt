-- Why the claim asks for an f32. Assumes nothing.
use mathlib.Core.Path.{◌≡◌, refl}
use mathlib.Core.Bool.{true, false}
use Prim.Native.Nat.{◌+◌, ◌*◌, ◌^◌}
use lib.IntN.{negsuc}
use lib.Ieee.{Float, fin, binary32, of_bits, sub, mul, lt, le, neg, fits}
use Rattle.ground.specs.F32.{c0·26}
use Rattle.waveguide.specs.String.{non_linearity}
use Rattle.waveguide.specs.Kept.{words_of}
use Rattle.string_voice.specs.StringVoice.{amount}

-- ---- 0.26 + 2^-200 is no f32: it is above 0.26, and its amount rounds to 0, which is a bridge

abbrev between : Float
between = fin false (1090519 * 2 ^ 178 + 1) (negsuc 199)

pub no_f32 : fits binary32 between ≡ false
unfolding fits
no_f32 = refl

pub above_26 : lt c0·26 between ≡ true
unfolding lt of_bits
above_26 = refl

pub no_words : words_of (non_linearity (amount between)) ≡ 0
unfolding non_linearity amount lt le sub mul neg of_bits
no_words = refl
