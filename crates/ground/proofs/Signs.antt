-- The sign taken off a float. Assumes nothing.
use Rattle.std.proofs.Common.{◌≡◌, false, refl}
use lib.Ieee.{Float, nan, inf, fin}
use Rattle.std.specs.Float.{float_with_sign}
use Rattle.ground.specs.Floats.{abs_f}

pub without_sign : (x : Float) → float_with_sign false x ≡ abs_f x
unfolding float_with_sign abs_f
without_sign nan = refl
without_sign (inf s) = refl
without_sign (fin s m e) = refl
