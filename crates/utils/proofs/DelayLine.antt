-- The shared laws of the delay lines, over the size: an index whose delay was taken round the line first reads what the index itself does. Assumes nothing.
use mathlib.Core.Path.{◌≡◌, ap}
use mathlib.Core.List.{List}
use Prim.Native.Nat.{ℕ, ◌+◌, ◌-◌, ◌*◌, ◌/◌, ◌%◌, ◌<◌}
use native.Mathlib.Nat.{add-mul-mod_self_left, div-add-mod}
use native.Mathlib.Omega.{arith}
use lib.ListN.{length}
use lib.Ieee.{Float}
use Rattle.ground.specs.declared.floats.Parts.{Parts}
use Rattle.ground.specs.Floats.{whole_part, fraction_of, split_of}
use Rattle.utils.specs.Utils.{crossfade}
use Rattle.utils.specs.DelayLine.{tap, cubic_of, read_with_delay_frac, read_hermite}

module _ (line : List Float) where
  -- t has the delay taken round, where u has the whole delay
  pub tap_round : (delay t u : ℕ) → u + delay % length line ≡ t + delay → tap line u ≡ tap line t
  unfolding tap
  tap_round delay t u e =
      let n = length line in
      let turns : u ≡ t + n * (delay / n) = omega (arith, div-add-mod delay n) in
      rw (turns, add-mul-mod_self_left)

  -- ---- the reads: at is the write place, p the delay's parts
  pub read_frac_lem : (at : ℕ) (p : Parts) (delay a b r : Float) → p ≡ split_of delay
      → a ≡ tap line (at + p.integral % length line) → b ≡ tap line (at + p.integral % length line + 1) → r ≡ crossfade a b p.fractional
      → r ≡ read_with_delay_frac line at delay
  unfolding read_with_delay_frac
  read_frac_lem at p delay a b r pe ae be e =
      let d = p.integral in
      let t = at + d % length line in
      let de : d ≡ whole_part delay = ap (λ (q : Parts). q.integral) pe in
      let fe : p.fractional ≡ fraction_of delay = ap (λ (q : Parts). q.fractional) pe in
      let x = tap_round d t (at + d) (omega arith) in
      let y = tap_round d (t + 1) (at + d + 1) (omega arith) in
      rw (← de, ← fe, x, y, ← ae, ← be) e

  pub read_hermite_lem : (at : ℕ) (p : Parts) (delay h i j k r : Float) → 0 < length line → p ≡ split_of delay
      → h ≡ tap line (at + p.integral % length line + length line - 1) → i ≡ tap line (at + p.integral % length line + length line)
      → j ≡ tap line (at + p.integral % length line + length line + 1) → k ≡ tap line (at + p.integral % length line + length line + 2)
      → r ≡ cubic_of h i j k p.fractional → r ≡ read_hermite line at delay
  unfolding read_hermite
  read_hermite_lem at p delay h i j k r some pe he ie je ke e =
      let d = p.integral in
      let n = length line in
      let t = at + d % n + n in
      let de : d ≡ whole_part delay = ap (λ (q : Parts). q.integral) pe in
      let fe : p.fractional ≡ fraction_of delay = ap (λ (q : Parts). q.fractional) pe in
      let a = tap_round d (t - 1) (at + d + n - 1) (omega arith) in
      let b = tap_round d t (at + d + n) (omega arith) in
      let c = tap_round d (t + 1) (at + d + n + 1) (omega arith) in
      let g = tap_round d (t + 2) (at + d + n + 2) (omega arith) in
      rw (← de, ← fe, a, b, c, g, ← he, ← ie, ← je, ← ke) e
