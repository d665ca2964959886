-- What accepted knobs keep within bounds, as far as both voices do it alike. Assumes nothing.
use mathlib.Core.Path.{◌≡◌}
use mathlib.Core.Bool.{Bool, true, ◌&&◌}
use mathlib.Core.List.{List, [], ◌∷◌}
use denote.Floats.{passes}
use lib.IntN.{negsuc}
use lib.Ieee.{Float, fin, binary32, of_bits, le}
use Rattle.ground.specs.F32.{◌⊖◌, ◌⊗◌, c0, c0·25, c0·5, c1, c2, c36, c72}
use Rattle.bounds.proofs.Order.{and_true}
use Rattle.bounds.proofs.Bounds.{int, minus, part, Between, encloses, sum, difference, product, is_in, const_in, add_in, sub_in, mul_in, piece}
use Rattle.noise.specs.declared.excitation.Knobs.{Knobs}
use Rattle.noise.specs.Excitation.{raised}

-- ---- an accepted knob and an accepted f0: from 0 to 1, and from 2^-20 to 0.5
abbrev pub lowestF0 : Float
lowestF0 = of_bits binary32 0x35800000

abbrev pub Knob : Float → Type 0
Knob x = Between c0 x c1

abbrev pub Fundamental : Float → Type 0
Fundamental f0 = Between lowestF0 f0 c0·5

pub knob : (x : Float) → le c0 x ≡ true → le x c1 ≡ true → Knob x
unfolding of_bits
knob x h k = is_in c0 x c1 tt tt (passes (le c0 x) h) (passes (le x c1) k)

pub fundamental : (f0 : Float) → le lowestF0 f0 ≡ true → le f0 c0·5 ≡ true → Fundamental f0
unfolding of_bits
fundamental f0 h k = is_in lowestF0 f0 c0·5 tt tt (passes (le lowestF0 f0) h) (passes (le f0 c0·5) k)

-- the knobs of an accepted call
pub record Accepted (k : Knobs) : Type 0 where
  pub f0 : Fundamental k.f0
  pub accent : Knob k.accent
  pub structure : Knob k.structure
  pub brightness : Knob k.brightness
  pub damping : Knob k.damping

-- ---- raised knobs. x comes twice, so its range is cut at 1 - 2 ^ -k: with x from c to d, 1 - x is at most 1 - c
unfoldable raises : Float → Float → Bool
unfolding encloses of_bits
raises c d =
    let u = c1 ⊖ c in
    let v = c0·25 ⊗ u in
    encloses difference c1 c1 c d c0 u && (encloses product c0 c0·25 c0 u c0 v && encloses sum c d c0 v c0 c1)

cuts : List Float
cuts = part 1 0 ∷ part 3 1 ∷ part 7 2 ∷ part 15 3 ∷ part 31 4 ∷ part 63 5 ∷ part 127 6 ∷ part 255 7 ∷ part 511 8 ∷ part 1023 9 ∷ part 2047 10 ∷ part 4095 11
    ∷ part 8191 12 ∷ part 16383 13 ∷ part 32767 14 ∷ part 65535 15 ∷ part 131071 16 ∷ part 262143 17 ∷ part 524287 18 ∷ part 1048575 19 ∷ part 2097151 20
    ∷ part 4194303 21 ∷ part 8388607 22 ∷ part 16777215 23 ∷ c1 ∷ []

pub raised_in : {accent x : Float} → Knob accent → Knob x → Knob (raised accent x)
unfolding raised encloses raises cuts of_bits
raised_in {accent} {x} a p =
    let k = piece raises c0 cuts x p tt in
    let u = c1 ⊖ k.from in
    let v = c0·25 ⊗ u in
    let t = and_true (encloses difference c1 c1 k.from k.to c0 u) (encloses product c0 c0·25 c0 u c0 v && encloses sum k.from k.to c0 v c0 c1) k.passes in
    let s = and_true (encloses product c0 c0·25 c0 u c0 v) (encloses sum k.from k.to c0 v c0 c1) t.1 in
    let p₁ = mul_in (const_in c0·25 tt) a c0 c0·25 tt in
    let p₂ = sub_in (const_in c1 tt) k.bound c0 u t.0 in
    let p₃ = mul_in p₁ p₂ c0 v s.0 in
    add_in k.bound p₃ c0 c1 s.1

-- ---- the semitones of the excitation's cutoff, over a range of 36 to 72
pub exciter_in : {brightness range : Float} → Knob brightness → Between c36 range c72
    → Between (minus 36) ((brightness ⊗ (c2 ⊖ brightness) ⊖ c0·5) ⊗ range) (int 108)
unfolding encloses of_bits
exciter_in b r =
    let p₁ = sub_in (const_in c2 tt) b c1 c2 tt in
    let p₂ = mul_in b p₁ c0 c2 tt in
    let p₃ = sub_in p₂ (const_in c0·5 tt) (fin true 1 (negsuc 0)) (part 3 0) tt in
    mul_in p₃ r (minus 36) (int 108) tt
