-- What accepted knobs keep within bounds in the string: no table index without a meaning is reached. Assumes nothing.
use mathlib.Core.Bool.{Bool, true, false, not, cond}
use Prim.Native.Nat.{◌≤◌, zero-le}
use lib.Dec.{T}
use lib.Ieee.{Float, nan, inf, fin, of_bits, le, lt, is_nan, to_unsigned}
use Rattle.ground.specs.F32.{◌⊕◌, ◌⊖◌, ◌⊗◌, c0, c0·4999, c0·95, c1, c12, c20, c24, c60, c72, c84, c128, c255}
use Rattle.ground.specs.Floats.{whole_part, clamp_f}
use Rattle.bounds.proofs.Bounds.{int, part, Between, encloses, inside, is_in, const_in, widen, in_test, add_in, sub_in, mul_in, min_in, clamp_in}
use Rattle.bounds.proofs.Indices.{whole_at_most}
use Rattle.waveguide.specs.declared.string.Damping.{Damping}
use Rattle.waveguide.specs.String.{cutoff_of, damping_f, damping_of}
use Rattle.noise.proofs.Ranges.{Knob}

-- ---- the semitones of the damping
pub cutoff_in : {brightness damping : Float} → Knob brightness → Knob damping → Between c12 (cutoff_of brightness damping) c84
unfolding cutoff_of encloses inside of_bits
cutoff_in b d =
    let p₁ = mul_in d d c0 c1 tt in
    let p₂ = mul_in p₁ (const_in c60 tt) c0 c60 tt in
    let p₃ = add_in (const_in c12 tt) p₂ c12 c72 tt in
    let p₄ = mul_in b (const_in c24 tt) c0 c24 tt in
    let p₅ = add_in p₃ p₄ c12 (int 96) tt in
    min_in p₅ (in_test c12 c84 c84 tt)

-- ---- the shift index, whatever the cutoff is: a NaN is held to a NaN, whose whole part is 0
held : (cutoff : Float) → T (not (is_nan cutoff)) → whole_part (clamp_f cutoff c0 c255) ≤ 255
unfolding inside of_bits
held cutoff n = whole_at_most 255 (clamp_f cutoff c0 c255) (clamp_in cutoff c0 c255 n tt).most

pub shift_in : (cutoff : Float) → whole_part (clamp_f cutoff c0 c255) ≤ 255
unfolding is_nan
shift_in nan = unfold clamp_f whole_part of_bits le lt to_unsigned in zero-le
shift_in (inf s) = held (inf s) tt
shift_in (fin s m e) = held (fin s m e) tt

-- on accepted knobs the cutoff is not held at all: it lies between 12 and 201
pub faded_in : (f0 : Float) {brightness damping : Float} → Knob brightness → Knob damping → Between c12 (damping_of f0 brightness damping).cutoff (int 201)
unfolding damping_of encloses inside of_bits
faded_in f0 {brightness} {damping} b d = go (le c0·95 damping) (λ t. t)
  where
    c : Between c12 (cutoff_of brightness damping) c84
    c = cutoff_in b d

    faded : Damping
    faded =
        let cutoff = cutoff_of brightness damping in
        let f = damping_f f0 cutoff in
        let i = c20 ⊗ (damping ⊖ c0·95) in
        record { brightness = brightness ⊕ i ⊗ (c1 ⊖ brightness); f = f ⊕ i ⊗ (c0·4999 ⊖ f); cutoff = cutoff ⊕ i ⊗ (c128 ⊖ cutoff) }

    plain : Damping
    plain = let cutoff = cutoff_of brightness damping in record { brightness = brightness; f = damping_f f0 cutoff; cutoff = cutoff }

    go : (t : Bool) → (T t → T (le c0·95 damping)) → Between c12 (cond t faded plain).cutoff (int 201)
    go true f =
        let p₁ = sub_in (is_in c0·95 damping c1 tt tt (f tt) d.most) (const_in c0·95 tt) c0 (part 1677722 24) tt in
        let p₂ = mul_in (const_in c20 tt) p₁ c0 (part 8388610 22) tt in
        let p₃ = sub_in (const_in c128 tt) c (int 44) (int 116) tt in
        let p₄ = mul_in p₂ p₃ c0 (int 117) tt in
        add_in c p₄ c12 (int 201) tt
    go false f = widen c c12 (int 201) tt tt
