-- A float from 1 on and below 2^15, times 256: nothing is rounded, and its whole part holds the float's whole part and 256 times what is left of the float.
-- Assumes nothing.
use mathlib.Core.Path.{◌≡◌, refl, sym, ap, ◌∙◌, subst}
use mathlib.Core.Bool.{true, false, true≢false, false≢true}
use Prim.Native.Nat.{ℕ, zero, suc, ◌+◌, ◌-◌, ◌*◌, ◌/◌, ◌%◌, ◌^◌, ◌≤◌, ◌<◌}
use native.Mathlib.Nat.{le_of_lt, le_of_eq, lt_of_lt_of_le, lt_of_le_of_lt, lt_of_not-le, not-le_of_lt, le_of_suc-le-suc, zero-lt-suc, mul-one, mul_assoc}
use native.Mathlib.Nat.{mul_comm, mul_right_comm, add-mul, mul-pos, mul-lt-mul_of_pos_right, sub-add_cancel, mod-le, mod-lt, div-add-mod', div-lt_iff_lt-mul}
use native.Mathlib.Nat.{mul-add-div_right, div-div-eq-div-mul, mul-div-mul_right}
use native.Mathlib.Omega.{arith}
use lib.Dec.{T, lit≤}
use lib.IntN.{ℤ, pos, negsuc}
use lib.Pow.{pow-add, pow_mono}
use borrow.Author.Tests.{le-ltb}
use denote.Floats.{is_true}
use lib.Ieee.{Float, nan, inf, fin, binary32, up, down, sum, sub, lt, le, fits, round, of_int, of_bits, to_unsigned}
use lib.Ieee.Fits.{down_pos, add-fits}
use lib.Ieee.Exact.{HasValue}
use lib.Ieee.Back.{round_whole}
use lib.Ieee.Order.{le_of_values}
use lib.Ieee.Scale.{round_same}
use Rattle.ground.specs.F32.{◌⊕◌, ◌⊖◌, ◌⊗◌, c1, c128, c256, two_to15, two_to23, two_to64}
use Rattle.ground.specs.Floats.{whole_part, fraction_of}
use Rattle.ground.proofs.Rounding.{mul_values, Dyadic, exact, whole_dyadic}
use Rattle.ground.proofs.Wholes.{reached, under, lt_power, cut_whole, whole_value, no_minus, not_past, short, digits}

-- ---- of a float from 1 on, the number and what its whole part leaves are dyadic
float_dyadic : (m : ℕ) (e : ℤ) → m < 2 ^ 24 → down e ≤ m * up e → Dyadic (m * up e) (down e)
float_dyadic m (pos k) d h = whole_dyadic m k d
float_dyadic m (negsuc k) d h =
    let b : 2 ^ suc k < 2 ^ 149 = lt_of_le_of_lt h (lt_of_lt_of_le (lt_of_le_of_lt (le_of_eq (mul-one m)) d) (lit≤ tt)) in
    let l : suc k ≤ 149 = le_of_suc-le-suc (lt_of_not-le (λ (g : 150 ≤ suc k). not-le_of_lt b (pow_mono (le_of_lt g)))) in
    record {
      front = m;
      shift = 0;
      rest = 149 - suc k;
      few = d;
      is = refl;
      power = sym (pow-add 2 (149 - suc k) (suc k))
          ∙ ap (λ (z : ℕ). 2 ^ z) (sub-add_cancel l);
    }

rest_few : (m : ℕ) (e : ℤ) → m < 2 ^ 24 → m * up e % down e < 2 ^ 24
rest_few m (pos k) d = lt_of_lt_of_le (mod-lt (m * 2 ^ k) (zero-lt-suc 0)) (lit≤ tt)
rest_few m (negsuc k) d = lt_of_le_of_lt (mod-le (m * 1) (2 ^ suc k)) (lt_of_le_of_lt (le_of_eq (mul-one m)) d)

rest_dyadic : (r a c : ℕ) → r < 2 ^ 24 → Dyadic a c → Dyadic r c
rest_dyadic r a c h d = record { front = r; shift = 0; rest = d.rest; few = h; is = sym (mul-one r); power = d.power }

-- ---- 256 times a value
times_dyadic : (a c : ℕ) → Dyadic a c → Dyadic (a * 256) c
times_dyadic a c d = record {
  front = d.front;
  shift = d.shift + 8;
  rest = d.rest;
  few = d.few;
  is = ap (λ (z : ℕ). z * 256) d.is ∙ mul_assoc d.front (2 ^ d.shift) 256 ∙ ap (λ (z : ℕ). d.front * z) (sym (pow-add 2 d.shift 8));
  power = d.power;
}

times_value : (x : Float) (a c : ℕ) → 0 < c → Dyadic a c → a * 256 < 2 ^ 64 * c → HasValue x false a c → HasValue (x ⊗ c256) false (a * 256) c
unfolding of_bits
times_value x a c C d h v =
    let s : x ⊗ c256 ≡ round binary32 false (a * 256) c =
    mul_values binary32 x c256 a c 256 1 C (zero-lt-suc 0) v (refl, refl) ∙ ap (round binary32 false (a * 256)) (mul-one c) in
    subst (λ (z : Float). HasValue z false (a * 256) c) (sym s) (exact (a * 256) c C (times_dyadic a c d) h)

-- ---- a value less its whole part
less : (a b c : ℕ) → b ≤ a → sum binary32 false a true b c ≡ round binary32 false (a - b) c
unfolding sum
less a b c h = rw (le-ltb a b h)

taken_off : (X c W r n d : ℕ) → X ≡ W * c + r → n * 1 ≡ W * d → X * d ≡ n * c + r * d
taken_off X c W r n d p v =
    omega (arith, ap (λ (z : ℕ). z * d) p, add-mul (W * c) r d, ap (λ (z : ℕ). z * c) (sym (mul-one n) ∙ v), mul_right_comm W c d)

minus_whole : (m : ℕ) (e : ℤ) (w : Float) (W r : ℕ) → HasValue w false W 1 → m * up e ≡ W * down e + r → fin false m e ⊖ w ≡ round binary32 false r (down e)
unfolding sub
minus_whole m e nan W r v p = absurd v
minus_whole m e (inf s) W r v p = absurd v
minus_whole m e (fin true n d) W r v p = absurd (true≢false v.0)
minus_whole m e (fin false n d) W r v p =
    let a = m * up e * down d in
    let b = n * up d * down e in
    let s : a ≡ b + r * down d = taken_off (m * up e) (down e) W r (n * up d) (down d) p v.1 in
    let t : a - b ≡ r * down d = omega arith in
    less a b (down e * down d) (omega arith)
    ∙ round_same binary32 false (a - b) (down e * down d) r (down e) (mul-pos (down_pos e) (down_pos d)) (down_pos e)
    (ap (λ (z : ℕ). z * down e) t ∙ mul_assoc r (down d) (down e) ∙ ap (λ (z : ℕ). r * z) (mul_comm (down d) (down e)))

-- ---- the two indices of a pitch
high_part : (a c : ℕ) → a * 256 / c / 256 ≡ a / c
high_part a c = div-div-eq-div-mul (a * 256) c 256 ∙ mul-div-mul_right a c (zero-lt-suc 255)

low_part : (a c : ℕ) → 0 < c → a * 256 / c % 256 ≡ a % c * 256 / c
low_part a c C =
    let w = a / c in
    let r = a % c in
    let s : a * 256 ≡ w * 256 * c + r * 256 =
    ap (λ (z : ℕ). z * 256) (sym (div-add-mod' a c)) ∙ add-mul (w * c) r 256 ∙ ap (λ (z : ℕ). z + r * 256) (mul_right_comm w c 256) in
    under_unit (a * 256 / c) w (r * 256 / c) (ap (λ (z : ℕ). z / c) s ∙ mul-add-div_right C (w * 256) (r * 256))
    ((div-lt_iff_lt-mul C).1 (lt_of_lt_of_le (mul-lt-mul_of_pos_right (mod-lt a C) (zero-lt-suc 255)) (le_of_eq (mul_comm c 256))))
  where
    under_unit : (n w s : ℕ) → n ≡ w * 256 + s → s < 256 → n % 256 ≡ s
    under_unit n w s p h = omega arith

-- `cut` serves for 256 times x, and gives both
pub record Indices (x : Float) : Type 0 where
  pub least : le c1 (x ⊗ c256) ≡ true
  pub most : lt (x ⊗ c256) two_to23 ≡ true
  pub high : to_unsigned 64 (x ⊗ c256) / 256 ≡ whole_part x
  pub low : to_unsigned 64 (x ⊗ c256) % 256 ≡ whole_part (fraction_of x ⊗ c256)

of_values : (x : Float) (a c : ℕ) → 0 < c → c ≤ a → a < 2 ^ 15 * c → HasValue x false a c → HasValue (x ⊗ c256) false (a * 256) c
    → HasValue (fraction_of x ⊗ c256) false (a % c * 256) c → Indices x
unfolding of_bits
of_values x a c C lo hi v w f =
    let l : le c1 (x ⊗ c256) ≡ true = is_true (le c1 (x ⊗ c256)) (le_of_values c1 (x ⊗ c256) 1 1 (a * 256) c (zero-lt-suc 0) C (refl, refl) w (omega arith)) in
    let g : lt (x ⊗ c256) two_to23 ≡ true = lt_power 23 (x ⊗ c256) (a * 256) c C w (omega arith) in
    let t : to_unsigned 64 (x ⊗ c256) ≡ a * 256 / c = cut_is (x ⊗ c256) l g ∙ whole_value (x ⊗ c256) (a * 256) c C w (omega arith) in
    let u : a % c * 256 < 2 ^ 64 * c = omega (arith, mod-lt a C) in
    record {
      least = l;
      most = g;
      high = ap (λ (z : ℕ). z / 256) t ∙ high_part a c ∙ sym (whole_value x a c C v (omega arith));
      low = ap (λ (z : ℕ). z % 256) t ∙ low_part a c C ∙ sym (whole_value (fraction_of x ⊗ c256) (a % c * 256) c C f u);
    }
  where
    cut_is : (y : Float) → le c1 y ≡ true → lt y two_to23 ≡ true → to_unsigned 64 y ≡ whole_part y
    cut_is y h k = unfold whole_part in rw (h, short y k)

fraction_value : (m : ℕ) (e : ℤ) → Dyadic (m * up e % down e) (down e) → m * up e < 2 ^ 15 * down e
    → HasValue (fraction_of (fin false m e)) false (m * up e % down e) (down e)
unfolding fraction_of of_int
fraction_value m e d h =
    let a = m * up e in
    let c = down e in
    let w : a / c < 2 ^ 15 = (div-lt_iff_lt-mul (down_pos e)).1 h in
    let l : lt (fin false m e) two_to64 ≡ true = unfold of_bits in lt_power 64 (fin false m e) a c (down_pos e) (refl, refl) (omega arith) in
    let s : fraction_of (fin false m e) ≡ round binary32 false (a % c) c =
    rw (not_past (fin false m e) l, cut_whole m e (omega arith))
    (minus_whole m e (round binary32 false (a / c) 1) (a / c) (a % c) (round_whole binary32 false (a / c) (omega arith)) (sym (div-add-mod' a c))) in
    subst (λ (z : Float). HasValue z false (a % c) c) (sym s) (exact (a % c) c (down_pos e) d (omega (arith, mod-lt a (down_pos e))))

indices_fin : (m : ℕ) (e : ℤ) → m < 2 ^ 24 → down e ≤ m * up e → m * up e < 2 ^ 15 * down e → Indices (fin false m e)
indices_fin m e d lo hi =
    let a = m * up e in
    let c = down e in
    let C = down_pos e in
    let x = float_dyadic m e d lo in
    let r = rest_dyadic (a % c) a c (rest_few m e d) x in
    of_values (fin false m e) a c C lo hi (refl, refl) (times_value (fin false m e) a c C x (omega arith) (refl, refl))
    (times_value (fraction_of (fin false m e)) (a % c) c C r (omega (arith, mod-lt a C)) (fraction_value m e r hi))

pub indices : (x : Float) → T (fits binary32 x) → le c1 x ≡ true → lt x two_to15 ≡ true → Indices x
unfolding of_bits
indices nan t h k = absurd (false≢true (unfold le in h))
indices (inf true) t h k = absurd (false≢true (unfold le in h))
indices (inf false) t h k = absurd (false≢true (unfold lt in k))
indices (fin true m e) t h k = absurd (no_minus 0 m e h)
indices (fin false zero e) t h k = absurd (not-le_of_lt (down_pos e) (omega (arith, reached 0 0 e h)))
indices (fin false (suc m) e) t h k = indices_fin (suc m) e (digits false m e t) (omega (arith, reached 0 (suc m) e h)) (under 15 (suc m) e k)

pub pitch_indices : (semitones : Float) → le c1 (semitones ⊕ c128) ≡ true → lt (semitones ⊕ c128) two_to15 ≡ true → Indices (semitones ⊕ c128)
pitch_indices semitones h k = indices (semitones ⊕ c128) (add-fits binary32 semitones c128) h k
