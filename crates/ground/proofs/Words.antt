-- Laws on plain numbers: what `compare` gives, and a word's digits from its leading zeros. Assumes nothing.
use Rattle.std.proofs.Common.{◌≡◌, ℕ, zero, suc, ◌+◌, ◌-◌, ◌*◌, ◌/◌, ◌%◌, ◌^◌, ◌<◌, ◌≤◌, T, pos, le→leb, sym, ap, ◌∙◌, subst, le_trans, le_of_eq, le_refl}
use Rattle.std.proofs.Common.{lt_of_lt_of_le, le_of_suc-le-suc, not-suc-le-zero, mod-eq_of_lt, zero-lt-suc, mul_assoc, mul-lt-mul_of_pos_right, pow-suc}
use Rattle.std.proofs.Common.{lt_of_not-le, sub-add_cancel, not-le_of_lt, arith, pow_pos, pow_mono, pow-add}
use Prim.Native.Nat.compare
use Prim.Native.Nat.{Ordering, compare}
use native.Mathlib.Decide.{dec_lt}
use lib.Count.{count_leading_zeros, leading_unique}
use lib.Ieee.{Float, binary32, of_int, size, nearest, in_float}
use lib.Ieee.Digits.{size-lt, size-le, size_reaches}
use lib.Ieee.Fits.{nearest-le, kept-lt}
use lib.Ieee.Nearest.{closest, closest_same}

-- ---- what `compare` gives
pub cmp_lt : (a b : ℕ) → a < b → compare a b ≡ Ordering.lt
cmp_lt a zero h = absurd (not-suc-le-zero h)
cmp_lt zero (suc b) h = compare.zero-suc b
cmp_lt (suc a) (suc b) h = compare.suc-suc a b ∙ cmp_lt a b (le_of_suc-le-suc h)

pub cmp_gt : (a b : ℕ) → b < a → compare a b ≡ Ordering.gt
cmp_gt zero b h = absurd (not-suc-le-zero h)
cmp_gt (suc a) zero h = compare.suc-zero a
cmp_gt (suc a) (suc b) h = compare.suc-suc a b ∙ cmp_gt a b (le_of_suc-le-suc h)

pub cmp_self : (a : ℕ) → compare a a ≡ Ordering.eq
cmp_self zero = compare.zero-zero
cmp_self (suc a) = compare.suc-suc a a ∙ cmp_self a

pub cmp_eq : (a b : ℕ) → a ≡ b → compare a b ≡ Ordering.eq
cmp_eq a b e = subst (λ (x : ℕ). compare a x ≡ Ordering.eq) e (cmp_self a)

-- ---- digits
-- a number that is z digits long is at least half of 2 ^ z
half : (w z : ℕ) → ((j : ℕ) → j < z → 2 ^ j ≤ w) → 2 ^ z ≤ 2 * w + 1
half w zero h = omega arith
half w (suc j) h = le_trans (le_of_eq (pow-suc 2 j)) (double (2 ^ j) (h j (le_refl (suc j))))
  where
    double : (p : ℕ) → p ≤ w → p * 2 ≤ 2 * w + 1
    double p l = omega arith

pub size_gt : (n j : ℕ) → 2 ^ j ≤ n → j < size n
size_gt n j h = lt_of_not-le (λ (g : size n ≤ j). not-le_of_lt (lt_of_lt_of_le (size-lt n) (pow_mono g)) h)

pub size_zeros : (w : ℕ) → w < 2 ^ 32 → count_leading_zeros 32 w + size w ≡ 32
size_zeros w h =
    let s : size w ≤ 32 = size-le w 32 h in
    let e : 32 - size w ≡ count_leading_zeros 32 w = leading_unique 32 w (32 - size w) (size w) (sub-add_cancel s) (size-lt w)
    (half w (size w) (size_reaches w)) in
    omega arith

-- ---- the unit: 2 to the number of w's binary digits beyond 24, the distance of the floats around w
unfoldable pub unit_of : ℕ → ℕ
unit_of w = 2 ^ (size w - 24)

-- a word of 24 digits or more has its unit from its leading zeros
pub record Wide (w z : ℕ) : Type 0 where
  pub few : z < 8
  pub room : w * 2 ^ z < 2 ^ 32
  pub unit : 2 ^ (8 - z) ≡ unit_of w

pub wide : (w : ℕ) → w < 2 ^ 32 → 2 ^ 24 ≤ w → Wide w (count_leading_zeros 32 w)
unfolding unit_of
wide w h l =
    let z = count_leading_zeros 32 w in
    let s = size_zeros w h in
    let b : 24 < size w = size_gt w 24 l in
    let e : 8 - z ≡ size w - 24 = omega arith in
    let f : size w + z ≡ 32 = omega arith in
    record {
      few = omega arith;
      room = lt_of_lt_of_le (mul-lt-mul_of_pos_right (size-lt w) (pow_pos z)) (le_of_eq (sym (pow-add 2 (size w) z) ∙ ap (λ (x : ℕ). 2 ^ x) f));
      unit = ap (λ (x : ℕ). 2 ^ x) e;
    }

pub unit_le : (w : ℕ) → w < 2 ^ 32 → unit_of w ≤ 256
unfolding unit_of
unit_le w h =
    let s : size w ≤ 32 = size-le w 32 h in
    let d : size w - 24 ≤ 8 = omega arith in
    pow_mono d

pub rounded_le : (w : ℕ) → closest w (unit_of w) ≤ 2 ^ 24
unfolding unit_of
rounded_le w = le_trans (nearest-le (w / 2 ^ (size w - 24)) (compare (w % 2 ^ (size w - 24) * 2) (2 ^ (size w - 24)))) (kept-lt 24 w)

-- its digits are those of a float
pub digits_exact : (w : ℕ) → w < 2 ^ 32 → 2 ^ 24 ≤ w → T (in_float binary32 (pos (closest w (2 ^ (8 - count_leading_zeros 32 w)))))
unfolding in_float
digits_exact w h l = rw (wide w h l).unit (le→leb _ (2 ^ 24) (rounded_le w))

-- ---- rounding to units of 256: what is above half of a unit carries, and half of one where the number is odd
carried : (s : ℕ) → (s + 127 + s / 256 % 2) / 256 ≡ closest s 256
carried s = go (dec_lt (s % 256 * 2) 256) (dec_lt 256 (s % 256 * 2))
  where
    go : Dec (s % 256 * 2 < 256) → Dec (256 < s % 256 * 2) → (s + 127 + s / 256 % 2) / 256 ≡ nearest (s / 256) (compare (s % 256 * 2) 256)
    go (yes l) k = rw (cmp_lt (s % 256 * 2) 256 l) (omega arith)
    go (no n) (yes l) = rw (cmp_gt (s % 256 * 2) 256 l) (omega arith)
    go (no n) (no k) = rw (cmp_eq (s % 256 * 2) 256 (omega arith)) (omega arith)

-- a word shifted up by its leading zeros
pub shifted : (w z s : ℕ) → z < 8 → w * 2 ^ z < 2 ^ 32 → s ≡ w * 2 ^ z % 2 ^ 32 → (s + 127 + s / 256 % 2) / 256 ≡ closest w (2 ^ (8 - z))
shifted w z s few room e =
    let k : z + (8 - z) ≡ 8 = omega arith in
    carried s
    ∙ closest_same s 256 w (2 ^ (8 - z)) (zero-lt-suc 255) (pow_pos (8 - z))
    (ap (λ (x : ℕ). x * 2 ^ (8 - z)) (e ∙ mod-eq_of_lt room)
    ∙ mul_assoc w (2 ^ z) (2 ^ (8 - z))
    ∙ ap (λ (x : ℕ). w * x) (sym (pow-add 2 z (8 - z)) ∙ ap (λ (x : ℕ). 2 ^ x) k))

-- ---- the arms of the unit: zeros z are k
pub unit_arm : (z k : ℕ) (x : Float) → z < 8 → z % 8 ≡ k → x ≡ of_int binary32 (pos (2 ^ (8 - k))) → x ≡ of_int binary32 (pos (2 ^ (8 - z)))
unit_arm z k x h e f =
    let g : k ≡ z = omega arith in
    f ∙ ap (λ (j : ℕ). of_int binary32 (pos (2 ^ (8 - j)))) g
