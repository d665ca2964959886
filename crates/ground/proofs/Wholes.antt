-- Whole parts of an f32: from 1 on and below 2^23 by its bits, and from 2^23 on and below 2^64 the float is its own whole part. Assumes nothing.
use Rattle.std.proofs.Common.{◌≡◌, ℕ, zero, suc, ◌+◌, ◌-◌, ◌*◌, ◌/◌, ◌%◌, ◌^◌, ◌<◌, ◌≤◌, min, Bool, true, false, cond, not, ◌&&◌, ◌||◌, T, eqb, ltb, leb, ℤ}
use Rattle.std.proofs.Common.{pos, negsuc, sym, refl, ap, ◌∙◌, true≢false, le_trans, le_of_eq, lt_of_lt_of_le, lt_of_le_of_lt, le_of_lt, mul-le-mul_right}
use Rattle.std.proofs.Common.{mod-lt, zero-lt-suc, mul_comm, div-lt_iff_lt-mul, lt_of_mul-lt-mul_right, mul-lt-mul_of_pos_right, one-mul, pow-suc}
use Rattle.std.proofs.Common.{le-div_iff_mul-le, div-le_self, mul_right_comm, le_of_mul-le-mul_right, div-one, arith, ltb→lt, leb→le, pow_pos, pow-add, shr-shr}
use Rattle.std.proofs.Common.{ltb-false, ltb-true, lt-ltb, eq-eqb, eqb-true}
use Rattle.std.proofs.lemmas.Float as Floats
use mathlib.Core.Bool.{false≢true}
use native.Mathlib.Nat.{div-div-eq-div-mul, mul-div-mul_right}
use lib.Ieee.{Float, nan, inf, fin, binary32, up, down, size, lt, le, is_nan, fits, of_int, of_bits, to_bits, to_unsigned}
use lib.Ieee.Digits.{size-le, size_reaches}
use lib.Ieee.Fits.{down_pos, and_l, and_r, of_int-fits, kept-lt}
use lib.Ieee.Nearest.{div_same}
use lib.Ieee.Positive.{above, above_of_le, positive_of_value}
use denote.Floats.{passes, is_true}
use lib.Ieee.Exact.{HasValue}
use lib.Ieee.Back.{round_whole, whole_unique}
use Rattle.ground.specs.F32.{◌⊖◌, c0, c1, two_to23, two_to64}
use Rattle.ground.specs.Floats.{whole_part, fraction_of, split_of}
use Rattle.ground.specs.declared.floats.Parts.{Parts}
use Rattle.ground.proofs.Bools.{and_true}
use Rattle.ground.proofs.Words.{size_gt}
use Rattle.ground.proofs.Rounding.{exact, whole_dyadic}

-- ---- `2^k <= x` and `x < 2^k`, of an x that is not negative, as orders of numbers
le_true : (a b : ℕ) → (ltb a b || (eqb a b && true)) ≡ true → a ≤ b
le_true a b h = go (ltb a b) (eqb a b) (ltb-true a b) (eqb-true a b) h
  where
    go : (p q : Bool) → (p ≡ true → a < b) → (q ≡ true → a ≡ b) → (p || (q && true)) ≡ true → a ≤ b
    go true q l e h = le_of_lt (l refl)
    go false true l e h = le_of_eq (e refl)
    go false false l e h = absurd (false≢true h)

le_false : (a b : ℕ) → (ltb a b || (eqb a b && true)) ≡ false → b < a
le_false a b h = go (ltb a b) (eqb a b) (ltb-false a b) (eq-eqb a b) h
  where
    strict : b ≤ a → (a ≡ b → ⊥) → b < a
    strict l n = omega arith

    go : (p q : Bool) → (p ≡ false → b ≤ a) → (a ≡ b → q ≡ true) → (p || (q && true)) ≡ false → b < a
    go true q l e h = absurd (true≢false h)
    go false true l e h = absurd (true≢false h)
    go false false l e h = strict (l refl) (λ (p : a ≡ b). false≢true (e p))

tidy : (k m : ℕ) (e : ℤ) → 1 * 2 ^ k * down e ≡ 2 ^ k * down e
tidy k m e = ap (λ (x : ℕ). x * down e) (one-mul (2 ^ k))

pub reached : (k m : ℕ) (e : ℤ) → le (fin false 1 (pos k)) (fin false m e) ≡ true → 2 ^ k * down e ≤ m * up e
unfolding le
reached k m e h =
    let l : 1 * 2 ^ k * down e ≤ m * up e * 1 = le_true (1 * 2 ^ k * down e) (m * up e * 1) h in
    omega (arith, l, tidy k m e)

missed : (k m : ℕ) (e : ℤ) → le (fin false 1 (pos k)) (fin false m e) ≡ false → m * up e < 2 ^ k * down e
unfolding le
missed k m e h =
    let l : m * up e * 1 < 1 * 2 ^ k * down e = le_false (1 * 2 ^ k * down e) (m * up e * 1) h in
    omega (arith, l, tidy k m e)

pub under : (k m : ℕ) (e : ℤ) → lt (fin false m e) (fin false 1 (pos k)) ≡ true → m * up e < 2 ^ k * down e
unfolding lt
under k m e h =
    let l : m * up e * 1 < 1 * 2 ^ k * down e = ltb-true (m * up e * 1) (1 * 2 ^ k * down e) h in
    omega (arith, l, tidy k m e)

over : (k m : ℕ) (e : ℤ) → lt (fin false m e) (fin false 1 (pos k)) ≡ false → 2 ^ k * down e ≤ m * up e
unfolding lt
over k m e h =
    let l : 1 * 2 ^ k * down e ≤ m * up e * 1 = ltb-false (m * up e * 1) (1 * 2 ^ k * down e) h in
    omega (arith, l, tidy k m e)

-- ---- what a value says of its float
below_value : (m : ℕ) (e : ℤ) (a c k : ℕ) → 0 < c → m * up e * c ≡ a * down e → a < k * c → m * up e < k * down e
below_value m e a c k C v h =
    lt_of_mul-lt-mul_right c
    (lt_of_le_of_lt (le_of_eq v) (lt_of_lt_of_le (mul-lt-mul_of_pos_right h (down_pos e)) (le_of_eq (mul_right_comm k c (down e)))))

pub lt_power : (k : ℕ) (x : Float) (a c : ℕ) → 0 < c → HasValue x false a c → a < 2 ^ k * c → lt x (fin false 1 (pos k)) ≡ true
unfolding lt
lt_power k nan a c C v h = absurd v
lt_power k (inf s) a c C v h = absurd v
lt_power k (fin true m e) a c C v h = absurd (true≢false v.0)
lt_power k (fin false m e) a c C v h =
    let l : m * up e < 2 ^ k * down e = below_value m e a c (2 ^ k) C v.1 h in
    lt-ltb (m * up e * 1) (1 * 2 ^ k * down e) (omega (arith, l, tidy k m e))

uncapped : (n : ℕ) → n < 2 ^ 64 → min n (2 ^ 64 - 1) ≡ n
uncapped n h = omega arith

-- below 2^64 the whole part is the quotient of any fraction that the float equals
pub cut_whole : (m : ℕ) (e : ℤ) → m * up e < 2 ^ 64 * down e → whole_part (fin false m e) ≡ m * up e / down e
unfolding whole_part to_unsigned of_bits
cut_whole m e h = go (le c1 (fin false m e)) (missed 0 m e) (lt (fin false m e) two_to64)
    (lt_power 64 (fin false m e) (m * up e) (down e) (down_pos e) (refl, refl) h)
  where
    go : (t : Bool) → (t ≡ false → m * up e < 2 ^ 0 * down e) → (u : Bool) → u ≡ true
        → cond (t && u) (min (m * up e / down e) (2 ^ 64 - 1)) 0 ≡ m * up e / down e
    go true f true r = uncapped (m * up e / down e) ((div-lt_iff_lt-mul (down_pos e)).1 h)
    go true f false r = absurd (false≢true r)
    go false f u r = let q : m * up e / down e < 1 = (div-lt_iff_lt-mul (down_pos e)).1 (omega (arith, f refl)) in omega arith

pub whole_value : (x : Float) (a c : ℕ) → 0 < c → HasValue x false a c → a < 2 ^ 64 * c → whole_part x ≡ a / c
whole_value nan a c C v h = absurd v
whole_value (inf s) a c C v h = absurd v
whole_value (fin true m e) a c C v h = absurd (true≢false v.0)
whole_value (fin false m e) a c C v h = cut_whole m e (below_value m e a c (2 ^ 64) C v.1 h) ∙ div_same (m * up e) (down e) a c (down_pos e) C v.1

-- ---- the bits of an x from 1 on and below 2^23

-- b's exponent is within bounds, and its 24 digits, shifted by it, are x's whole part
pub record Cut (b : ℕ) (x : Float) : Type 0 where
  pub no_nan : T (not (is_nan x))
  pub least : 127 ≤ b / 8388608
  pub most : b / 8388608 ≤ 149
  pub small : (b % 8388608 + 8388608) / 2 ^ (150 - b / 8388608) ≤ 2 ^ 24
  pub whole : (b % 8388608 + 8388608) / 2 ^ (150 - b / 8388608) ≡ to_unsigned 64 x

-- a pattern of the field k + 1 and the digits q under a leading one
fields : (b k q : ℕ) → b ≡ 0 + k * 8388608 + q → 8388608 ≤ q → q < 16777216 → (b / 8388608 ≡ k + 1) × (b % 8388608 + 8388608 ≡ q)
fields b k q e l h = (omega arith, omega arith)

-- n has 150 to 172 digits, of which q keeps 24
digits_kept : (n : ℕ) → 2 ^ 149 ≤ n → 2 ^ 23 ≤ n / 2 ^ (size n - 24)
digits_kept n h =
    let s : 149 < size n = size_gt n 149 h in
    let k = size n - 24 in
    let j : 23 + k < size n = omega arith in
    (le-div_iff_mul-le (pow_pos k)).1 (le_trans (le_of_eq (sym (pow-add 2 23 k))) (size_reaches n (23 + k) j))

shifted : (n k : ℕ) → k ≤ 149 → n / 2 ^ k / 2 ^ (149 - k) ≡ n / 2 ^ 149
shifted n k h = let j : k + (149 - k) ≡ 149 = omega arith in shr-shr n k (149 - k) ∙ ap (λ (i : ℕ). n / 2 ^ i) j

module _ (m : ℕ) (e : ℤ) (lo : down e ≤ m * up e) (hi : m * up e < 2 ^ 23 * down e) where
  a : ℕ
  a = m * up e

  n : ℕ
  n = a * 2 ^ 149 / down e

  n_least : 2 ^ 149 ≤ n
  unfolding n a
  n_least = (le-div_iff_mul-le (down_pos e)).1 (le_trans (le_of_eq (mul_comm (2 ^ 149) (down e))) (mul-le-mul_right (2 ^ 149) lo))

  n_most : n < 2 ^ 172
  unfolding n a
  n_most =
      (div-lt_iff_lt-mul (down_pos e)).1
      (lt_of_lt_of_le (mul-lt-mul_of_pos_right hi (pow_pos 149))
      (le_of_eq (mul_right_comm (2 ^ 23) (down e) (2 ^ 149) ∙ ap (λ (x : ℕ). x * down e) (sym (pow-add 2 23 149)))))

  whole_is : n / 2 ^ 149 ≡ a / down e
  unfolding n
  whole_is = div-div-eq-div-mul (a * 2 ^ 149) (down e) (2 ^ 149) ∙ mul-div-mul_right a (down e) (pow_pos 149)

  cut_fin : Cut (to_bits binary32 (fin false m e)) (fin false m e)
  unfolding to_bits is_nan to_unsigned n a
  cut_fin =
      let k = size n - 24 in
      let q = n / 2 ^ k in
      let s : 149 < size n = size_gt n 149 n_least in
      let t : size n ≤ 172 = size-le n 172 n_most in
      let f = fields (0 + k * 8388608 + q) k q refl (digits_kept n n_least) (kept-lt 24 n) in
      let w : a / down e < 2 ^ 23 = (div-lt_iff_lt-mul (down_pos e)).1 hi in
      let j : 150 - (k + 1) ≡ 149 - k = omega arith in
      record {
        no_nan = tt;
        least = omega (arith, f.0);
        most = omega (arith, f.0);
        small = fit (0 + k * 8388608 + q) (150 - (0 + k * 8388608 + q) / 8388608);
        whole = ap (λ (x : ℕ). x / 2 ^ (150 - (0 + k * 8388608 + q) / 8388608)) f.1
            ∙ ap (λ (x : ℕ). q / 2 ^ (150 - x)) f.0
            ∙ ap (λ (x : ℕ). q / 2 ^ x) j
            ∙ shifted n k (omega arith)
            ∙ whole_is
            ∙ sym (uncapped (a / down e) (omega arith));
      }
    where
      fit : (b j : ℕ) → (b % 8388608 + 8388608) / 2 ^ j ≤ 2 ^ 24
      fit b j = omega (arith, div-le_self (b % 8388608 + 8388608) (2 ^ j), mod-lt b (zero-lt-suc 8388607))

-- what is at least 2^k is not negative, and above -1
pub no_minus : (k m : ℕ) (e : ℤ) → le (fin false 1 (pos k)) (fin true m e) ≡ true → ⊥
no_minus k m e h = above_of_le (fin false 1 (pos k)) (fin true m e) tt (passes (le (fin false 1 (pos k)) (fin true m e)) h)

pub above_minus_one : (x : Float) → le c1 x ≡ true → T (lt (fin true 1 (pos 0)) x)
unfolding of_bits lt
above_minus_one x h = Floats.lt_of_lt_of_le (fin true 1 (pos 0)) c1 x tt (passes (le c1 x) h)

pub below_two_to64 : (x : Float) → lt x two_to64 ≡ true → T (lt x (fin false 1 (pos 64)))
unfolding of_bits
below_two_to64 x h = passes (lt x two_to64) h

pub cut : (x : Float) → le c1 x ≡ true → lt x two_to23 ≡ true → Cut (to_bits binary32 x) x
unfolding of_bits
cut nan h k = absurd (false≢true (unfold le in h))
cut (inf true) h k = absurd (false≢true (unfold le in h))
cut (inf false) h k = absurd (false≢true (unfold lt in k))
cut (fin true m e) h k = absurd (no_minus 0 m e h)
cut (fin false m e) h k = cut_fin m e (omega (arith, reached 0 m e h)) (under 23 m e k)

-- ---- below 2^23

untrue : (b : Bool) → (b ≡ true → ⊥) → b ≡ false
untrue true f = absurd (f refl)
untrue false f = refl

-- below 2^64 is not at or above it
pub not_past : (x : Float) → lt x two_to64 ≡ true → le two_to64 x ≡ false
not_past x h = untrue _ (λ g. Floats.lt_irrefl x (Floats.lt_of_lt_of_le x two_to64 x (passes (lt x two_to64) h) (passes (le two_to64 x) g)))

pub short : (x : Float) → lt x two_to23 ≡ true → lt x two_to64 ≡ true
unfolding of_bits lt
short x h = is_true (lt x two_to64) (Floats.lt_trans x two_to23 two_to64 (passes (lt x two_to23) h) tt)

-- ---- from 2^23 on

no_zero : (u d : ℕ) → 0 < d → 2 ^ 23 * d ≤ 0 * u → ⊥
no_zero u d p h = omega arith

no_half : (m p : ℕ) → 0 < p → m < 2 ^ 24 → 2 ^ 23 * (p * 2) ≤ m * 1 → ⊥
no_half m p q h l = omega arith

-- of a value that fits: m has 24 digits at most
pub digits : (s : Bool) (m : ℕ) (e : ℤ) → T (fits binary32 (fin s (suc m) e)) → suc m < 2 ^ 24
unfolding fits
digits s m e t =
    let a : Bool = eqb (suc m % 2) 1 in
    let b : Bool = ltb (suc m) (2 ^ 24) in
    let c : Bool = leb (down e) (2 ^ 149) in
    let d : Bool = ltb (suc m * up e) (2 ^ 128 * down e) in
    ltb→lt (suc m) (2 ^ 24) (and_r a b (and_l (a && b) c (and_l (a && b && c) d t)))

-- the float of its whole part is x itself
own_whole : (m : ℕ) (e : ℤ) → T (fits binary32 (fin false m e)) → 2 ^ 23 * down e ≤ m * up e → m * up e < 2 ^ 64 * down e
    → of_int binary32 (pos (whole_part (fin false m e))) ≡ fin false m e
own_whole zero e t h k = absurd (no_zero (up e) (down e) (down_pos e) h)
own_whole (suc m) (negsuc a) t h k = absurd (no_half (suc m) (2 ^ a) (pow_pos a) (digits false m (negsuc a) t) (omega (arith, h, pow-suc 2 a)))
own_whole (suc m) (pos a) t h k =
    let w : whole_part (fin false (suc m) (pos a)) ≡ suc m * 2 ^ a = cut_whole (suc m) (pos a) k ∙ div-one (suc m * 2 ^ a) in
    ap (λ (n : ℕ). of_int binary32 (pos n)) w
    ∙ whole_unique binary32 (of_int binary32 (pos (suc m * 2 ^ a))) (fin false (suc m) (pos a)) false (suc m * 2 ^ a)
    (of_int-fits binary32 (pos (suc m * 2 ^ a))) t (unfold of_int in exact (suc m * 2 ^ a) 1 (zero-lt-suc 0) (whole_dyadic (suc m) a (digits false m (pos a) t))
    k) (refl, refl)

-- ---- the four cases of `split`

pub cut_parts : (x : Float) (n : ℕ) → le c1 x ≡ true → lt x two_to23 ≡ true → n ≡ to_unsigned 64 x
    → ◌≡◌ {A = Parts} (record { integral = n; fractional = x ⊖ of_int binary32 (pos n) }) (split_of x)
unfolding whole_part fraction_of
cut_parts x n h k e = let s = short x k in rw (h, s, not_past x s, ← e)

-- the float of x's whole part is x
whole_again : (x : Float) → T (fits binary32 x) → le c1 x ≡ true → lt x two_to23 ≡ false → lt x two_to64 ≡ true → of_int binary32 (pos (whole_part x)) ≡ x
unfolding of_bits
whole_again nan t h k l = absurd (false≢true (unfold le in h))
whole_again (inf true) t h k l = absurd (false≢true (unfold le in h))
whole_again (inf false) t h k l = absurd (false≢true (unfold lt in l))
whole_again (fin true m e) t h k l = absurd (no_minus 0 m e h)
whole_again (fin false m e) t h k l = own_whole m e t (over 23 m e k) (under 64 m e l)

pub whole_parts : (x : Float) (n : ℕ) → T (fits binary32 x) → le c1 x ≡ true → lt x two_to23 ≡ false → lt x two_to64 ≡ true → n ≡ to_unsigned 64 x
    → ◌≡◌ {A = Parts} (record { integral = n; fractional = x ⊖ x }) (split_of x)
unfolding fraction_of
whole_parts x n t h k l e =
    let w : whole_part x ≡ n = unfold whole_part in rw (h, l) (sym e) in
    rw (not_past x l, whole_again x t h k l, w)

past : (x : Float) → le c1 x ≡ true → lt x two_to64 ≡ false → le two_to64 x ≡ true
unfolding of_bits is_nan
past x h k = is_true (le two_to64 x) (Floats.le_of_not-lt x two_to64 (Floats.le_right c1 x (passes (le c1 x) h)) tt (Floats.T_from_false (lt x two_to64) k))

pub past_parts : (x : Float) → le c1 x ≡ true → lt x two_to64 ≡ false → ◌≡◌ {A = Parts} (record { integral = 0; fractional = c0 }) (split_of x)
unfolding whole_part fraction_of
past_parts x h k = rw (h, k, past x h k)

low : (x : Float) → le c1 x ≡ false → le two_to64 x ≡ false
unfolding of_bits le
low x h = untrue _ (λ g. true≢false (sym (is_true (le c1 x) (Floats.le_trans c1 two_to64 x tt (passes (le two_to64 x) g))) ∙ h))

zero_is : of_int binary32 (pos 0) ≡ c0
unfolding of_int of_bits
zero_is = refl

pub low_parts : (x : Float) → le c1 x ≡ false → ◌≡◌ {A = Parts} (record { integral = 0; fractional = x ⊖ c0 }) (split_of x)
unfolding whole_part fraction_of
low_parts x h = rw (h, low x h, zero_is)

-- ---- between two neighbouring whole numbers

-- x is a / c, from n on and below n + 1
record Near (x : Float) (n a c : ℕ) : Type 0 where
  some : 0 < c
  value : HasValue x false a c
  least : n * c ≤ a
  most : a < (n + 1) * c

level : (p q k u d : ℕ) → 0 < u → p * 1 ≡ k * u → p * d ≤ q * u → k * d ≤ q
level p q k u d h e l =
    let f : k * u ≡ p = omega (arith, e) in
    le_of_mul-le-mul_right (le_trans (le_of_eq (mul_right_comm k d u ∙ ap (λ (z : ℕ). z * d) f)) l) h

strictly : (p q k u d : ℕ) → 0 < u → p * 1 ≡ k * u → q * u < p * d → q < k * d
strictly p q k u d h e l =
    let f : p ≡ k * u = omega (arith, e) in
    lt_of_mul-lt-mul_right u (lt_of_lt_of_le l (le_of_eq (ap (λ (z : ℕ). z * d) f ∙ mul_right_comm k u d)))

close : (lo hi : Float) (n : ℕ) → HasValue lo false n 1 → HasValue hi false (n + 1) 1 → 0 < n → (m : ℕ) (e : ℤ) → le lo (fin false m e) ≡ true
    → lt (fin false m e) hi ≡ true
    → Near (fin false m e) n (m * up e) (down e)
unfolding le lt
close nan hi n v w p m e h k = absurd v
close (inf s) hi n v w p m e h k = absurd v
close (fin s i d) nan n v w p m e h k = absurd w
close (fin s i d) (inf t) n v w p m e h k = absurd w
close (fin true i d) (fin t j f) n v w p m e h k = absurd (true≢false v.0)
close (fin false i d) (fin true j f) n v w p m e h k = absurd (true≢false w.0)
close (fin false i d) (fin false j f) n v w p m e h k =
    record {
      some = down_pos e;
      value = (refl, refl);
      least = level (i * up d) (m * up e) n (down d) (down e) (down_pos d) v.1 (le_true (i * up d * down e) (m * up e * down d) h);
      most = strictly (j * up f) (m * up e) (n + 1) (down f) (down e) (down_pos f) w.1 (ltb-true (m * up e * down f) (j * up f * down e) k);
    }

no_inf : (hi : Float) (n : ℕ) → HasValue hi false n 1 → lt (inf false) hi ≡ true → ⊥
unfolding lt
no_inf nan n w k = w
no_inf (inf s) n w k = w
no_inf (fin s m e) n w k = false≢true k

quotient : (n a c : ℕ) → 0 < c → n * c ≤ a → a < (n + 1) * c → a / c ≡ n
quotient n a c p h k =
    let l : n ≤ a / c = (le-div_iff_mul-le p).1 h in
    let m : a / c < n + 1 = (div-lt_iff_lt-mul p).1 k in
    omega arith

near : (lo hi x : Float) (n : ℕ) → HasValue lo false n 1 → HasValue hi false (n + 1) 1 → 0 < n → n < 2 ^ 23 → T (above x) → le lo x ≡ true → lt x hi ≡ true
    → (whole_part x ≡ n) × (lt x two_to64 ≡ true)
unfolding of_bits
near lo hi nan n v w p q a h k = absurd a
near lo hi (inf true) n v w p q a h k = absurd a
near lo hi (inf false) n v w p q a h k = absurd (no_inf hi (n + 1) w k)
near lo hi (fin true m e) n v w p q a h k = absurd a
near lo hi (fin false m e) n v w p q a h k =
    let b = close lo hi n v w p m e h k in
    let l : m * up e < 2 ^ 64 * down e = lt_of_lt_of_le b.most (mul-le-mul_right (down e) (omega (arith, q))) in
    (cut_whole m e l ∙ quotient n (m * up e) (down e) (down_pos e) b.least b.most, lt_power 64 (fin false m e) (m * up e) (down e) (down_pos e) (refl, refl) l)

whole_is_exact : (n : ℕ) → n ≤ 2 ^ 24 → HasValue (of_int binary32 (pos n)) false n 1
unfolding of_int
whole_is_exact n h = round_whole binary32 false n h

-- a guess n that x is not below, and whose neighbour x is below, is the whole part
pub near_parts : (x : Float) (n : ℕ) → 0 < n → n < 2 ^ 23 → le (of_int binary32 (pos n)) x ≡ true → lt x (of_int binary32 (pos (n + 1))) ≡ true
    → ◌≡◌ {A = Parts} (record { integral = n; fractional = x ⊖ of_int binary32 (pos n) }) (split_of x)
unfolding fraction_of
near_parts x n p q h k =
    let lo = of_int binary32 (pos n) in
    let v = whole_is_exact n (omega (arith, q)) in
    let w = whole_is_exact (n + 1) (omega (arith, q)) in
    let a = above_of_le lo x (positive_of_value lo n 1 v p) (passes (le lo x) h) in
    let b = near lo (of_int binary32 (pos (n + 1))) x n v w p q a h k in
    rw (not_past x b.1, b.0)

pub guessed : (n : ℕ) → (leb 1 n && ltb n 8388608) ≡ true → (0 < n) × (n < 2 ^ 23)
guessed n h = let t = and_true (leb 1 n) (ltb n 8388608) h in (leb→le 1 n (passes (leb 1 n) t.0), ltb-true n 8388608 t.1)

-- ---- what the functions over a float's whole part cite
pub ruleset truncates = (above_minus_one, below_two_to64, short)

pub ruleset splits = (truncates, cut_parts, whole_parts, past_parts, low_parts)

pub ruleset guesses = (guessed, and_true, near_parts)
