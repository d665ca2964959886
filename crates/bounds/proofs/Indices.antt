-- Whole parts and fractions of floats that lie within bounds: indices of tables. Assumes nothing.
use mathlib.Core.Path.{◌≡◌, refl, sym, ap, ◌∙◌, subst}
use mathlib.Core.Logic.{inl, inr}
use mathlib.Core.Bool.{Bool, true, false, not, ◌&&◌, cond, true≢false}
use Prim.Native.Nat.{ℕ, zero, suc, ◌+◌, ◌-◌, ◌*◌, ◌/◌, ◌%◌, ◌^◌, ◌≤◌, ◌<◌, zero-le, min}
use native.Mathlib.Nat.{le_of_lt, le_of_eq, lt_of_le_of_lt, zero-lt-suc, mul-one, mul_comm, mul_assoc, mul-pos, mul-le-mul_right, mul_right_comm, add-mul}
use native.Mathlib.Nat.{div-le_of_le-mul, div-lt_iff_lt-mul, div-one, div-le_self, div-add-mod', mod-lt, mod-le}
use native.Mathlib.Omega.{arith}
use lib.Dec.{T, ltb, leb, eqb, ltb→lt, lt→ltb, lit<}
use lib.IntN.{ℤ, pos, negsuc}
use lib.Pow.{pow_pos, pow-add}
use lib.Ieee.{Float, nan, inf, fin, binary32, up, down, round, sub, mul, lt, le, fits, of_bits, of_int, to_unsigned}
use lib.Ieee.Fits.{add-fits, down_pos, and_l, and_r}
use lib.Ieee.Exact.{HasValue, round_exact}
use lib.Ieee.Back.{round_whole, whole_unique}
use lib.Ieee.Scale.{finite}
use Rattle.ground.specs.F32.{◌⊕◌, ◌⊖◌, ◌⊗◌, c128, c256}
use Rattle.ground.specs.Floats.{whole_part, fraction_of}
use Rattle.utils.specs.Units.{high_index, low_index}
use Rattle.bounds.proofs.Order.{zero_f, one_f, two64, le_refl_float, AtMost, le→number, number→le, not-le→number, le_or, lt_of_le}
use Rattle.bounds.proofs.Monotone.{over, near_mono, sub_near, sub_mono, mul_le}
use Rattle.bounds.proofs.Bounds.{int, minus, Between, inside, encloses, is_in, add_in, sub_in, mul_in, const_in, in_test}

-- ---- the whole part of what is at most n is at most n; of what is below n + 1 too
zero_or : (b : Bool) (n c : ℕ) → n ≤ c → cond b n 0 ≤ c
zero_or true n c h = h
zero_or false n c h = zero-le

pub whole_at_most : (n : ℕ) (x : Float) → T (le x (fin false n (pos 0))) → whole_part x ≤ n
unfolding whole_part of_bits le lt to_unsigned
whole_at_most n nan h = zero-le
whole_at_most n (inf true) h = zero-le
whole_at_most n (inf false) h = absurd (unfold le in h)
whole_at_most n (fin true m e) h = zero_or (le one_f (fin true m e) && lt (fin true m e) two64) 0 n zero-le
whole_at_most n (fin false m e) h =
    let q : m * up e / down e ≤ n = div-le_of_le-mul (down e) (omega (arith, mul_comm (down e) n, le→number (fin false m e) (fin false n (pos 0)) tt tt h)) in
    zero_or (le one_f (fin false m e) && lt (fin false m e) two64) (min (m * up e / down e) (2 ^ 64 - 1)) n (omega arith)

pub whole_below : (n : ℕ) (x : Float) → T (lt x (fin false (suc n) (pos 0))) → whole_part x ≤ n
unfolding whole_part lt of_bits le to_unsigned
whole_below n nan h = zero-le
whole_below n (inf true) h = zero-le
whole_below n (inf false) h = absurd h
whole_below n (fin true m e) h = zero_or (le one_f (fin true m e) && lt (fin true m e) two64) 0 n zero-le
whole_below n (fin false m e) h =
    let k : m * up e * 1 < suc n * 1 * down e = ltb→lt (m * up e * 1) (suc n * 1 * down e) h in
    let q : m * up e / down e < suc n = (div-lt_iff_lt-mul (down_pos e)).1 (simp mul-one at k) in
    zero_or (le one_f (fin false m e) && lt (fin false m e) two64) (min (m * up e / down e) (2 ^ 64 - 1)) n (omega arith)

-- ---- the largest float below 1, and what lies at it or under it: r / d with r below d, r of 24 digits at most
abbrev pub float_under_one : Float
float_under_one = fin false 16777215 (negsuc 23)

under_one : (r d : ℕ) → r < d → r < 16777216 → r * 16777216 ≤ 16777215 * d
under_one r d h k = omega arith

-- of a value that fits: m has 24 digits at most
pub digits : (s : Bool) (m : ℕ) (e : ℤ) → T (fits binary32 (fin s m e)) → m < 16777216
unfolding fits
digits s zero e t = lit< tt
digits s (suc m) e t =
    let a : Bool = eqb (suc m % 2) 1 in
    let b : Bool = ltb (suc m) (2 ^ 24) in
    let c : Bool = leb (down e) (2 ^ 149) in
    let d : Bool = ltb (suc m * up e) (2 ^ 128 * down e) in
    ltb→lt (suc m) (2 ^ 24) (and_r a b (and_l (a && b) c (and_l (a && b && c) d t)))

-- below 1 is at most that float
pub lt_one : (x : Float) → T (fits binary32 x) → T (lt x one_f) → T (le x float_under_one)
unfolding lt le
lt_one nan f h = absurd h
lt_one (inf true) f h = tt
lt_one (inf false) f h = absurd h
lt_one (fin true m e) f h = number→le (fin true m e) float_under_one tt tt (omega arith)
lt_one (fin false m (pos k)) f h = number→le (fin false m (pos k)) float_under_one tt tt (omega (arith, ltb→lt (m * 2 ^ k * 1) 1 h))
lt_one (fin false m (negsuc k)) f h =
    number→le (fin false m (negsuc k)) float_under_one tt tt (omega
    (arith, under_one m (2 ^ suc k) (omega (arith, ltb→lt (m * 1 * 1) (1 * 2 ^ suc k) h)) (digits false m (negsuc k) f)))

-- at most 1 and at least 1 is 1
pub is_one : (x : Float) → T (fits binary32 x) → T (le one_f x) → T (le x one_f) → x ≡ one_f
is_one nan f h k = absurd (unfold le in h)
is_one (inf true) f h k = absurd (unfold le in h)
is_one (inf false) f h k = absurd (unfold le in k)
is_one (fin true m e) f h k = absurd (omega (arith, down_pos e, le→number one_f (fin true m e) tt tt h))
is_one (fin false m e) f h k =
    whole_unique binary32 (fin false m e) one_f false 1 f (unfold fits in tt)
    (refl, omega (arith, le→number one_f (fin false m e) tt tt h, le→number (fin false m e) one_f tt tt k)) (refl, refl)

-- ---- the fraction of a float that is not below zero: from 0 to the largest float below 1
one_is : float_under_one ≡ round binary32 false 16777215 16777216
unfolding round
one_is = refl

zero_is : zero_f ≡ round binary32 false 0 1
unfolding round
zero_is = refl

-- X / c less the whole number n / d = W, where X / c is W and r / c more
taken_off : (X c W r n d : ℕ) → X ≡ W * c + r → n * 1 ≡ W * d → r * 16777216 ≤ 16777215 * c → AtMost (X * d + 0 * c) (0 * d + n * c) (c * d) 16777215 0 16777216
taken_off X c W r n d e f h =
    omega (
      arith,
      e,
      ap (λ (z : ℕ). z * d) e,
      add-mul (W * c) r d,
      ap (λ (z : ℕ). z * c) (sym (mul-one n) ∙ f),
      mul_right_comm W c d,
      mul-le-mul_right d h,
      mul_right_comm r 16777216 d,
      mul_assoc 16777215 c d,
    )

left_over : (X c W r n d : ℕ) → X ≡ W * c + r → n * 1 ≡ W * d → AtMost 0 0 1 (X * d + 0 * c) (0 * d + n * c) (c * d)
left_over X c W r n d e f =
    omega (arith, e, ap (λ (z : ℕ). z * d) e, add-mul (W * c) r d, ap (λ (z : ℕ). z * c) (sym (mul-one n) ∙ f), mul_right_comm W c d)

minus_whole : (m : ℕ) (e : ℤ) (w : Float) (W r : ℕ) → HasValue w false W 1 → m * up e ≡ W * down e + r → r * 16777216 ≤ 16777215 * down e
    → Between zero_f (fin false m e ⊖ w) float_under_one
minus_whole m e nan W r v p h = absurd v
minus_whole m e (inf s) W r v p h = absurd v
minus_whole m e (fin true n d) W r v p h = absurd (true≢false v.0)
minus_whole m e (fin false n d) W r v p h =
    let near = sub_near (fin false m e) (fin false n d) tt tt in
    let D = mul-pos (down_pos e) (down_pos d) in
    record {
      low_finite = tt;
      high_finite = tt;
      least = near_mono (zero-lt-suc 0) D (over 0 refl zero_is) near (left_over (m * up e) (down e) W r (n * up d) (down d) p v.1);
      most = near_mono D (zero-lt-suc 16777215) near (over 16777215 refl one_is) (taken_off (m * up e) (down e) W r (n * up d) (down d) p v.1 h);
    }

exact : (m a : ℕ) → m < 16777216 → m * 2 ^ a < 2 ^ 64 * 1 → HasValue (round binary32 false (m * 2 ^ a) 1) false (m * 2 ^ a) 1
exact m a d h =
    let j : m * 2 ^ (a + 149) ≡ m * 2 ^ a * 2 ^ 149 = ap (λ (x : ℕ). m * x) (pow-add 2 a 149) ∙ sym (mul_assoc m (2 ^ a) (2 ^ 149)) in
    round_exact binary32 false (m * 2 ^ a) 1 m (a + 149) (zero-lt-suc 0) d
    (lt_of_le_of_lt (le_of_eq j) (lt_of_le_of_lt (mul-le-mul_right (2 ^ 149) (le_of_lt h)) (lit< tt)))
    (sym j ∙ sym (mul-one (m * 2 ^ (a + 149))))

-- below 2 ^ 64 the whole part is the number cut, and it is a float
cut_float : (m : ℕ) (e : ℤ) → m < 16777216 → m * up e < 2 ^ 64 * down e → HasValue (of_int binary32 (pos (m * up e / down e))) false (m * up e / down e) 1
unfolding of_int
cut_float m (pos k) d h = subst (λ (n : ℕ). HasValue (round binary32 false n 1) false n 1) (sym (div-one (m * 2 ^ k))) (exact m k d h)
cut_float m (negsuc k) d h = round_whole binary32 false (m * 1 / 2 ^ suc k) (omega (arith, div-le_self (m * 1) (2 ^ suc k)))

cut_is : (m : ℕ) (e : ℤ) → m * up e < 2 ^ 64 * down e → whole_part (fin false m e) ≡ m * up e / down e
unfolding whole_part lt of_bits le to_unsigned
cut_is m e h =
    go (le one_f (fin false m e)) (λ n. not-le→number one_f (fin false m e) tt tt n) (ltb (m * up e * 1) (18446744073709551616 * down e))
    (lt→ltb (m * up e * 1) (18446744073709551616 * down e) (omega arith))
  where
    go : (t : Bool) → (T (not t) → m * up e * 1 + 0 * down e < 1 * down e + 0 * 1) → (u : Bool) → T u
        → cond (t && u) (min (m * up e / down e) (2 ^ 64 - 1)) 0 ≡ m * up e / down e
    go true f true z = let q : m * up e / down e < 2 ^ 64 = (div-lt_iff_lt-mul (down_pos e)).1 h in omega arith
    go false f u z = let q : m * up e / down e < 1 = (div-lt_iff_lt-mul (down_pos e)).1 (omega (arith, f tt)) in omega arith
    go true f false z = elim z [ ]

remainder : (m : ℕ) (e : ℤ) → m < 16777216 → m * up e % down e * 16777216 ≤ 16777215 * down e
remainder m (pos k) d = omega (arith, mod-lt (m * 2 ^ k) (zero-lt-suc 0))
remainder m (negsuc k) d = under_one (m * 1 % 2 ^ suc k) (2 ^ suc k) (mod-lt (m * 1) (pow_pos (suc k))) (omega (arith, mod-le (m * 1) (2 ^ suc k)))

fraction_cut : (m : ℕ) (e : ℤ) → m < 16777216 → m * up e < 2 ^ 64 * down e
    → Between zero_f (fin false m e ⊖ of_int binary32 (pos (whole_part (fin false m e)))) float_under_one
fraction_cut m e d h =
    rw (cut_is m e h)
    (minus_whole m e (of_int binary32 (pos (m * up e / down e))) (m * up e / down e) (m * up e % down e) (cut_float m e d h)
    (sym (div-add-mod' (m * up e) (down e))) (remainder m e d))

zero_in : Between zero_f zero_f float_under_one
unfolding inside
zero_in = in_test zero_f zero_f float_under_one tt

-- x - 0 for an x that is 0
minus_zero_lem : (x : Float) → T (le zero_f x) → T (le x zero_f) → Between zero_f (x ⊖ of_int binary32 (pos 0)) float_under_one
unfolding encloses of_int
minus_zero_lem x h k = sub_in (is_in zero_f x zero_f tt tt h k) (const_in zero_f tt) zero_f float_under_one tt

pub fraction_in : (x : Float) → T (fits binary32 x) → T (le zero_f x) → Between zero_f (fraction_of x) float_under_one
unfolding fraction_of whole_part of_bits le lt to_unsigned
fraction_in nan f h = absurd (unfold le in h)
fraction_in (inf true) f h = absurd (unfold le in h)
fraction_in (inf false) f h = zero_in
fraction_in (fin true m e) f h = go (le two64 (fin true m e)) (le one_f (fin true m e) && lt (fin true m e) two64)
  where
    go : (t u : Bool) → Between zero_f (cond t zero_f (fin true m e ⊖ of_int binary32 (pos (cond u 0 0)))) float_under_one
    go true u = zero_in
    go false true = minus_zero_lem (fin true m e) h (number→le (fin true m e) zero_f tt tt (omega arith))
    go false false = minus_zero_lem (fin true m e) h (number→le (fin true m e) zero_f tt tt (omega arith))
fraction_in (fin false m e) f h = go (le two64 (fin false m e)) (λ n. not-le→number two64 (fin false m e) tt tt n)
  where
    go : (t : Bool) → (T (not t) → m * up e * 1 + 0 * down e < 1 * 2 ^ 64 * down e + 0 * 1)
        → Between zero_f (cond t zero_f (fin false m e ⊖ of_int binary32 (pos (whole_part (fin false m e))))) float_under_one
    go true g = zero_in
    go false g = fraction_cut m e (digits false m e f) (omega (arith, g tt))

-- ---- of a float that is not above zero: both are not above zero
less_zero : (x : Float) → T (finite x) → T (le x zero_f) → (t : Bool) → T (le (cond t zero_f (x ⊖ of_int binary32 (pos 0))) zero_f)
unfolding of_int
less_zero x p h true = le_refl_float zero_f tt
less_zero x p h false = subst (λ (z : Float). T (le (x ⊖ zero_f) z)) zero_zero (sub_mono x zero_f zero_f zero_f p tt tt tt h (le_refl_float zero_f tt))
  where
    zero_zero : zero_f ⊖ zero_f ≡ zero_f
    zero_zero = unfold sub in refl

none : (n : ℕ) → n ≤ 0 → n ≡ 0
none n h = omega arith

pub whole_zero : (x : Float) → T (le x zero_f) → whole_part x ≡ 0
whole_zero x h = none (whole_part x) (whole_at_most 0 x h)

pub fraction_zero : (x : Float) → T (le x zero_f) → T (le (fraction_of x) zero_f)
unfolding fraction_of whole_part of_bits le lt to_unsigned
fraction_zero nan h = absurd (unfold le in h)
fraction_zero (inf true) h = unfold le sub of_int in tt
fraction_zero (inf false) h = absurd (unfold le in h)
fraction_zero (fin s m e) h = rw (whole_zero (fin s m e) h) (less_zero (fin s m e) tt h (le two64 (fin s m e)))

-- ---- an index into a table of 256, by the fraction
scaled_zero : (z : Float) → T (le z zero_f) → T (le (z ⊗ c256) zero_f)
unfolding of_bits
scaled_zero nan h = absurd (unfold le in h)
scaled_zero (inf true) h = unfold le mul in tt
scaled_zero (inf false) h = absurd (unfold le in h)
scaled_zero (fin s m e) h =
    let z : zero_f ⊗ c256 ≡ zero_f = unfold mul in refl in
    rw z at (mul_le (fin s m e) zero_f c256 tt tt tt (unfold le in tt) h)

pub low_index_zero : (x : Float) → T (le x zero_f) → whole_part (fraction_of x ⊗ c256) ≡ 0
low_index_zero x h = whole_zero (fraction_of x ⊗ c256) (scaled_zero (fraction_of x) (fraction_zero x h))

low_index_above : (z : Float) → Between zero_f z float_under_one → whole_part (z ⊗ c256) ≤ 255
unfolding encloses of_bits lt
low_index_above z p =
    let q = mul_in p (const_in c256 tt) zero_f (fin false 16777215 (negsuc 15)) tt in
    whole_below 255 (z ⊗ c256) (lt_of_le (z ⊗ c256) (fin false 16777215 (negsuc 15)) (fin false 256 (pos 0)) q.most tt)

-- whatever the float is
pub low_index_lem : (x : Float) → T (fits binary32 x) → whole_part (fraction_of x ⊗ c256) ≤ 255
low_index_lem nan f = unfold whole_part fraction_of sub mul of_bits le lt to_unsigned in zero-le
low_index_lem (inf true) f = omega (arith, low_index_zero (inf true) (unfold le in tt))
low_index_lem (inf false) f = low_index_above (fraction_of (inf false)) (fraction_in (inf false) f (unfold le in tt))
low_index_lem (fin s m e) f = elim (le_or zero_f (fin s m e) tt tt) [
  | inl h ↦ low_index_above (fraction_of (fin s m e)) (fraction_in (fin s m e) f h)
  | inr h ↦ omega (arith, low_index_zero (fin s m e) h)
]

-- ---- the indices of semitones_to_ratio: of semitones from -36 to 108 none is above 236, and the low one, of any semitones, never above 255
pub high_in : (semitones : Float) → Between (minus 36) semitones (int 108) → high_index semitones ≤ 236
unfolding high_index encloses of_bits
high_in semitones p = whole_at_most 236 (semitones ⊕ c128) (add_in p (const_in c128 tt) (int 92) (int 236) tt).most

pub low_in : (semitones : Float) → low_index semitones ≤ 255
unfolding low_index
low_in semitones = low_index_lem (semitones ⊕ c128) (add-fits binary32 semitones c128)
