-- Where a product of two f32 is subnormal, the product in f64, put on the grid of the least f32, is the product in f32. Assumes nothing.
use mathlib.Core.Path.{◌≡◌, refl, sym, ap, ◌∙◌, subst}
use Prim.Native.Nat.{ℕ, zero, suc, ◌+◌, ◌-◌, ◌*◌, ◌/◌, ◌%◌, ◌^◌, ◌≤◌, ◌<◌, compare, Ordering}
use native.Mathlib.Nat.{one-mul, zero-mul, zero-lt-suc, lt_irrefl, le_trans, le_of_eq, lt_of_lt_of_le, lt_of_le_of_lt, lt_of_not-le, not-le_of_lt, mul-one}
use native.Mathlib.Nat.{mul_comm, mul_assoc, mul_left_comm, mul_right_comm, mul-mul-mul_comm, mul-pos, mul-lt-mul_of_pos_right, mul-le-mul_right}
use native.Mathlib.Nat.{le-div_iff_mul-le, div-lt_iff_lt-mul, add-mul-div_right, add-mul-mod_self_right, le_of_lt, mul-le-mul, lt_of_mul-lt-mul_right}
use native.Mathlib.Nat.{eq_of_mul-eq-mul_right, add-mul}
use native.Mathlib.Omega.{arith}
use mathlib.Core.Bool.{Bool, true, false, not, ◌&&◌, ◌||◌, cond, beq, true≢false, false≢true}
use lib.IntN.{ℤ, pos, negsuc}
use lib.Dec.{T, ltb, leb, eqb, nltb→le, ltb→lt, lt→ltb, leb→le, eqb→eq, lit<, lit≤}
use lib.Pow.{pow-add, pow_pos, pow_mono, pow-lt}
use lib.Ieee.{Float, nan, inf, fin, binary32, binary64, up, down, unlike, size, nearest, units, round, sum, add, sub, mul, lt, eq, fits, is_nan, of_bits}
use lib.Ieee.Digits.{size-lt, size-le}
use lib.Ieee.Fits.{down_pos, core, nearest-le, round_is, mul-fits, sub-fits, fits_widens, and_i, and_l, and_r}
use lib.Ieee.Exact.{HasValue, units_val, round_exact}
use lib.Ieee.Nearest.{closest, closest_same}
use lib.Ieee.Scale.{round_same, finite}
use Rattle.modes.specs.Subnormal.{zero64, anchor, zero_of, on_grid}
use Rattle.modes.proofs.Unique.{same_value, zero_exp}
use Rattle.modes.proofs.Mirror.{closest_back}

-- ---- a whole even number added to a fraction is added to its nearest whole number
nearest_shift : (q c : ℕ) (o : Ordering) → nearest (q + 2 * c) o ≡ nearest q o + 2 * c
nearest_shift q c Ordering.lt = refl
nearest_shift q c Ordering.eq = tie q c
  where
    tie : (q c : ℕ) → q + 2 * c + (q + 2 * c) % 2 ≡ q + q % 2 + 2 * c
    tie q c = omega arith
nearest_shift q c Ordering.gt = up_one q c
  where
    up_one : (q c : ℕ) → suc (q + 2 * c) ≡ suc q + 2 * c
    up_one q c = omega arith

closest_shift : (x c d : ℕ) → 0 < d → closest (x + 2 * c * d) d ≡ closest x d + 2 * c
closest_shift x c d D =
    ap (λ (q : ℕ). nearest q (compare ((x + 2 * c * d) % d * 2) d)) (add-mul-div_right x (2 * c) D)
    ∙ ap (λ (r : ℕ). nearest (x / d + 2 * c) (compare (r * 2) d)) (add-mul-mod_self_right x (2 * c) d)
    ∙ nearest_shift (x / d) c (compare (x % d * 2) d)

-- ---- sizes
under_size : (z j : ℕ) → j < z → z ≤ suc j → z ≡ suc j
under_size z j h k = omega arith

size_is : (n j : ℕ) → 2 ^ j ≤ n → n < 2 ^ suc j → size n ≡ suc j
size_is n j h k = under_size (size n) j (lt_of_not-le (λ (g : size n ≤ j). not-le_of_lt (lt_of_lt_of_le (size-lt n) (pow_mono g)) h)) (size-le n (suc j) k)

no_drop : (z : ℕ) → z ≤ 23 → z - 24 ≡ 0
no_drop z h = omega arith

-- a power of two in two parts
split : (a p q : ℕ) {r : ℕ} → r ≡ p * q → a * r ≡ a * p * q
split a p q e = ap (λ (x : ℕ). a * x) e ∙ sym (mul_assoc a p q)

-- ---- sums and differences with the anchor
pick : (s : Bool) (a b c : ℕ) → b ≤ a → sum binary64 s a (not s) b c ≡ round binary64 (s && ltb b a) (a - b) c
unfolding sum
pick true a b c h = go (ltb a b) (ltb→lt a b)
  where
    go : (t : Bool) → (T t → a < b) → cond t (round binary64 false (b - a) c) (round binary64 (ltb b a) (a - b) c) ≡ round binary64 (ltb b a) (a - b) c
    go true k = absurd (not-le_of_lt (k tt) h)
    go false k = refl
pick false a b c h = go (ltb a b) (ltb→lt a b)
  where
    go : (t : Bool) → (T t → a < b) → cond t (round binary64 true (b - a) c) (round binary64 false (a - b) c) ≡ round binary64 false (a - b) c
    go true k = absurd (not-le_of_lt (k tt) h)
    go false k = refl

pick_under : (a b c : ℕ) → a ≤ b → sum binary64 false a true b c ≡ round binary64 (ltb a b) (b - a) c
unfolding sum
pick_under a b c h = go (ltb a b) (nltb→le a b)
  where
    go : (t : Bool) → (T (not t) → b ≤ a) → cond t (round binary64 true (b - a) c) (round binary64 false (a - b) c) ≡ round binary64 t (b - a) c
    go true k = refl
    go false k = ap (λ (x : ℕ). round binary64 false x c) (same a b h (k tt))
      where
        same : (a b : ℕ) → a ≤ b → b ≤ a → a - b ≡ b - a
        same a b h k = omega arith

opened : (s : Bool) (m : ℕ) (e : ℤ)
    → sub binary64 (fin s m e) (fin s 3 (negsuc 97)) ≡ sum binary64 s (m * up e * 2 ^ 98) (not s) (3 * 1 * down e) (down e * 2 ^ 98)
unfolding sub
opened s m e = refl

added : (s : Bool) (m : ℕ) (e : ℤ) → add binary64 (fin s m e) (fin s 3 (negsuc 97)) ≡ round binary64 s (m * up e * 2 ^ 98 + 3 * 1 * down e) (down e * 2 ^ 98)
unfolding add sum
added true m e = refl
added false m e = refl

added_under : (m : ℕ) (e : ℤ) → m * up e * 2 ^ 98 < 3 * 1 * down e
    → add binary64 (fin true m e) (fin false 3 (negsuc 97)) ≡ round binary64 false (3 * 1 * down e - m * up e * 2 ^ 98) (down e * 2 ^ 98)
unfolding add sum
added_under m e h = go (ltb (m * up e * 2 ^ 98) (3 * 1 * down e)) (lt→ltb (m * up e * 2 ^ 98) (3 * 1 * down e) h)
  where
    go : (t : Bool) → T t
        → cond t (round binary64 false (3 * 1 * down e - m * up e * 2 ^ 98) (down e * 2 ^ 98))
        (round binary64 (ltb (3 * 1 * down e) (m * up e * 2 ^ 98)) (m * up e * 2 ^ 98 - 3 * 1 * down e) (down e * 2 ^ 98))
        ≡ round binary64 false (3 * 1 * down e - m * up e * 2 ^ 98) (down e * 2 ^ 98)
    go true k = refl
    go false k = absurd k

-- ---- a fraction a / d below the least normal f32
module _ (a d : ℕ) (D : 0 < d) (h : a * 2 ^ 126 < d) where
  -- how often the least f32 goes into it, rounded
  abbrev parts : ℕ
  parts = closest (a * 2 ^ 149) d

  below : a * 2 ^ 149 / d < 2 ^ 23
  below = (div-lt_iff_lt-mul D).1
      (lt_of_le_of_lt (le_of_eq (split a (2 ^ 126) (2 ^ 23) refl)) (lt_of_lt_of_le (mul-lt-mul_of_pos_right h (pow_pos 23)) (le_of_eq (mul_comm d (2 ^ 23)))))

  parts_le : parts ≤ 2 ^ 23
  parts_le = le_trans (nearest-le (a * 2 ^ 149 / d) (compare (a * 2 ^ 149 % d * 2) d)) below

  -- rounded as an f32
  least_value : (s : Bool) → HasValue (round binary32 s a d) s parts (2 ^ 149)
  least_value s =
      let n = a * 2 ^ 149 in
      let z : size (n / d) - 24 ≡ 0 = no_drop (size (n / d)) (size-le (n / d) 23 below) in
      let e : round binary32 s a d ≡ units binary32 s parts 0 =
      round_is binary32 s a d ∙ ap (λ (k : ℕ). core binary32 s n d k) z ∙ ap (λ (u : ℕ). units binary32 s (closest n u) 0) (mul-one d) in
      subst (λ (x : Float). HasValue x s parts (2 ^ 149)) (sym e)
      (subst (λ (p : ℕ). HasValue (units binary32 s parts 0) s p (2 ^ 149)) (mul-one parts)
      (units_val binary32 s parts 0 (lt_of_le_of_lt (le_of_eq (mul-one parts)) (lt_of_le_of_lt parts_le (lit< tt)))))

  -- ---- with the anchor added
  abbrev over : ℕ
  over = a * 2 ^ 98 + 3 * d

  four : (x d : ℕ) → x < d → x + 3 * d < 4 * d
  four x d h = omega arith

  small : a * 2 ^ 98 < d
  small = lt_of_le_of_lt (mul_le_mul_left' a) h
    where
      mul_le_mul_left' : (a : ℕ) → a * 2 ^ 98 ≤ a * 2 ^ 126
      mul_le_mul_left' a = omega arith

  over_size : size (over * 2 ^ 1074 / (d * 2 ^ 98)) ≡ 978
  over_size =
      let Q : 0 < d * 2 ^ 98 = mul-pos D (pow_pos 98) in
      let lo : 2 ^ 977 * (d * 2 ^ 98) ≤ over * 2 ^ 1074 =
      le_trans (le_of_eq (swap (2 ^ 977) d (2 ^ 98) ∙ split d 2 (2 ^ 1074) refl))
      (mul-le-mul_right (2 ^ 1074) (twice (a * 2 ^ 98) d)) in
      let hi : over * 2 ^ 1074 < 2 ^ 978 * (d * 2 ^ 98) =
      lt_of_lt_of_le (mul-lt-mul_of_pos_right (four (a * 2 ^ 98) d small) (pow_pos 1074))
      (le_of_eq (ap (λ (x : ℕ). x * 2 ^ 1074) (mul_comm 4 d) ∙ sym (split d 4 (2 ^ 1074) refl) ∙ sym (swap (2 ^ 978) d (2 ^ 98)))) in
      size_is (over * 2 ^ 1074 / (d * 2 ^ 98)) 977 ((le-div_iff_mul-le Q).1 lo) ((div-lt_iff_lt-mul Q).1 hi)
    where
      swap : (x d y : ℕ) → x * (d * y) ≡ d * (x * y)
      swap x d y = mul_left_comm x d y

      twice : (x d : ℕ) → d * 2 ≤ x + 3 * d
      twice x d = omega arith

  -- the digits of an f64 end at the least f32 there
  over_parts : closest (over * 2 ^ 1074) (d * 2 ^ 98 * 2 ^ 925) ≡ parts + 2 * (3 * 2 ^ 50)
  over_parts =
      closest_same (over * 2 ^ 1074) (d * 2 ^ 98 * 2 ^ 925) (a * 2 ^ 149 + 2 * (3 * 2 ^ 50) * d) d (mul-pos (mul-pos D (pow_pos 98)) (pow_pos 925)) D
      (scale a d (2 ^ 98) (2 ^ 51) (2 ^ 925) {t = 2 ^ 1074} {l = 2 ^ 149} {k = 2 * (3 * 2 ^ 50)} refl refl refl)
      ∙ closest_shift (a * 2 ^ 149) (3 * 2 ^ 50) d D
    where
      scale : (a d u v w : ℕ) {t l k : ℕ} → t ≡ v * (u * w) → l ≡ u * v → k ≡ 3 * v → (a * u + 3 * d) * t * d ≡ (a * l + k * d) * (d * u * w)
      scale a d u v w et el ek = rw (et, el, ek) (simp (add-mul, mul_assoc, mul_comm, mul_left_comm))

  over_value : (s : Bool) → HasValue (round binary64 s over (d * 2 ^ 98)) s ((parts + 2 * (3 * 2 ^ 50)) * 2 ^ 925) (2 ^ 1074)
  over_value s =
      let n = over * 2 ^ 1074 in
      let q = parts + 2 * (3 * 2 ^ 50) in
      let z : size (n / (d * 2 ^ 98)) - 53 ≡ 925 = ap (λ (x : ℕ). x - 53) over_size in
      let e : round binary64 s over (d * 2 ^ 98) ≡ units binary64 s q 925 =
      round_is binary64 s over (d * 2 ^ 98) ∙ ap (λ (k : ℕ). core binary64 s n (d * 2 ^ 98) k) z ∙ ap (λ (x : ℕ). units binary64 s x 925) over_parts in
      subst (λ (x : Float). HasValue x s (q * 2 ^ 925) (2 ^ 1074)) (sym e)
      (units_val binary64 s q 925 (lt_of_le_of_lt (mul-le-mul_right (2 ^ 925) (bound parts parts_le)) (lit< tt)))
    where
      bound : (r : ℕ) → r ≤ 2 ^ 23 → r + 2 * (3 * 2 ^ 50) ≤ 2 ^ 53
      bound r h = omega arith

  -- ---- the anchor taken off again, from a float of that value
  off : (q m : ℕ) (e : ℤ) → m * up e * 2 ^ 1074 ≡ q * 2 ^ 925 * down e → m * up e * 2 ^ 98 * 2 ^ 51 ≡ q * down e
  off q m e v =
      eq_of_mul-eq-mul_right (2 ^ 925) (pow_pos 925) (m * up e * 2 ^ 98 * 2 ^ 51) (q * down e)
      (mul_assoc (m * up e * 2 ^ 98) (2 ^ 51) (2 ^ 925) ∙ mul_assoc (m * up e) (2 ^ 98) (2 ^ 51 * 2 ^ 925) ∙ v ∙ mul_right_comm q (2 ^ 925) (down e))

  -- what is left of it is the parts, or a zero without a sign
  abbrev Left : Bool → Float → Type 0
  Left s w = (t : Bool) × HasValue w t parts (2 ^ 149) × (0 < parts → t ≡ s)

  off_value : (s : Bool) (m : ℕ) (e : ℤ) → m * up e * 2 ^ 1074 ≡ (parts + 2 * (3 * 2 ^ 50)) * 2 ^ 925 * down e
      → Left s (sub binary64 (fin s m e) (fin s 3 (negsuc 97)))
  off_value s m e v =
      let x = m * up e * 2 ^ 98 in
      let y = 3 * 1 * down e in
      let c = down e * 2 ^ 98 in
      let o = off (parts + 2 * (3 * 2 ^ 50)) m e v ∙ add-mul parts (2 * (3 * 2 ^ 50)) (down e) in
      let l : y ≤ x = less x (down e) (parts * down e) o in
      let w : (x - y) * 2 ^ 51 ≡ parts * down e = rest x (down e) (parts * down e) o in
      let r : (x - y) * 2 ^ 149 ≡ parts * c = split (x - y) (2 ^ 51) (2 ^ 98) refl ∙ ap (λ (z : ℕ). z * 2 ^ 98) w ∙ mul_assoc parts (down e) (2 ^ 98) in
      let t = s && ltb y x in (
        t,
        subst (λ (z : Float). HasValue z t parts (2 ^ 149))
            (sym (opened s m e ∙ pick s x y c l ∙ round_same binary64 t (x - y) c parts (2 ^ 149) (mul-pos (down_pos e) (pow_pos 98)) (pow_pos 149) r))
            (round_exact binary64 t parts (2 ^ 149) parts 925 (pow_pos 149) (lt_of_le_of_lt parts_le (lit< tt))
            (lt_of_le_of_lt (mul-le-mul_right (2 ^ 925) parts_le) (lit< tt)) (split parts (2 ^ 925) (2 ^ 149) refl)),
        λ (g : 0 < parts). whole_test s (ltb y x) (lt→ltb y x (strict x (down e) (parts * down e) o (mul-pos g (down_pos e)))),
      )
    where
      less : (x d p : ℕ) → x * 2 ^ 51 ≡ p + 2 * (3 * 2 ^ 50) * d → 3 * 1 * d ≤ x
      less x d p h = omega arith

      strict : (x d p : ℕ) → x * 2 ^ 51 ≡ p + 2 * (3 * 2 ^ 50) * d → 0 < p → 3 * 1 * d < x
      strict x d p h g = omega arith

      rest : (x d p : ℕ) → x * 2 ^ 51 ≡ p + 2 * (3 * 2 ^ 50) * d → (x - 3 * 1 * d) * 2 ^ 51 ≡ p
      rest x d p h = omega arith

      whole_test : (s b : Bool) → T b → (s && b) ≡ s
      whole_test true true t = refl
      whole_test true false t = absurd t
      whole_test false b t = refl

  from_over : (s : Bool) (v : Float) → HasValue v s ((parts + 2 * (3 * 2 ^ 50)) * 2 ^ 925) (2 ^ 1074) → Left s (sub binary64 v (fin s 3 (negsuc 97)))
  from_over s nan v = absurd v
  from_over s (inf t) v = absurd v
  from_over s (fin t m e) v = subst (λ (b : Bool). Left s (sub binary64 (fin b m e) (fin s 3 (negsuc 97)))) (sym v.0) (off_value s m e v.1)

  to_over : (s : Bool) (p : Float) → HasValue p s a d → add binary64 p (fin s 3 (negsuc 97)) ≡ round binary64 s over (d * 2 ^ 98)
  to_over s nan v = absurd v
  to_over s (inf t) v = absurd v
  to_over s (fin t m e) v =
      ap (λ (b : Bool). add binary64 (fin b m e) (fin s 3 (negsuc 97))) v.0
      ∙ added s m e
      ∙ round_same binary64 s (m * up e * 2 ^ 98 + 3 * 1 * down e) (down e * 2 ^ 98) over (d * 2 ^ 98) (mul-pos (down_pos e) (pow_pos 98))
      (mul-pos D (pow_pos 98))
      (cross (m * up e) (down e) a d (2 ^ 98) v.1)
    where
      cross : (x f a d u : ℕ) → x * d ≡ a * f → (x * u + 3 * f) * (d * u) ≡ (a * u + 3 * d) * (f * u)
      cross x f a d u h =
          let l : (x * u + 3 * f) * (d * u) ≡ x * d * (u * u) + 3 * (f * d) * u = simp (add-mul, mul_assoc, mul_left_comm) in
          let r : (a * u + 3 * d) * (f * u) ≡ a * f * (u * u) + 3 * (f * d) * u = simp (add-mul, mul_assoc, mul_comm, mul_left_comm) in
          l ∙ ap (λ (z : ℕ). z * (u * u) + 3 * (f * d) * u) h ∙ sym r

  grid_over : (p : Float) → HasValue p false a d → Left false (on_grid p)
  unfolding on_grid of_bits
  grid_over p v =
      from_over false (add binary64 p (fin false 3 (negsuc 97)))
      (subst (λ (z : Float). HasValue z false ((parts + 2 * (3 * 2 ^ 50)) * 2 ^ 925) (2 ^ 1074)) (sym (to_over false p v)) (over_value false))

  -- ---- the same, with the fraction taken from the anchor
  abbrev beneath : ℕ
  beneath = 3 * d - a * 2 ^ 98

  beneath_size : size (beneath * 2 ^ 1074 / (d * 2 ^ 98)) ≡ 978
  beneath_size =
      let Q : 0 < d * 2 ^ 98 = mul-pos D (pow_pos 98) in
      let lo : 2 ^ 977 * (d * 2 ^ 98) ≤ beneath * 2 ^ 1074 =
      le_trans (le_of_eq (mul_left_comm (2 ^ 977) d (2 ^ 98) ∙ split d 2 (2 ^ 1074) refl))
      (mul-le-mul_right (2 ^ 1074) (twice (a * 2 ^ 98) d small)) in
      let hi : beneath * 2 ^ 1074 < 2 ^ 978 * (d * 2 ^ 98) =
      lt_of_lt_of_le (mul-lt-mul_of_pos_right (fourth (a * 2 ^ 98) d D) (pow_pos 1074))
      (le_of_eq (ap (λ (x : ℕ). x * 2 ^ 1074) (mul_comm 4 d) ∙ sym (split d 4 (2 ^ 1074) refl) ∙ sym (mul_left_comm (2 ^ 978) d (2 ^ 98)))) in
      size_is (beneath * 2 ^ 1074 / (d * 2 ^ 98)) 977 ((le-div_iff_mul-le Q).1 lo) ((div-lt_iff_lt-mul Q).1 hi)
    where
      twice : (x d : ℕ) → x < d → d * 2 ≤ 3 * d - x
      twice x d h = omega arith

      fourth : (x d : ℕ) → 0 < d → 3 * d - x < 4 * d
      fourth x d h = omega arith

  beneath_parts : closest (beneath * 2 ^ 1074) (d * 2 ^ 98 * 2 ^ 925) ≡ 2 * (3 * 2 ^ 50) - parts
  beneath_parts =
      closest_same (beneath * 2 ^ 1074) (d * 2 ^ 98 * 2 ^ 925) (2 * (3 * 2 ^ 50) * d - a * 2 ^ 149) d (mul-pos (mul-pos D (pow_pos 98)) (pow_pos 925)) D
      (scale beneath d (2 ^ 98) (2 ^ 51) (2 ^ 925) {t = 2 ^ 1074} refl
      ∙ ap (λ (z : ℕ). z * (d * 2 ^ 98 * 2 ^ 925)) (sym (rest (a * 2 ^ 98) d (a * 2 ^ 149) (split a (2 ^ 98) (2 ^ 51) refl) small)))
      ∙ closest_back (a * 2 ^ 149) (3 * 2 ^ 50) d D (less (a * 2 ^ 98) d (a * 2 ^ 149) (split a (2 ^ 98) (2 ^ 51) refl) small)
    where
      scale : (z d u v w : ℕ) {t : ℕ} → t ≡ v * (u * w) → z * t * d ≡ z * v * (d * u * w)
      scale z d u v w et = rw et (simp (mul_assoc, mul_comm, mul_left_comm))

      rest : (y d z : ℕ) → z ≡ y * 2 ^ 51 → y < d → 2 * (3 * 2 ^ 50) * d - z ≡ (3 * d - y) * 2 ^ 51
      rest y d z e h = omega arith

      less : (y d z : ℕ) → z ≡ y * 2 ^ 51 → y < d → z ≤ 2 * (3 * 2 ^ 50) * d
      less y d z e h = omega arith

  beneath_value : HasValue (round binary64 false beneath (d * 2 ^ 98)) false ((2 * (3 * 2 ^ 50) - parts) * 2 ^ 925) (2 ^ 1074)
  beneath_value =
      let n = beneath * 2 ^ 1074 in
      let q = 2 * (3 * 2 ^ 50) - parts in
      let z : size (n / (d * 2 ^ 98)) - 53 ≡ 925 = ap (λ (x : ℕ). x - 53) beneath_size in
      let e : round binary64 false beneath (d * 2 ^ 98) ≡ units binary64 false q 925 =
      round_is binary64 false beneath (d * 2 ^ 98) ∙ ap (λ (k : ℕ). core binary64 false n (d * 2 ^ 98) k) z
      ∙ ap (λ (x : ℕ). units binary64 false x 925) beneath_parts in
      subst (λ (x : Float). HasValue x false (q * 2 ^ 925) (2 ^ 1074)) (sym e)
      (units_val binary64 false q 925 (lt_of_le_of_lt (mul-le-mul_right (2 ^ 925) (bound parts)) (lit< tt)))
    where
      bound : (r : ℕ) → 2 * (3 * 2 ^ 50) - r ≤ 2 ^ 53
      bound r = omega arith

  off_under : (m : ℕ) (e : ℤ) → m * up e * 2 ^ 1074 ≡ (2 * (3 * 2 ^ 50) - parts) * 2 ^ 925 * down e
      → Left true (sub binary64 (fin false m e) (fin false 3 (negsuc 97)))
  off_under m e v =
      let x = m * up e * 2 ^ 98 in
      let y = 3 * 1 * down e in
      let c = down e * 2 ^ 98 in
      let q = 2 * (3 * 2 ^ 50) - parts in
      let o : x * 2 ^ 51 + parts * down e ≡ 2 * (3 * 2 ^ 50) * down e =
      ap (λ (z : ℕ). z + parts * down e) (off q m e v) ∙ sym (add-mul q parts (down e)) ∙ ap (λ (z : ℕ). z * down e) (filled parts parts_le) in
      let l : x ≤ y = less x (down e) (parts * down e) o in
      let w : (y - x) * 2 ^ 51 ≡ parts * down e = rest x (down e) (parts * down e) o in
      let r : (y - x) * 2 ^ 149 ≡ parts * c = split (y - x) (2 ^ 51) (2 ^ 98) refl ∙ ap (λ (z : ℕ). z * 2 ^ 98) w ∙ mul_assoc parts (down e) (2 ^ 98) in
      let t = ltb x y in (
        t,
        subst (λ (z : Float). HasValue z t parts (2 ^ 149))
            (sym (opened false m e ∙ pick_under x y c l ∙ round_same binary64 t (y - x) c parts (2 ^ 149) (mul-pos (down_pos e) (pow_pos 98)) (pow_pos 149) r))
            (round_exact binary64 t parts (2 ^ 149) parts 925 (pow_pos 149) (lt_of_le_of_lt parts_le (lit< tt))
            (lt_of_le_of_lt (mul-le-mul_right (2 ^ 925) parts_le) (lit< tt)) (split parts (2 ^ 925) (2 ^ 149) refl)),
        λ (g : 0 < parts). is_true (ltb x y) (lt→ltb x y (strict x (down e) (parts * down e) o (mul-pos g (down_pos e)))),
      )
    where
      filled : (r : ℕ) → r ≤ 2 ^ 23 → 2 * (3 * 2 ^ 50) - r + r ≡ 2 * (3 * 2 ^ 50)
      filled r h = omega arith

      less : (x d p : ℕ) → x * 2 ^ 51 + p ≡ 2 * (3 * 2 ^ 50) * d → x ≤ 3 * 1 * d
      less x d p h = omega arith

      strict : (x d p : ℕ) → x * 2 ^ 51 + p ≡ 2 * (3 * 2 ^ 50) * d → 0 < p → x < 3 * 1 * d
      strict x d p h g = omega arith

      rest : (x d p : ℕ) → x * 2 ^ 51 + p ≡ 2 * (3 * 2 ^ 50) * d → (3 * 1 * d - x) * 2 ^ 51 ≡ p
      rest x d p h = omega arith

      is_true : (b : Bool) → T b → b ≡ true
      is_true true t = refl
      is_true false t = absurd t

  from_under : (v : Float) → HasValue v false ((2 * (3 * 2 ^ 50) - parts) * 2 ^ 925) (2 ^ 1074) → Left true (sub binary64 v (fin false 3 (negsuc 97)))
  from_under nan v = absurd v
  from_under (inf t) v = absurd v
  from_under (fin t m e) v = subst (λ (b : Bool). Left true (sub binary64 (fin b m e) (fin false 3 (negsuc 97)))) (sym v.0) (off_under m e v.1)

  to_under : (p : Float) → HasValue p true a d → add binary64 p (fin false 3 (negsuc 97)) ≡ round binary64 false beneath (d * 2 ^ 98)
  to_under nan v = absurd v
  to_under (inf t) v = absurd v
  to_under (fin t m e) v =
      let x = m * up e in
      let l : x * 2 ^ 98 < down e =
      lt_of_mul-lt-mul_right d
      (lt_of_le_of_lt (le_of_eq (mul_right_comm x (2 ^ 98) d ∙ ap (λ (z : ℕ). z * 2 ^ 98) v.1 ∙ mul_right_comm a (down e) (2 ^ 98)))
      (lt_of_lt_of_le (mul-lt-mul_of_pos_right small (down_pos e)) (le_of_eq (mul_comm d (down e))))) in
      ap (λ (b : Bool). add binary64 (fin b m e) (fin false 3 (negsuc 97))) v.0
      ∙ added_under m e (third (x * 2 ^ 98) (down e) l)
      ∙ round_same binary64 false (3 * 1 * down e - x * 2 ^ 98) (down e * 2 ^ 98) beneath (d * 2 ^ 98) (mul-pos (down_pos e) (pow_pos 98))
      (mul-pos D (pow_pos 98))
      (cross x (down e) a d (2 ^ 98) (3 * 1 * down e - x * 2 ^ 98) beneath v.1 (filled (x * 2 ^ 98) (down e) l) (filled (a * 2 ^ 98) d small))
    where
      third : (x f : ℕ) → x < f → x < 3 * 1 * f
      third x f h = omega arith

      filled : (x f : ℕ) → x < f → 3 * f ≡ 3 * f - x + x
      filled x f h = omega arith

      same : (m n y z v w : ℕ) → m ≡ n → m ≡ y + v → n ≡ z + w → v ≡ w → y ≡ z
      same m n y z v w e f g h = omega arith

      cross : (x f a d u y z : ℕ) → x * d ≡ a * f → 3 * f ≡ y + x * u → 3 * d ≡ z + a * u → y * (d * u) ≡ z * (f * u)
      cross x f a d u y z h ef ed =
          let l : 3 * f * d ≡ y * d + x * u * d = ap (λ (n : ℕ). n * d) ef ∙ add-mul y (x * u) d in
          let r : 3 * d * f ≡ z * f + a * u * f = ap (λ (n : ℕ). n * f) ed ∙ add-mul z (a * u) f in
          let m : x * u * d ≡ a * u * f = mul_right_comm x u d ∙ ap (λ (n : ℕ). n * u) h ∙ mul_right_comm a f u in
          let s : y * d ≡ z * f = same (3 * f * d) (3 * d * f) (y * d) (z * f) (x * u * d) (a * u * f) (mul_right_comm 3 f d) l r m in
          sym (mul_assoc y d u) ∙ ap (λ (n : ℕ). n * u) s ∙ mul_assoc z f u

  grid_under : (p : Float) → HasValue p true a d → Left true (on_grid p)
  unfolding on_grid of_bits
  grid_under p v =
      from_under (add binary64 p (fin false 3 (negsuc 97)))
      (subst (λ (z : Float). HasValue z false ((2 * (3 * 2 ^ 50) - parts) * 2 ^ 925) (2 ^ 1074)) (sym (to_under p v)) beneath_value)

  grid_value : (s : Bool) (p : Float) → HasValue p s a d → Left s (on_grid p)
  grid_value false p v = grid_over p v
  grid_value true p v = grid_under p v

-- ---- a product of two f32 is exact in f64
-- 2 ^ e as a whole power of two over 2 ^ l
pub raised : (l : ℕ) (e : ℤ) → down e ≤ 2 ^ l → (i : ℕ) × (2 ^ i * down e ≡ up e * 2 ^ l)
raised l (pos k) h = (k + l, mul-one (2 ^ (k + l)) ∙ pow-add 2 k l)
raised l (negsuc k) h =
    let g : suc k ≤ l = le_of_not_lt (λ (g : l < suc k). not-le_of_lt (pow-lt g) h) in
    (l - suc k, sym (pow-add 2 (l - suc k) (suc k)) ∙ ap (λ (x : ℕ). 2 ^ x) (whole (suc k) g) ∙ sym (one-mul (2 ^ l)))
  where
    whole : (k : ℕ) → k ≤ l → l - k + k ≡ l
    whole k g = omega arith

    le_of_not_lt : {k : ℕ} → (l < k → ⊥) → k ≤ l
    le_of_not_lt g = omega (arith, g)

-- what a finite f32 is
pub held : (s : Bool) (m : ℕ) (e : ℤ) → T (fits binary32 (fin s m e)) → (m < 2 ^ 24) × (down e ≤ 2 ^ 149) × (m * up e < 2 ^ 128 * down e)
unfolding fits
held s zero e t = subst (λ (e : ℤ). (0 < 2 ^ 24) × (down e ≤ 2 ^ 149) × (0 * up e < 2 ^ 128 * down e)) (sym (zero_exp binary32 s e t))
    (lit< tt, lit≤ tt, lit< tt)
held s (suc m) e t =
    let o = eqb (suc m % 2) 1 in
    let p = ltb (suc m) (2 ^ 24) in
    let q = leb (down e) (2 ^ 149) in
    let r = ltb (suc m * up e) (2 ^ 128 * down e) in
    let x = and_l (o && p && q) r t in (
      ltb→lt (suc m) (2 ^ 24) (and_r o p (and_l (o && p) q x)),
      leb→le (down e) (2 ^ 149) (and_r (o && p) q x),
      ltb→lt (suc m * up e) (2 ^ 128 * down e) (and_r (o && p && q) r t),
    )

within : (m x u d : ℕ) → 0 < d → x * d ≡ u * 2 ^ 537 → m * u < 2 ^ 128 * d → m * x ≤ 2 ^ 665
within m x u d D e h =
    le_of_lt
    (lt_of_mul-lt-mul_right d
    (lt_of_le_of_lt (le_of_eq (mul_assoc m x d ∙ ap (λ (z : ℕ). m * z) e ∙ sym (mul_assoc m u (2 ^ 537))))
    (lt_of_lt_of_le (mul-lt-mul_of_pos_right h (pow_pos 537)) (le_of_eq (mul_right_comm (2 ^ 128) d (2 ^ 537))))))

exact_is : (m n u v d f x y r : ℕ) → x * d ≡ u * r → y * f ≡ v * r → m * u * (n * v) * (r * r) ≡ m * n * (x * y) * (d * f)
exact_is m n u v d f x y r g h =
    let a : m * u * (n * v) * (r * r) ≡ m * n * (u * r * (v * r)) = simp (mul_assoc, mul_left_comm) in
    let b : m * n * (x * d * (y * f)) ≡ m * n * (x * y) * (d * f) = simp (mul_assoc, mul_left_comm) in
    a ∙ ap (λ (z : ℕ). m * n * (z * (v * r))) (sym g) ∙ ap (λ (z : ℕ). m * n * (x * d * z)) (sym h) ∙ b

product_value : (s t : Bool) (m n : ℕ) (e g : ℤ) → T (fits binary32 (fin s m e)) → T (fits binary32 (fin t n g))
    → HasValue (mul binary64 (fin s m e) (fin t n g)) (unlike s t) (m * up e * (n * up g)) (down e * down g)
unfolding mul
product_value s t m n e g p q =
    let a = held s m e p in
    let b = held t n g q in
    let i = raised 537 e (le_trans a.1 (lit≤ tt)) in
    let j = raised 537 g (le_trans b.1 (lit≤ tt)) in
    let x = 2 ^ i.0 in
    let y = 2 ^ j.0 in
    let w : m * n * 2 ^ (i.0 + j.0) ≡ m * n * (x * y) = ap (λ (z : ℕ). m * n * z) (pow-add 2 i.0 j.0) in
    round_exact binary64 (unlike s t) (m * up e * (n * up g)) (down e * down g) (m * n) (i.0 + j.0) (mul-pos (down_pos e) (down_pos g))
    (lt_of_le_of_lt (mul-le-mul (le_of_lt a.0) (le_of_lt b.0)) (lit< tt))
    (lt_of_le_of_lt (le_of_eq (w ∙ mul-mul-mul_comm m n x y))
    (lt_of_le_of_lt (mul-le-mul (within m x (up e) (down e) (down_pos e) i.1 a.2) (within n y (up g) (down g) (down_pos g) j.1 b.2)) (lit< tt)))
    (exact_is m n (up e) (up g) (down e) (down g) x y (2 ^ 537) i.1 j.1 ∙ ap (λ (z : ℕ). z * (down e * down g)) (sym w))

-- ---- what the tests of a product say
-- the least normal f32 and its negative
abbrev least : Float
least = of_bits binary64 0x3810000000000000

abbrev minus_least : Float
minus_least = of_bits binary64 0xb810000000000000

both : (a b : Bool) → (a && b) ≡ true → (a ≡ true) × (b ≡ true)
both true true h = (refl, refl)
both true false h = absurd (false≢true h)
both false b h = absurd (false≢true h)

under : (a d m : ℕ) (e : ℤ) → 0 < d → m * up e * d ≡ a * down e → m * up e * 2 ^ 126 < 1 * down e → a * 2 ^ 126 < d
under a d m e D v l =
    lt_of_mul-lt-mul_right (down e)
    (lt_of_le_of_lt (le_of_eq (mul_right_comm a (2 ^ 126) (down e) ∙ ap (λ (z : ℕ). z * 2 ^ 126) (sym v) ∙ mul_right_comm (m * up e) d (2 ^ 126)))
    (lt_of_lt_of_le (mul-lt-mul_of_pos_right (lt_of_lt_of_le l (le_of_eq (one-mul (down e)))) D) (le_of_eq (mul_comm (down e) d))))

below_least : (p : Float) (s : Bool) (a d : ℕ) → 0 < d → HasValue p s a d → lt p least ≡ true → lt minus_least p ≡ true → a * 2 ^ 126 < d
unfolding lt of_bits
below_least nan s a d D v g h = absurd v
below_least (inf t) s a d D v g h = absurd v
below_least (fin true m e) s a d D v g h = under a d m e D v.1 (ltb→lt (m * up e * 2 ^ 126) (1 * down e) (subst T (sym h) tt))
below_least (fin false m e) s a d D v g h = under a d m e D v.1 (ltb→lt (m * up e * 2 ^ 126) (1 * down e) (subst T (sym g) tt))

no_minus : (p : Float) (s : Bool) (a d : ℕ) → HasValue p s a d → lt zero64 p ≡ true → s ≡ false
unfolding lt of_bits
no_minus nan s a d v h = absurd v
no_minus (inf t) s a d v h = absurd v
no_minus (fin true m e) s a d v h = absurd (false≢true h)
no_minus (fin false m e) s a d v h = sym v.0

no_plus : (p : Float) (s : Bool) (a d : ℕ) → HasValue p s a d → lt p zero64 ≡ true → s ≡ true
unfolding lt of_bits
no_plus nan s a d v h = absurd v
no_plus (inf t) s a d v h = absurd v
no_plus (fin true m e) s a d v h = sym v.0
no_plus (fin false m e) s a d v h = absurd (none (m * up e * 1) (down e) (ltb→lt (m * up e * 1) (0 * down e) (subst T (sym h) tt)))
  where
    none : (x d : ℕ) → x < 0 * d → ⊥
    none x d h = omega arith

-- a sign by the test below 0, of what is not 0
sign_is : (p : Float) (s : Bool) (a d : ℕ) → HasValue p s a d → (lt zero64 p || lt p zero64) ≡ true → lt p zero64 ≡ s
sign_is p s a d v h = go (lt p zero64) refl h
  where
    go : (b : Bool) → lt p zero64 ≡ b → (lt zero64 p || b) ≡ true → b ≡ s
    go true e h = sym (no_plus p s a d v e)
    go false e h = sym (no_minus p s a d v (or_false (lt zero64 p) h))
      where
        or_false : (c : Bool) → (c || false) ≡ true → c ≡ true
        or_false true h = refl
        or_false false h = h

-- whether a rounded number is 0
eq_zero : (w : Float) (t : Bool) (n c : ℕ) → HasValue w t n c → eq w zero64 ≡ true → n ≡ 0
unfolding eq of_bits
eq_zero nan t n c v h = absurd v
eq_zero (inf u) t n c v h = absurd v
eq_zero (fin u m e) t n c v h =
    let z : m * up e * 1 ≡ 0 * down e = eqb→eq (m * up e * 1) (0 * down e)
    (subst T (sym (both (eqb (m * up e * 1) (0 * down e)) (beq u false || eqb (m * up e * 1) 0) h).0) tt) in
    let y : m * up e ≡ 0 = sym (mul-one (m * up e)) ∙ z ∙ zero-mul (down e) in
    nothing n (down e) (down_pos e) (sym v.1 ∙ ap (λ (x : ℕ). x * c) y ∙ zero-mul c)
  where
    nothing : (n d : ℕ) → 0 < d → n * d ≡ 0 → n ≡ 0
    nothing zero d D h = refl
    nothing (suc n) d D h = absurd (lt_irrefl 0 (subst (λ (x : ℕ). 0 < x) h (mul-pos (zero-lt-suc n) D)))

eq_not : (w : Float) (t : Bool) (n c : ℕ) → 0 < c → HasValue w t n c → eq w zero64 ≡ false → 0 < n
unfolding eq of_bits
eq_not nan t n c C v h = absurd v
eq_not (inf u) t n c C v h = absurd v
eq_not (fin u m e) t (suc n) c C v h = zero-lt-suc n
eq_not (fin u m e) t zero c C v h =
    let y : m * up e ≡ 0 = eq_of_mul-eq-mul_right c C (m * up e) 0 (v.1 ∙ zero-mul (down e) ∙ sym (zero-mul c)) in
    absurd (true≢false (sym (at u (down e)) ∙ ap (λ (x : ℕ). eqb (x * 1) (0 * down e) && (beq u false || eqb (x * 1) 0)) (sym y) ∙ h))
  where
    at : (u : Bool) (d : ℕ) → (eqb (0 * 1) (0 * d) && (beq u false || eqb (0 * 1) 0)) ≡ true
    at true d = ap (λ (x : ℕ). eqb 0 x && true) (zero-mul d)
    at false d = ap (λ (x : ℕ). eqb 0 x && true) (zero-mul d)

-- a product that is finite has finite factors
endless : (s : Bool) (y : Float) → T (finite (mul binary64 (inf s) y)) → ⊥
unfolding mul
endless s nan t = t
endless s (inf u) t = t
endless s (fin u n g) t = go (eqb n 0) t
  where
    go : (b : Bool) → T (finite (cond b nan (inf (unlike s u)))) → ⊥
    go true t = t
    go false t = t

endless_2 : (s : Bool) (m : ℕ) (e : ℤ) (u : Bool) → T (finite (mul binary64 (fin s m e) (inf u))) → ⊥
unfolding mul
endless_2 s m e u t = go (eqb m 0) t
  where
    go : (b : Bool) → T (finite (cond b nan (inf (unlike s u)))) → ⊥
    go true t = t
    go false t = t

finite_is : (p : Float) → lt p least ≡ true → lt minus_least p ≡ true → T (finite p)
unfolding lt of_bits
finite_is nan g h = absurd (false≢true g)
finite_is (inf true) g h = absurd (false≢true h)
finite_is (inf false) g h = absurd (false≢true g)
finite_is (fin s m e) g h = tt

-- ---- a subnormal product
product_least : (s u : Bool) (m n : ℕ) (e k : ℤ) (D : 0 < down e * down k) (l : m * up e * (n * up k) * 2 ^ 126 < down e * down k)
    → HasValue (mul binary32 (fin s m e) (fin u n k)) (unlike s u) (parts (m * up e * (n * up k)) (down e * down k) D l) (2 ^ 149)
unfolding mul
product_least s u m n e k D l = least_value (m * up e * (n * up k)) (down e * down k) D l (unlike s u)

not_nan : (x : Float) (s : Bool) (a c : ℕ) → HasValue x s a c → T (not (is_nan x))
unfolding is_nan
not_nan nan s a c v = absurd v
not_nan (inf t) s a c v = absurd v
not_nan (fin t m e) s a c v = tt

-- a rounded number is the product, and an f32
pub record Is (x y : Float) : Type 0 where
  pub same : x ≡ y
  pub short : T (fits binary32 x && not (is_nan x))

rounded : (x y : Float) (s : Bool) (a : ℕ) → T (fits binary64 x) → T (fits binary32 y) → HasValue x s a (2 ^ 149) → HasValue y s a (2 ^ 149) → Is x y
rounded x y s a p q v w =
    let e = same_value binary64 x y s a (2 ^ 149) (pow_pos 149) p (fits_widens y q) v w in
    record { same = e; short = and_i (fits binary32 x) (not (is_nan x)) (subst (λ (z : Float). T (fits binary32 z)) (sym e) q) (not_nan x s a (2 ^ 149) v) }

grid_fits : (p : Float) → T (fits binary64 (on_grid p))
unfolding on_grid
grid_fits p = sub-fits binary64 (add binary64 p anchor) anchor

zero_value : (s : Bool) (n : ℕ) → n ≡ 0 → HasValue (fin s 0 (pos 0)) s n (2 ^ 149)
zero_value s n e = (refl, ap (λ (x : ℕ). x * 1) (sym e))

zero_fits : (s : Bool) → T (fits binary32 (fin s 0 (pos 0)))
unfolding fits
zero_fits s = tt

-- what the product o is, of p in f64 and w on the grid
pub record Small (p w o : Float) : Type 0 where
  pub at_zero : eq w zero64 ≡ true → (lt zero64 p || lt p zero64) ≡ true → zero_of p ≡ o
  pub past_zero : eq w zero64 ≡ false → Is w o

zero_is : (p : Float) (s : Bool) → lt p zero64 ≡ s → zero_of p ≡ fin s 0 (pos 0)
unfolding zero_of of_bits
zero_is p s e = ap (λ (b : Bool). cond b (fin true 0 (pos 0)) (fin false 0 (pos 0))) e ∙ go s
  where
    go : (s : Bool) → cond s (fin true 0 (pos 0)) (fin false 0 (pos 0)) ≡ fin s 0 (pos 0)
    go true = refl
    go false = refl

module _ (s u : Bool) (m n : ℕ) (e k : ℤ) (p : T (fits binary32 (fin s m e))) (q : T (fits binary32 (fin u n k))) where
  abbrev wide_of : Float
  wide_of = mul binary64 (fin s m e) (fin u n k)

  abbrev short_of : Float
  short_of = mul binary32 (fin s m e) (fin u n k)

  finite_small : lt wide_of least ≡ true → lt minus_least wide_of ≡ true → Small wide_of (on_grid wide_of) short_of
  finite_small g h =
      let a = m * up e * (n * up k) in
      let d = down e * down k in
      let D : 0 < d = mul-pos (down_pos e) (down_pos k) in
      let σ = unlike s u in
      let v = product_value s u m n e k p q in
      let l = below_least wide_of σ a d D v g h in
      let r = parts a d D l in
      let w = on_grid wide_of in
      let f = grid_value a d D l σ wide_of v in
      let o = product_least s u m n e k D l in
      let fo = mul-fits binary32 (fin s m e) (fin u n k) in
      record {
        at_zero = λ (y : eq w zero64 ≡ true) (t : (lt zero64 wide_of || lt wide_of zero64) ≡ true).
            zero_is wide_of σ (sign_is wide_of σ a d v t)
            ∙ same_value binary32 (fin σ 0 (pos 0)) short_of σ r (2 ^ 149) (pow_pos 149) (zero_fits σ) fo
            (zero_value σ r (eq_zero w f.0 r (2 ^ 149) f.1 y)) o;
        past_zero = λ (y : eq w zero64 ≡ false).
            rounded w short_of σ r (grid_fits wide_of) fo
            (subst (λ (b : Bool). HasValue w b r (2 ^ 149)) (f.2 (eq_not w f.0 r (2 ^ 149) (pow_pos 149) f.1 y)) f.1) o;
      }

small_product : (x y : Float) → T (fits binary32 x) → T (fits binary32 y) → (lt (mul binary64 x y) least && lt minus_least (mul binary64 x y)) ≡ true
    → Small (mul binary64 x y) (on_grid (mul binary64 x y)) (mul binary32 x y)
small_product x y p q g =
    let b = both (lt (mul binary64 x y) least) (lt minus_least (mul binary64 x y)) g in
    go x y p q b.0 b.1 (finite_is (mul binary64 x y) b.0 b.1)
  where
    go : (x y : Float) → T (fits binary32 x) → T (fits binary32 y) → lt (mul binary64 x y) least ≡ true → lt minus_least (mul binary64 x y) ≡ true
        → T (finite (mul binary64 x y)) → Small (mul binary64 x y) (on_grid (mul binary64 x y)) (mul binary32 x y)
    go nan y p q g h z = absurd (unfold mul in z)
    go (inf s) y p q g h z = absurd (endless s y z)
    go (fin s m e) nan p q g h z = absurd (unfold mul in z)
    go (fin s m e) (inf u) p q g h z = absurd (endless_2 s m e u z)
    go (fin s m e) (fin u n k) p q g h z = finite_small s u m n e k p q g h

-- ---- as the function has it
pub not_false : (b : Bool) → not b ≡ false → b ≡ true
not_false true h = refl
not_false false h = absurd (true≢false h)

wide : (x y : Float) → T (fits binary32 x) → lt x y ≡ true → T (fits binary64 x && not (is_nan x))
unfolding is_nan lt
wide nan y p h = absurd (false≢true h)
wide (inf s) y p h = and_i (fits binary64 (inf s)) true (fits_widens (inf s) p) tt
wide (fin s m e) y p h = and_i (fits binary64 (fin s m e)) true (fits_widens (fin s m e) p) tt

-- what is below one bound
pub wide_both : (x y z : Float) → T (fits binary32 x) → T (fits binary32 y) → (lt x z && lt y z) ≡ true
    → T (fits binary64 x && not (is_nan x)) × T (fits binary64 y && not (is_nan y))
wide_both x y z p q h = let b = both (lt x z) (lt y z) h in (wide x z p b.0, wide y z q b.1)

-- a small product on the grid
pub small_on_grid : (x y w : Float) → T (fits binary32 x) → T (fits binary32 y) → (lt (mul binary64 x y) least && lt minus_least (mul binary64 x y)) ≡ true
    → w ≡ on_grid (mul binary64 x y) → Small (mul binary64 x y) w (mul binary32 x y)
small_on_grid x y w p q g e = subst (λ (z : Float). Small (mul binary64 x y) z (mul binary32 x y)) (sym e) (small_product x y p q g)
