-- Products and fractions that are floats as they are, and words: a word of 32 bits, rounded to 24 by a unit from its digits, times the unit, is the float
-- nearest to the word: both have the same whole value, and a format writes a whole number in one way. Assumes nothing.
use Rattle.std.proofs.Common.{◌≡◌, ℕ, ◌+◌, ◌-◌, ◌*◌, ◌/◌, ◌^◌, ◌<◌, ◌≤◌, Bool, true, false, not, T, leb, ◌⊎◌, pos, sym, refl, ap, ◌∙◌, subst, inl, inr}
use Rattle.std.proofs.Common.{true≢false, le_trans, le_of_eq, lt_of_lt_of_le, lt_of_le_of_lt, le_of_lt, mul-le-mul_right, zero-lt-suc, mul_assoc, mul_comm}
use Rattle.std.proofs.Common.{eq-or-lt_of_le, mul-lt-mul_of_pos_right, mul-pos, one-mul, mul-one, mul_right_comm, div-one, arith, lit<, lit≤, leb→le, pow_pos}
use Rattle.std.proofs.Common.{pow_mono, pow-add, shl_lt}
use Prim.Native.Nat.{compare}
use native.Mathlib.Nat.{mul-mul-mul_comm, eq_of_mul-eq-mul_right, mod-one}
use lib.Dec.{nleb→lt}
use lib.Pow.{pow-lt}
use lib.Ieee.{Float, nan, inf, fin, Format, binary32, up, down, size, nearest, round, mul, of_int}
use lib.Ieee.Digits.{size-lt, size-le, size_reaches}
use lib.Ieee.Fits.{down_pos, round-fits}
use lib.Ieee.Exact.{HasValue, round_exact}
use lib.Ieee.Nearest.{closest, closest_same}
use lib.Ieee.Order.{drop}
use lib.Ieee.Scale.{round_same, grid, round_val}
use lib.Ieee.Back.{round_whole, whole_unique}
use Rattle.ground.proofs.Words.{size_gt, unit_of, unit_le, rounded_le}

-- ---- the product of two values, none negative
pub mul_values : (f : Format) (x y : Float) (a c b d : ℕ) → 0 < c → 0 < d → HasValue x false a c → HasValue y false b d
    → mul f x y ≡ round f false (a * b) (c * d)
unfolding mul
mul_values f nan y a c b d C D v w = absurd v
mul_values f (inf s) y a c b d C D v w = absurd v
mul_values f (fin true m e) y a c b d C D v w = absurd (true≢false v.0)
mul_values f (fin false m e) nan a c b d C D v w = absurd w
mul_values f (fin false m e) (inf s) a c b d C D v w = absurd w
mul_values f (fin false m e) (fin true n g) a c b d C D v w = absurd (true≢false w.0)
mul_values f (fin false m e) (fin false n g) a c b d C D v w =
    round_same f false (m * up e * (n * up g)) (down e * down g) (a * b) (c * d) (mul-pos (down_pos e) (down_pos g)) (mul-pos C D)
    (mul-mul-mul_comm (m * up e) (n * up g) c d ∙ ap (λ (x : ℕ). x * (n * up g * d)) v.1 ∙ ap (λ (x : ℕ). a * down e * x) w.1
    ∙ mul-mul-mul_comm a (down e) b (down g))

-- ---- a / c where a has 24 digits at most before its zeros, and c is a power of two
pub record Dyadic (a c : ℕ) : Type 0 where
  pub front : ℕ
  pub shift : ℕ
  pub rest : ℕ
  pub few : front < 2 ^ 24
  pub is : a ≡ front * 2 ^ shift
  pub power : 2 ^ rest * c ≡ 2 ^ 149

pub exact : (a c : ℕ) → 0 < c → Dyadic a c → a < 2 ^ 64 * c → HasValue (round binary32 false a c) false a c
exact a c C d h =
    let q = d.front in
    let i = d.shift in
    let j = d.rest in
    let s : q * 2 ^ (i + j) ≡ a * 2 ^ j = ap (λ (z : ℕ). q * z) (pow-add 2 i j) ∙ sym (mul_assoc q (2 ^ i) (2 ^ j)) ∙ ap (λ (z : ℕ). z * 2 ^ j) (sym d.is) in
    let t : 2 ^ 64 * c * 2 ^ j ≡ 2 ^ 64 * 2 ^ 149 = mul_assoc (2 ^ 64) c (2 ^ j) ∙ ap (λ (z : ℕ). 2 ^ 64 * z) (mul_comm c (2 ^ j) ∙ d.power) in
    round_exact binary32 false a c q (i + j) C d.few
    (lt_of_le_of_lt (le_of_eq s) (lt_of_lt_of_le (mul-lt-mul_of_pos_right h (pow_pos j)) (le_trans (le_of_eq t) (lit≤ tt))))
    (ap (λ (z : ℕ). a * z) (sym d.power) ∙ sym (mul_assoc a (2 ^ j) c) ∙ ap (λ (z : ℕ). z * c) (sym s))

-- a whole number of that kind
pub whole_dyadic : (q i : ℕ) → q < 2 ^ 24 → Dyadic (q * 2 ^ i) 1
whole_dyadic q i h = record { front = q; shift = i; rest = 149; few = h; is = refl; power = refl }

-- ---- n * 2 ^ k has no more digits than the format keeps
room : (k : ℕ) → k ≤ 8 → 24 + k ≤ 64
room k h = omega arith

small_product : (n k : ℕ) → n < 2 ^ 24 → k ≤ 8 → HasValue (round binary32 false (n * 2 ^ k) 1) false (n * 2 ^ k) 1
small_product n k h l = exact (n * 2 ^ k) 1 (zero-lt-suc 0) (whole_dyadic n k h) (lt_of_lt_of_le (shl_lt 24 k h) (pow_mono (room k l)))

pub product : (n k : ℕ) → n ≤ 2 ^ 24 → k ≤ 8 → HasValue (round binary32 false (n * 2 ^ k) 1) false (n * 2 ^ k) 1
product n k h l = go (eq-or-lt_of_le h)
  where
    go : (n ≡ 2 ^ 24) ⊎ (n < 2 ^ 24) → HasValue (round binary32 false (n * 2 ^ k) 1) false (n * 2 ^ k) 1
    go (inr s) = small_product n k s l
    go (inl e) =
        let top : n * 2 ^ k ≡ 1 * 2 ^ (24 + k) = ap (λ (x : ℕ). x * 2 ^ k) e ∙ sym (pow-add 2 24 k) ∙ sym (one-mul (2 ^ (24 + k))) in
        round_exact binary32 false (n * 2 ^ k) 1 1 (24 + k + 149) (zero-lt-suc 0) (lit< tt)
        (subst (λ (x : ℕ). x < 2 ^ 277) (sym (one-mul (2 ^ (24 + k + 149)))) (pow-lt (wide k l)))
        (ap (λ (x : ℕ). x * 2 ^ 149) top ∙ mul_assoc 1 (2 ^ (24 + k)) (2 ^ 149) ∙ ap (λ (x : ℕ). 1 * x) (sym (pow-add 2 (24 + k) 149))
        ∙ sym (mul-one (1 * 2 ^ (24 + k + 149))))
      where
        wide : (k : ℕ) → k ≤ 8 → 24 + k + 149 < 277
        wide k h = omega arith

-- ---- the word rounded
-- t zeros after a number's digits
size_shift : (n t : ℕ) → 0 < size n → size (n * 2 ^ t) ≡ size n + t
size_shift n t h =
    let z = size n in
    let p : z - 1 < z = omega arith in
    let a : size (n * 2 ^ t) ≤ z + t = size-le (n * 2 ^ t) (z + t) (shl_lt z t (size-lt n)) in
    let b : z - 1 + t < size (n * 2 ^ t) =
    size_gt (n * 2 ^ t) (z - 1 + t) (le_trans (le_of_eq (pow-add 2 (z - 1) t)) (mul-le-mul_right (2 ^ t) (size_reaches n (z - 1) p))) in
    omega arith

-- of a word of 24 digits or more `round` keeps the number that is nearest in units
grid_word : (w : ℕ) → 24 ≤ size w → grid binary32 w 1 ≡ closest w (2 ^ (size w - 24)) * 2 ^ (size w - 24) * 2 ^ 149
grid_word w h =
    let k = size w - 24 in
    let P : 0 < size w = omega arith in
    let s : size (w * 2 ^ 149 / 1) ≡ size w + 149 = ap size (div-one (w * 2 ^ 149)) ∙ size_shift w 149 P in
    let d : drop 24 (w * 2 ^ 149) 1 ≡ k + 149 = omega arith in
    ap (λ (x : ℕ). closest (w * 2 ^ 149) (1 * 2 ^ x) * 2 ^ x) d
    ∙ ap (λ (x : ℕ). x * 2 ^ (k + 149))
    (closest_same (w * 2 ^ 149) (1 * 2 ^ (k + 149)) w (2 ^ k) (mul-pos (zero-lt-suc 0) (pow_pos (k + 149))) (pow_pos k)
    (mul_assoc w (2 ^ 149) (2 ^ k) ∙ ap (λ (x : ℕ). w * x) (mul_comm (2 ^ 149) (2 ^ k) ∙ sym (pow-add 2 k 149) ∙ sym (one-mul (2 ^ (k + 149))))))
    ∙ ap (λ (x : ℕ). closest w (2 ^ k) * x) (pow-add 2 k 149)
    ∙ sym (mul_assoc (closest w (2 ^ k)) (2 ^ k) (2 ^ 149))

-- c / 1 for c * l / l
lowest : (x : Float) (c l : ℕ) → 0 < l → HasValue x false (c * l) l → HasValue x false c 1
lowest nan c l p v = absurd v
lowest (inf s) c l p v = absurd v
lowest (fin s m e) c l p v = (
  v.0,
  mul-one (m * up e) ∙ eq_of_mul-eq-mul_right l p (m * up e) (c * down e) (v.1 ∙ mul_right_comm c l (down e)),
)

large_word : (w : ℕ) → w < 2 ^ 32 → 24 ≤ size w → HasValue (round binary32 false w 1) false (closest w (unit_of w) * unit_of w) 1
unfolding unit_of
large_word w b h =
    let k = size w - 24 in
    let n = closest w (2 ^ k) in
    let z : size w ≤ 32 = size-le w 32 b in
    let l : k ≤ 8 = omega arith in
    let u : n * 2 ^ k ≤ 2 ^ (24 + k) = le_trans (mul-le-mul_right (2 ^ k) (rounded_le w)) (le_of_eq (sym (pow-add 2 24 k))) in
    let o : n * 2 ^ k * 2 ^ 149 < 2 ^ 277 =
    lt_of_le_of_lt (mul-le-mul_right (2 ^ 149) u) (lt_of_le_of_lt (le_of_eq (sym (pow-add 2 (24 + k) 149))) (pow-lt (wide k l))) in
    lowest (round binary32 false w 1) (n * 2 ^ k) (2 ^ 149) (pow_pos 149)
    (subst (λ (g : ℕ). HasValue (round binary32 false w 1) false g (2 ^ 149)) (grid_word w h)
    (round_val binary32 w 1 (subst (λ (g : ℕ). g < 2 ^ 277) (sym (grid_word w h)) o)))
  where
    wide : (k : ℕ) → k ≤ 8 → 24 + k + 149 < 277
    wide k h = omega arith

-- a number in units of 1 is itself
closest_one : (w : ℕ) → closest w 1 ≡ w
closest_one w = ap (λ (r : ℕ). nearest (w / 1) (compare (r * 2) 1)) (mod-one w) ∙ div-one w

small_word : (w : ℕ) → size w < 24 → HasValue (round binary32 false w 1) false (closest w (unit_of w) * unit_of w) 1
unfolding unit_of
small_word w h =
    let k : size w - 24 ≡ 0 = omega arith in
    let e : w ≡ closest w (2 ^ (size w - 24)) * 2 ^ (size w - 24) =
    sym (ap (λ (x : ℕ). closest w (2 ^ x) * 2 ^ x) k ∙ mul-one (closest w 1) ∙ closest_one w) in
    subst (λ (x : ℕ). HasValue (round binary32 false w 1) false x 1) e
    (round_whole binary32 false w (le_of_lt (lt_of_lt_of_le (size-lt w) (pow_mono (le_of_lt h)))))

pub word_value : (w : ℕ) → w < 2 ^ 32 → HasValue (round binary32 false w 1) false (closest w (unit_of w) * unit_of w) 1
word_value w b = go (leb 24 (size w)) (leb→le 24 (size w)) (nleb→lt 24 (size w))
  where
    go : (t : Bool) → (T t → 24 ≤ size w) → (T (not t) → size w < 24) → HasValue (round binary32 false w 1) false (closest w (unit_of w) * unit_of w) 1
    go true h l = large_word w b (h tt)
    go false h l = small_word w (l tt)

-- ---- both
exact_word : (w : ℕ) → w < 2 ^ 32 → HasValue (round binary32 false (closest w (unit_of w) * unit_of w) 1) false (closest w (unit_of w) * unit_of w) 1
unfolding unit_of
exact_word w b =
    let z : size w ≤ 32 = size-le w 32 b in
    product (closest w (2 ^ (size w - 24))) (size w - 24) (rounded_le w) (omega arith)

pub word_float_lem : (w : ℕ) → w < 2 ^ 32 → mul binary32 (of_int binary32 (pos (closest w (unit_of w)))) (of_int binary32 (pos (unit_of w))) ≡ of_int binary32
    (pos w)
unfolding of_int
word_float_lem w b =
    let u = unit_of w in
    let n = closest w u in
    let p : mul binary32 (round binary32 false n 1) (round binary32 false u 1) ≡ round binary32 false (n * u) 1 =
    mul_values binary32 (round binary32 false n 1) (round binary32 false u 1) n 1 u 1 (zero-lt-suc 0) (zero-lt-suc 0)
    (round_whole binary32 false n (rounded_le w)) (round_whole binary32 false u (le_trans (unit_le w b) (lit≤ tt))) in
    p ∙ whole_unique binary32 (round binary32 false (n * u) 1) (round binary32 false w 1) false (n * u) (round-fits binary32 false (n * u) 1)
    (round-fits binary32 false w 1) (exact_word w b) (word_value w b)
