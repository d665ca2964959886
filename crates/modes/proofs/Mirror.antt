-- A fraction taken from a whole even number: its nearest whole number is taken from it. Assumes nothing.
use mathlib.Core.Path.{◌≡◌, sym, ap, ◌∙◌, subst}
use mathlib.Core.Bool.{not}
use mathlib.Core.Logic.{◌⊎◌, inl, inr}
use Prim.Native.Nat.{ℕ, zero, suc, ◌+◌, ◌-◌, ◌*◌, ◌/◌, ◌%◌, ◌≤◌, ◌<◌, compare, Ordering}
use native.Mathlib.Nat.{le_of_eq, le_trans, lt_of_le_of_lt, add-mul, le_of_mul-le-mul_right, lt_of_mul-lt-mul_right, div-add-mod', mod-lt}
use native.Mathlib.Omega.{arith}
use lib.Arith.{lt_of_le-ne}
use lib.Dec.{T, is_le, compare_is_eq, eqb, leb→le, nleb→lt, eqb→eq, eqb_refl}
use lib.Ieee.{nearest}
use lib.Ieee.Nearest.{closest}

-- what `compare` says
abbrev Cmp : Ordering → ℕ → ℕ → Type 0
Cmp Ordering.lt a b = a < b
Cmp Ordering.eq a b = a ≡ b
Cmp Ordering.gt a b = b < a

cmp : (a b : ℕ) → Cmp (compare a b) a b
cmp a b = go (compare a b) (leb→le a b) (nleb→lt a b) (eqb→eq a b) (λ (e : a ≡ b). subst (λ (x : ℕ). T (eqb a x)) e (eqb_refl a))
  where
    go : (o : Ordering) → (T (is_le o) → a ≤ b) → (T (not (is_le o)) → b < a) → (T (compare_is_eq o) → a ≡ b) → (a ≡ b → T (compare_is_eq o)) → Cmp o a b
    go Ordering.lt h k e n = lt_of_le-ne (h tt) n
    go Ordering.eq h k e n = e tt
    go Ordering.gt h k e n = k tt

-- with no remainder on either side
whole : (q p c r t d : ℕ) (o u : Ordering) → Cmp o (r * 2) d → Cmp u (t * 2) d → 0 < d → r + t ≡ 0 → q + p ≡ 2 * c → nearest p u ≡ 2 * c - nearest q o
whole q p c r t d Ordering.lt Ordering.lt x y D e f = omega arith
whole q p c r t d Ordering.lt Ordering.eq x y D e f = absurd (omega arith)
whole q p c r t d Ordering.lt Ordering.gt x y D e f = absurd (omega arith)
whole q p c r t d Ordering.eq u x y D e f = absurd (omega arith)
whole q p c r t d Ordering.gt u x y D e f = absurd (omega arith)

-- with remainders that make one
part : (q p c r t d : ℕ) (o u : Ordering) → Cmp o (r * 2) d → Cmp u (t * 2) d → r + t ≡ d → suc (q + p) ≡ 2 * c → nearest p u ≡ 2 * c - nearest q o
part q p c r t d Ordering.lt Ordering.lt x y e f = absurd (omega arith)
part q p c r t d Ordering.lt Ordering.eq x y e f = absurd (omega arith)
part q p c r t d Ordering.lt Ordering.gt x y e f = omega arith
part q p c r t d Ordering.eq Ordering.lt x y e f = absurd (omega arith)
part q p c r t d Ordering.eq Ordering.eq x y e f = omega arith
part q p c r t d Ordering.eq Ordering.gt x y e f = absurd (omega arith)
part q p c r t d Ordering.gt Ordering.lt x y e f = omega arith
part q p c r t d Ordering.gt Ordering.eq x y e f = absurd (omega arith)
part q p c r t d Ordering.gt Ordering.gt x y e f = absurd (omega arith)

-- two remainders make none or one
none_or_one : (k n s d : ℕ) → 0 < d → k * d + s ≡ n * d → s < 2 * d → ((s ≡ 0) × (k ≡ n)) ⊎ ((s ≡ d) × (suc k ≡ n))
none_or_one k n s d D e l =
    let m : k ≤ n = le_of_mul-le-mul_right (le_trans (at_most (k * d) s) (le_of_eq e)) D in
    let w : n ≡ k + (n - k) = whole_of k n m in
    let z : s ≡ (n - k) * d = left (k * d) s ((n - k) * d) (e ∙ ap (λ (x : ℕ). x * d) w ∙ add-mul k (n - k) d) in
    go (n - k) w z (lt_of_mul-lt-mul_right d (lt_of_le_of_lt (le_of_eq (sym z)) l))
  where
    at_most : (a s : ℕ) → a ≤ a + s
    at_most a s = omega arith

    whole_of : (k n : ℕ) → k ≤ n → n ≡ k + (n - k)
    whole_of k n m = omega arith

    left : (a s t : ℕ) → a + s ≡ a + t → s ≡ t
    left a s t e = omega arith

    go : (t : ℕ) → n ≡ k + t → s ≡ t * d → t < 2 → ((s ≡ 0) × (k ≡ n)) ⊎ ((s ≡ d) × (suc k ≡ n))
    go zero w z b = inl (omega (arith, z), omega (arith, w))
    go (suc zero) w z b = inr (omega (arith, z), omega (arith, w))
    go (suc (suc t)) w z b = absurd (omega (arith, b))

pub closest_back : (x c d : ℕ) → 0 < d → x ≤ 2 * c * d → closest (2 * c * d - x) d ≡ 2 * c - closest x d
closest_back x c d D h =
    let y = 2 * c * d - x in
    let o = compare (x % d * 2) d in
    let u = compare (y % d * 2) d in
    let s : (x / d + y / d) * d + (x % d + y % d) ≡ 2 * c * d = sums ((x / d + y / d) * d) (x / d * d) (y / d * d) (x % d) (y % d) x (2 * c * d)
    (add-mul (x / d) (y / d) d) (div-add-mod' x d) (div-add-mod' y d) h in
    elim (none_or_one (x / d + y / d) (2 * c) (x % d + y % d) d D s (both (x % d) (y % d) d (mod-lt x D) (mod-lt y D))) [
      | inl e ↦ whole (x / d) (y / d) c (x % d) (y % d) d o u (cmp (x % d * 2) d) (cmp (y % d * 2) d) D e.0 e.1
      | inr e ↦ part (x / d) (y / d) c (x % d) (y % d) d o u (cmp (x % d * 2) d) (cmp (y % d * 2) d) e.0 e.1
    ]
  where
    both : (r t d : ℕ) → r < d → t < d → r + t < 2 * d
    both r t d a b = omega arith

    sums : (n a b r t x m : ℕ) → n ≡ a + b → a + r ≡ x → b + t ≡ m - x → x ≤ m → n + (r + t) ≡ m
    sums n a b r t x m e f g h = omega arith
