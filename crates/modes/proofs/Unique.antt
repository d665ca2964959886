-- Two floats that fit a format and have one value are one float. Assumes nothing.
use mathlib.Core.Path.{◌≡◌, refl, sym, ap, ◌∙◌, subst}
use Prim.Native.Nat.{ℕ, zero, suc, ◌+◌, ◌*◌, ◌%◌, ◌^◌, ◌<◌}
use native.Mathlib.Nat.{mul-one, mul_assoc, mul_left_comm, mul_right_comm, zero-mul, zero-lt-suc, mul-pos, lt_irrefl, pow-succ', pow-suc}
use native.Mathlib.Nat.{eq_of_mul-eq-mul_right}
use native.Mathlib.Omega.{arith}
use mathlib.Core.Bool.{Bool, ◌&&◌}
use lib.IntN.{ℤ, pos, negsuc}
use lib.Dec.{T, ltb, leb, eqb, eqb→eq}
use lib.Pow.{pow-add, pow_pos}
use lib.Ieee.{Float, nan, inf, fin, Format, prec, emax, low, up, down, fits}
use lib.Ieee.Fits.{up_pos, down_pos, and_l}
use lib.Ieee.Exact.{HasValue}

-- ---- an odd number times a power of two is so in one way
even_odd : (m t : ℕ) → m % 2 ≡ 1 → m ≡ 2 * t → ⊥
even_odd m t o h = omega arith

odd_pow : (m n a b : ℕ) → m % 2 ≡ 1 → n % 2 ≡ 1 → m * 2 ^ a ≡ n * 2 ^ b → (m ≡ n) × (a ≡ b)
odd_pow m n zero zero o p h = (sym (mul-one m) ∙ h ∙ mul-one n, refl)
odd_pow m n zero (suc b) o p h = absurd (even_odd m (n * 2 ^ b) o (sym (mul-one m) ∙ h ∙ ap (λ (x : ℕ). n * x) (pow-succ' 2 b) ∙ mul_left_comm n 2 (2 ^ b)))
odd_pow m n (suc a) zero o p h = absurd (even_odd n (m * 2 ^ a) p (sym (mul-one n) ∙ sym h ∙ ap (λ (x : ℕ). m * x) (pow-succ' 2 a) ∙ mul_left_comm m 2 (2 ^ a)))
odd_pow m n (suc a) (suc b) o p h =
    let r = odd_pow m n a b o p (eq_of_mul-eq-mul_right 2 (zero-lt-suc 1) (m * 2 ^ a) (n * 2 ^ b)
    (mul_assoc m (2 ^ a) 2 ∙ ap (λ (x : ℕ). m * x) (sym (pow-suc 2 a)) ∙ h ∙ ap (λ (x : ℕ). n * x) (pow-suc 2 b) ∙ sym (mul_assoc n (2 ^ b) 2))) in
    (r.0, ap suc r.1)

no_sum : (a b : ℕ) → a + suc b ≡ 0 → ⊥
no_sum a b h = omega arith

pred_eq : (a b : ℕ) → suc b ≡ suc a → a ≡ b
pred_eq a b h = omega arith

-- so m * 2 ^ e is, for a power e of either sign
parts : (m n : ℕ) (e g : ℤ) → m % 2 ≡ 1 → n % 2 ≡ 1 → m * up e * down g ≡ n * up g * down e → (m ≡ n) × (e ≡ g)
parts m n (pos a) (pos b) o p h = let r = odd_pow m n a b o p (sym (mul-one (m * 2 ^ a)) ∙ h ∙ mul-one (n * 2 ^ b)) in (r.0, ap pos r.1)
parts m n (pos a) (negsuc b) o p h =
    let r = odd_pow m n (a + suc b) 0 o p (ap (λ (x : ℕ). m * x) (pow-add 2 a (suc b)) ∙ sym (mul_assoc m (2 ^ a) (2 ^ suc b)) ∙ h ∙ mul-one (n * 1)) in
    absurd (no_sum a b r.1)
parts m n (negsuc a) (pos b) o p h =
    let r = odd_pow n m (b + suc a) 0 p o (ap (λ (x : ℕ). n * x) (pow-add 2 b (suc a)) ∙ sym (mul_assoc n (2 ^ b) (2 ^ suc a)) ∙ sym h ∙ mul-one (m * 1)) in
    absurd (no_sum b a r.1)
parts m n (negsuc a) (negsuc b) o p h =
    let r = odd_pow m n (suc b) (suc a) o p (ap (λ (x : ℕ). x * 2 ^ suc b) (sym (mul-one m)) ∙ h ∙ ap (λ (x : ℕ). x * 2 ^ suc a) (mul-one n)) in
    (r.0, ap negsuc (pred_eq a b r.1))

-- ---- what fits has an odd m, or is 0 with the exponent 0
is_odd : (f : Format) (s : Bool) (m : ℕ) (e : ℤ) → T (fits f (fin s (suc m) e)) → suc m % 2 ≡ 1
unfolding fits
is_odd f s m e t =
    eqb→eq (suc m % 2) 1 (and_l (eqb (suc m % 2) 1) (ltb (suc m) (2 ^ prec f)) (and_l (eqb (suc m % 2) 1 && ltb (suc m) (2 ^ prec f)) (leb (down e) (2 ^ low f))
    (and_l (eqb (suc m % 2) 1 && ltb (suc m) (2 ^ prec f) && leb (down e) (2 ^ low f)) (ltb (suc m * up e) (2 ^ suc (emax f) * down e)) t)))

two_up : (p : ℕ) → 0 < p → 2 * p ≡ 1 → ⊥
two_up p h e = omega arith

flat : (e : ℤ) → up e * down e ≡ 1 → e ≡ pos 0
flat (pos zero) h = refl
flat (pos (suc k)) h = absurd (two_up (2 ^ k) (pow_pos k) (sym (pow-succ' 2 k) ∙ sym (mul-one (2 ^ suc k)) ∙ h))
flat (negsuc k) h = absurd (two_up (2 ^ k) (pow_pos k) (sym (pow-succ' 2 k) ∙ sym (one_mul' (2 ^ suc k)) ∙ h))
  where
    one_mul' : (a : ℕ) → 1 * a ≡ a
    one_mul' a = omega arith

pub zero_exp : (f : Format) (s : Bool) (e : ℤ) → T (fits f (fin s zero e)) → e ≡ pos 0
unfolding fits
zero_exp f s e t = flat e (eqb→eq (up e * down e) 1 t)

-- ---- both values as one product
crossed : (m n : ℕ) (e g : ℤ) (a c : ℕ) → 0 < c → m * up e * c ≡ a * down e → n * up g * c ≡ a * down g → m * up e * down g ≡ n * up g * down e
crossed m n e g a c C v w =
    eq_of_mul-eq-mul_right c C (m * up e * down g) (n * up g * down e)
    (mul_right_comm (m * up e) (down g) c
    ∙ ap (λ (x : ℕ). x * down g) v
    ∙ mul_right_comm a (down e) (down g)
    ∙ ap (λ (x : ℕ). x * down e) (sym w)
    ∙ mul_right_comm (n * up g) c (down e))

not_zero : (n : ℕ) (e g : ℤ) → zero * up e * down g ≡ suc n * up g * down e → ⊥
not_zero n e g h =
    lt_irrefl 0
    (subst (λ (x : ℕ). 0 < x) (sym h ∙ ap (λ (y : ℕ). y * down g) (zero-mul (up e)) ∙ zero-mul (down g))
    (mul-pos (mul-pos (zero-lt-suc n) (up_pos g)) (down_pos e)))

pub same_value : (f : Format) (x y : Float) (s : Bool) (a c : ℕ) → 0 < c → T (fits f x) → T (fits f y) → HasValue x s a c → HasValue y s a c → x ≡ y
same_value f nan y s a c C p q v w = absurd v
same_value f (inf t) y s a c C p q v w = absurd v
same_value f (fin t m e) nan s a c C p q v w = absurd w
same_value f (fin t m e) (inf u) s a c C p q v w = absurd w
same_value f (fin t zero e) (fin u zero g) s a c C p q v w = λ i. fin ((v.0 ∙ sym w.0) i) zero ((zero_exp f t e p ∙ sym (zero_exp f u g q)) i)
same_value f (fin t zero e) (fin u (suc n) g) s a c C p q v w = absurd (not_zero n e g (crossed zero (suc n) e g a c C v.1 w.1))
same_value f (fin t (suc m) e) (fin u zero g) s a c C p q v w = absurd (not_zero m g e (crossed zero (suc m) g e a c C w.1 v.1))
same_value f (fin t (suc m) e) (fin u (suc n) g) s a c C p q v w =
    let r = parts (suc m) (suc n) e g (is_odd f t m e p) (is_odd f u n g q) (crossed (suc m) (suc n) e g a c C v.1 w.1) in
    λ i. fin ((v.0 ∙ sym w.0) i) (r.0 i) (r.1 i)
