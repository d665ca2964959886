-- A sum, a difference, a product and a quotient of finite floats keep the order of their operands, of either sign and zero: each is the nearest
-- float to a fraction that does. A sum and a product do not care which operand comes first. Assumes nothing.
use mathlib.Core.Path.{◌≡◌, refl, sym, ap, ◌∙◌, subst}
use mathlib.Core.Logic.{inl, inr}
use mathlib.Core.Bool.{Bool, true, false, not, cond, beq}
use Prim.Native.Nat.{ℕ, ◌+◌, ◌-◌, ◌*◌, ◌≤◌, ◌<◌}
use native.Mathlib.Nat.{mul_comm, mul-pos, add_comm, mul-le-mul_right, zero-lt-suc, eq-zero-or-pos, lt_irrefl, add-mul, mul-zero, add-zero, zero-add}
use native.Mathlib.Omega.{arith}
use lib.Dec.{T, ltb, eqb, ltb→lt, nltb→le, eqb→eq}
use lib.Ieee.{Float, nan, inf, fin, binary32, up, down, round, neg, sum, add, sub, mul, div, le, unlike}
use lib.Ieee.Fits.{up_pos}
use lib.Ieee.Order.{round_mono}
use lib.Ieee.Scale.{finite}
use lib.Ieee.Positive.{positive}
use Rattle.ground.specs.F32.{◌⊕◌, ◌⊖◌, ◌⊗◌, ◌⊘◌}
use Rattle.bounds.proofs.Order.{zero_f, plus, less, den, den_pos, AtMost, le→number, le_trans_float, neg_le, neg_finite, round_neg, sorted}

-- ---- z is the nearest float to (p - q) / d
pub data Near (p q d : ℕ) (z : Float) : Type 0 where
  over : (n : ℕ) → p ≡ q + n → z ≡ round binary32 false n d → Near p q d z
  under : (n : ℕ) → q ≡ p + n → z ≡ round binary32 true n d → Near p q d z

zero_is : round binary32 false 0 1 ≡ zero_f
unfolding round
zero_is = refl

not_below : (n d : ℕ) → 0 < d → T (le zero_f (round binary32 false n d))
not_below n d D = subst (λ (z : Float). T (le z (round binary32 false n d))) zero_is (round_mono binary32 0 1 n d (zero-lt-suc 0) D (omega arith))

not_above : (d : ℕ) → 0 < d → T (le (round binary32 false 0 d) zero_f)
not_above d D = subst (λ (z : Float). T (le (round binary32 false 0 d) z)) zero_is (round_mono binary32 0 d 0 1 D (zero-lt-suc 0) (omega arith))

minus_zero_le : T (le (neg zero_f) zero_f)
unfolding le neg
minus_zero_le = tt

le_minus_zero : T (le zero_f (neg zero_f))
unfolding le neg
le_minus_zero = tt

nothing : (n d : ℕ) → 0 < d → n * d ≤ 0 → n ≡ 0
nothing n d D h = elim (eq-zero-or-pos n) [ inl z ↦ z | inr p ↦ absurd (omega (arith, mul-pos p D)) ]

-- two fractions of one sign, and one of each
alike : (q n d q' m d' : ℕ) → AtMost (q + n) q d (q' + m) q' d' → n * d' ≤ m * d
alike q n d q' m d' h = omega (arith, simp add-mul at h)

apart : (q n d p m d' : ℕ) → AtMost (q + n) q d p (p + m) d' → n * d' + m * d ≤ 0
apart q n d p m d' h = omega (arith, simp add-mul at h)

mirror : (p n d p' m d' : ℕ) → AtMost p (p + n) d p' (p' + m) d' → m * d ≤ n * d'
mirror p n d p' m d' h = omega (arith, simp add-mul at h)

pub near_mono : {p q d p' q' d' : ℕ} {z z' : Float} → 0 < d → 0 < d' → Near p q d z → Near p' q' d' z' → AtMost p q d p' q' d' → T (le z z')
near_mono {q = q} {d = d} {q' = q'} {d' = d'} D D' (over n e r) (over m e' r') h =
    rw (r, r') (round_mono binary32 n d m d' D D' (alike q n d q' m d' (rw (e, e') at h)))
near_mono {q = q} {d = d} {p' = p'} {d' = d'} D D' (over n e r) (under m e' r') h =
    let k = apart q n d p' m d' (rw (e, e') at h) in
    rw (r, r', nothing n d' D' (omega arith), nothing m d D (omega arith), round_neg)
    (le_trans_float (round binary32 false 0 d) zero_f (neg (round binary32 false 0 d')) (not_above d D)
    (le_trans_float zero_f (neg zero_f) (neg (round binary32 false 0 d')) le_minus_zero (neg_le (round binary32 false 0 d') zero_f (not_above d' D'))))
near_mono {d = d} {d' = d'} D D' (under n e r) (over m e' r') h =
    rw (r, r', round_neg)
    (le_trans_float (neg (round binary32 false n d)) (neg zero_f) (round binary32 false m d') (neg_le zero_f (round binary32 false n d) (not_below n d D))
    (le_trans_float (neg zero_f) zero_f (round binary32 false m d') minus_zero_le (not_below m d' D')))
near_mono {p = p} {d = d} {p' = p'} {d' = d'} D D' (under n e r) (under m e' r') h =
    rw (r, r', round_neg n d, round_neg m d')
    (neg_le (round binary32 false m d') (round binary32 false n d) (round_mono binary32 m d' n d D' D (mirror p n d p' m d' (rw (e, e') at h))))

-- ---- the operations
sum_near : (s : Bool) (a : ℕ) (t : Bool) (b c p q : ℕ) → p ≡ cond s 0 a + cond t 0 b → q ≡ cond s a 0 + cond t b 0 → Near p q c (sum binary32 s a t b c)
unfolding sum
sum_near true a true b c p q P Q = under (a + b) (omega arith) refl
sum_near false a false b c p q P Q = over (a + b) (omega arith) refl
sum_near false a true b c p q P Q = go (ltb a b) (ltb→lt a b) (nltb→le a b)
  where
    go : (u : Bool) → (T u → a < b) → (T (not u) → b ≤ a) → Near p q c (cond u (round binary32 true (b - a) c) (round binary32 false (a - b) c))
    go true f g = under (b - a) (omega (arith, f tt)) refl
    go false f g = over (a - b) (omega (arith, g tt)) refl
sum_near true a false b c p q P Q = go (ltb a b) (ltb→lt a b) (nltb→le a b)
  where
    low : (v : Bool) → b ≤ a → (T (not v) → a ≤ b) → Near p q c (round binary32 v (a - b) c)
    low true g h = under (a - b) (omega arith) refl
    low false g h = over (a - b) (omega (arith, h tt)) refl

    go : (u : Bool) → (T u → a < b) → (T (not u) → b ≤ a) → Near p q c (cond u (round binary32 false (b - a) c) (round binary32 (ltb b a) (a - b) c))
    go true f g = over (b - a) (omega (arith, f tt)) refl
    go false f g = low (ltb b a) (g tt) (nltb→le b a)

add_near : (x y : Float) → T (finite x) → T (finite y) → Near (plus x * den y + plus y * den x) (less x * den y + less y * den x) (den x * den y) (x ⊕ y)
unfolding add
add_near (fin false m e) (fin false n d) p q = sum_near false (m * up e * down d) false (n * up d * down e) (down e * down d) _ _ refl (omega arith)
add_near (fin false m e) (fin true n d) p q = sum_near false (m * up e * down d) true (n * up d * down e) (down e * down d) _ _ (omega arith) (omega arith)
add_near (fin true m e) (fin false n d) p q = sum_near true (m * up e * down d) false (n * up d * down e) (down e * down d) _ _ (omega arith) (omega arith)
add_near (fin true m e) (fin true n d) p q = sum_near true (m * up e * down d) true (n * up d * down e) (down e * down d) _ _ (omega arith) refl
add_near nan y p q = elim p [ ]
add_near (inf _) y p q = elim p [ ]
add_near (fin false m e) nan p q = elim q [ ]
add_near (fin false m e) (inf _) p q = elim q [ ]
add_near (fin true m e) nan p q = elim q [ ]
add_near (fin true m e) (inf _) p q = elim q [ ]

pub sub_near : (x y : Float) → T (finite x) → T (finite y) → Near (plus x * den y + less y * den x) (less x * den y + plus y * den x) (den x * den y) (x ⊖ y)
unfolding sub neg
sub_near x (fin true n d) p q = add_near x (fin false n d) p q
sub_near x (fin false n d) p q = add_near x (fin true n d) p q
sub_near x nan p q = elim q [ ]
sub_near x (inf _) p q = elim q [ ]

mul_near : (x y : Float) → T (finite x) → T (finite y) → Near (plus x * plus y + less x * less y) (plus x * less y + less x * plus y) (den x * den y) (x ⊗ y)
unfolding mul
mul_near (fin false m e) (fin false n d) p q = over (m * up e * (n * up d)) (omega arith) refl
mul_near (fin false m e) (fin true n d) p q = under (m * up e * (n * up d)) (omega arith) refl
mul_near (fin true m e) (fin false n d) p q = under (m * up e * (n * up d)) (omega arith) refl
mul_near (fin true m e) (fin true n d) p q = over (m * up e * (n * up d)) (omega arith) refl
mul_near nan y p q = elim p [ ]
mul_near (inf _) y p q = elim p [ ]
mul_near (fin false m e) nan p q = elim q [ ]
mul_near (fin false m e) (inf _) p q = elim q [ ]
mul_near (fin true m e) nan p q = elim q [ ]
mul_near (fin true m e) (inf _) p q = elim q [ ]

-- the divisor above zero
div_near : (x y : Float) → T (finite x) → T (positive y) → Near (plus x * den y) (less x * den y) (plus y * den x) (x ⊘ y)
unfolding div
div_near (fin s m e) (fin true n d) p q = absurd q
div_near (fin s m e) (fin false n d) p q = go (eqb n 0) (λ t. absurd (lt_irrefl 0 (subst (λ (k : ℕ). 0 < k) (eqb→eq n 0 t) (ltb→lt 0 n q)))) s
  where
    go : (b : Bool) → (T b → ⊥) → (s : Bool) → Near (plus (fin s m e) * down d) (less (fin s m e) * down d) (n * up d * down e)
        (cond b (cond (eqb m 0) nan (inf (unlike s false))) (round binary32 (unlike s false) (m * up e * down d) (n * up d * down e)))
    go true f s = absurd (f tt)
    go false f true = under (m * up e * down d) (omega arith) refl
    go false f false = over (m * up e * down d) (omega arith) refl
div_near nan y p q = elim p [ ]
div_near (inf _) y p q = elim p [ ]
div_near (fin s m e) nan p q = elim q [ ]
div_near (fin s m e) (inf _) p q = elim q [ ]

-- ---- which operand comes first does not matter
mixed : (a b c : ℕ) → cond (ltb a b) (round binary32 true (b - a) c) (round binary32 false (a - b) c) ≡ cond (ltb b a) (round binary32 false (a - b) c)
    (round binary32 (ltb a b) (b - a) c)
mixed a b c = go (ltb a b) (ltb b a) (ltb→lt a b) (ltb→lt b a) (nltb→le a b) (nltb→le b a)
  where
    go : (u v : Bool) → (T u → a < b) → (T v → b < a) → (T (not u) → b ≤ a) → (T (not v) → a ≤ b)
        → cond u (round binary32 true (b - a) c) (round binary32 false (a - b) c) ≡ cond v (round binary32 false (a - b) c) (round binary32 u (b - a) c)
    go true true f g h k = absurd (omega (arith, f tt, g tt))
    go true false f g h k = refl
    go false true f g h k = refl
    go false false f g h k = ap (λ (n : ℕ). round binary32 false n c) (omega (arith, h tt, k tt))

sum_comm : (s : Bool) (a : ℕ) (t : Bool) (b c : ℕ) → sum binary32 s a t b c ≡ sum binary32 t b s a c
unfolding sum
sum_comm true a true b c = ap (λ (n : ℕ). round binary32 true n c) (add_comm a b)
sum_comm false a false b c = ap (λ (n : ℕ). round binary32 false n c) (add_comm a b)
sum_comm false a true b c = mixed a b c
sum_comm true a false b c = sym (mixed b a c)

same_sign : (s t : Bool) → cond (beq s t) (inf s) nan ≡ cond (beq t s) (inf t) nan
same_sign true true = refl
same_sign true false = refl
same_sign false true = refl
same_sign false false = refl

pub add_comm_float : (x y : Float) → x ⊕ y ≡ y ⊕ x
unfolding add
add_comm_float nan nan = refl
add_comm_float nan (inf t) = refl
add_comm_float nan (fin t n d) = refl
add_comm_float (inf s) nan = refl
add_comm_float (inf s) (inf t) = same_sign s t
add_comm_float (inf s) (fin t n d) = refl
add_comm_float (fin s m e) nan = refl
add_comm_float (fin s m e) (inf t) = refl
add_comm_float (fin s m e) (fin t n d) =
    sum_comm s (m * up e * down d) t (n * up d * down e) (down e * down d)
    ∙ ap (λ (c : ℕ). sum binary32 t (n * up d * down e) s (m * up e * down d) c) (mul_comm (down e) (down d))

unlike_comm : (s t : Bool) → unlike s t ≡ unlike t s
unlike_comm true true = refl
unlike_comm true false = refl
unlike_comm false true = refl
unlike_comm false false = refl

pub mul_comm_float : (x y : Float) → x ⊗ y ≡ y ⊗ x
unfolding mul
mul_comm_float nan nan = refl
mul_comm_float nan (inf t) = refl
mul_comm_float nan (fin t n d) = refl
mul_comm_float (inf s) nan = refl
mul_comm_float (inf s) (inf t) = ap inf (unlike_comm s t)
mul_comm_float (inf s) (fin t n d) = ap (λ (b : Bool). cond (eqb n 0) nan (inf b)) (unlike_comm s t)
mul_comm_float (fin s m e) nan = refl
mul_comm_float (fin s m e) (inf t) = ap (λ (b : Bool). cond (eqb m 0) nan (inf b)) (unlike_comm s t)
mul_comm_float (fin s m e) (fin t n d) = λ i. round binary32 (unlike_comm s t i) (mul_comm (m * up e) (n * up d) i) (mul_comm (down e) (down d) i)

-- ---- the order kept
-- (p - q) / d ≤ (p' - q') / d', with the same added to both, and both times k / l
shifted : (p q d p' q' d' r s c : ℕ) → AtMost p q d p' q' d' → AtMost (p * c + r * d) (q * c + s * d) (d * c) (p' * c + r * d') (q' * c + s * d') (d' * c)
shifted p q d p' q' d' r s c h = let k = simp sorted at (mul-le-mul_right (c * c) h) in simp sorted (omega arith)

scaled : (p q d p' q' d' k c : ℕ) → AtMost p q d p' q' d' → AtMost (p * k) (q * k) (d * c) (p' * k) (q' * k) (d' * c)
scaled p q d p' q' d' k c h = let l = simp sorted at (mul-le-mul_right (k * c) h) in simp sorted (omega arith)

pub add_le : (x x' y : Float) → T (finite x) → T (finite x') → T (finite y) → T (le x x') → T (le (x ⊕ y) (x' ⊕ y))
add_le x x' y p p' q h =
    near_mono (mul-pos (den_pos x) (den_pos y)) (mul-pos (den_pos x') (den_pos y)) (add_near x y p q) (add_near x' y p' q)
    (shifted (plus x) (less x) (den x) (plus x') (less x') (den x') (plus y) (less y) (den y) (le→number x x' p p' h))

pub add_mono : (x x' y y' : Float) → T (finite x) → T (finite x') → T (finite y) → T (finite y') → T (le x x') → T (le y y') → T (le (x ⊕ y) (x' ⊕ y'))
add_mono x x' y y' p p' q q' h k =
    le_trans_float (x ⊕ y) (x' ⊕ y) (x' ⊕ y') (add_le x x' y p p' q h)
    (rw (add_comm_float x' y, add_comm_float x' y') (add_le y y' x' q q' p' k))

pub sub_mono : (x x' y y' : Float) → T (finite x) → T (finite x') → T (finite y) → T (finite y') → T (le x x') → T (le y' y) → T (le (x ⊖ y) (x' ⊖ y'))
unfolding sub
sub_mono x x' y y' p p' q q' h k = add_mono x x' (neg y) (neg y') p p' (neg_finite y q) (neg_finite y' q') h (neg_le y' y k)

-- a float that is not below zero has nothing to take off, and one that is not above zero nothing else
not_less : (y : Float) → T (finite y) → T (le zero_f y) → less y ≡ 0
not_less (fin true n d) q h = omega (arith, le→number zero_f (fin true n d) tt q h)
not_less (fin false n d) q h = refl
not_less nan q h = elim q [ ]
not_less (inf _) q h = elim q [ ]

not_plus : (y : Float) → T (finite y) → T (le y zero_f) → plus y ≡ 0
not_plus (fin true n d) q h = refl
not_plus (fin false n d) q h = omega (arith, le→number (fin false n d) zero_f q tt h)
not_plus nan q h = elim q [ ]
not_plus (inf _) q h = elim q [ ]

by_plus : (x y : Float) → T (finite x) → T (finite y) → T (le zero_f y) → Near (plus x * plus y) (less x * plus y) (den x * den y) (x ⊗ y)
by_plus x y p q h = simp (mul-zero, add-zero, zero-add) at (rw (not_less y q h) at (mul_near x y p q))

by_less : (x y : Float) → T (finite x) → T (finite y) → T (le y zero_f) → Near (less x * less y) (plus x * less y) (den x * den y) (x ⊗ y)
by_less x y p q h = simp (mul-zero, add-zero, zero-add) at (rw (not_plus y q h) at (mul_near x y p q))

turned : (p q d p' q' d' : ℕ) → AtMost p q d p' q' d' → AtMost q' p' d' q p d
turned p q d p' q' d' h = omega arith

-- times a factor that is not negative; times one that is not positive
pub mul_le : (x x' y : Float) → T (finite x) → T (finite x') → T (finite y) → T (le zero_f y) → T (le x x') → T (le (x ⊗ y) (x' ⊗ y))
mul_le x x' y p p' q n h =
    near_mono (mul-pos (den_pos x) (den_pos y)) (mul-pos (den_pos x') (den_pos y)) (by_plus x y p q n) (by_plus x' y p' q n)
    (scaled (plus x) (less x) (den x) (plus x') (less x') (den x') (plus y) (den y) (le→number x x' p p' h))

pub mul_ge : (x x' y : Float) → T (finite x) → T (finite x') → T (finite y) → T (le y zero_f) → T (le x x') → T (le (x' ⊗ y) (x ⊗ y))
mul_ge x x' y p p' q n h =
    near_mono (mul-pos (den_pos x') (den_pos y)) (mul-pos (den_pos x) (den_pos y)) (by_less x' y p' q n) (by_less x y p q n)
    (scaled (less x') (plus x') (den x') (less x) (plus x) (den x) (less y) (den y)
    (turned (plus x) (less x) (den x) (plus x') (less x') (den x') (le→number x x' p p' h)))

-- over a divisor above zero
plus_pos : (y : Float) → T (positive y) → 0 < plus y
plus_pos (fin true n d) q = absurd q
plus_pos (fin false n d) q = mul-pos (ltb→lt 0 n q) (up_pos d)
plus_pos nan q = elim q [ ]
plus_pos (inf _) q = elim q [ ]

pub div_le : (x x' y : Float) → T (finite x) → T (finite x') → T (positive y) → T (le x x') → T (le (x ⊘ y) (x' ⊘ y))
div_le x x' y p p' q h =
    near_mono (mul-pos (plus_pos y q) (den_pos x)) (mul-pos (plus_pos y q) (den_pos x')) (div_near x y p q) (div_near x' y p' q)
    (rw (mul_comm (plus y) (den x), mul_comm (plus y) (den x')) (scaled (plus x) (less x) (den x) (plus x') (less x') (den x') (den y) (plus y)
    (le→number x x' p p' h)))

-- a larger divisor makes a quotient smaller that is not negative, and one larger that is not positive
larger : (y y' : Float) → T (positive y) → T (positive y') → T (le y y') → plus y * den y' ≤ plus y' * den y
larger (fin true n d) y' q q' h = absurd q
larger (fin false n d) (fin true k c) q q' h = absurd q'
larger (fin false n d) (fin false k c) q q' h = omega (arith, le→number (fin false n d) (fin false k c) tt tt h)
larger nan y' q q' h = elim q [ ]
larger (inf _) y' q q' h = elim q [ ]
larger (fin false n d) nan q q' h = elim q' [ ]
larger (fin false n d) (inf _) q q' h = elim q' [ ]

across : (a d y c y' c' : ℕ) → y * c' ≤ y' * c → a * c' * (y * d) ≤ a * c * (y' * d)
across a d y c y' c' h = let k = simp sorted at (mul-le-mul_right (a * d) h) in simp sorted (omega arith)

pub div_ge : (x y y' : Float) → T (finite x) → T (le zero_f x) → T (positive y) → T (positive y') → T (le y y') → T (le (x ⊘ y') (x ⊘ y))
div_ge x y y' p n q q' h =
    let z = not_less x p n in
    let k = across (plus x) (den x) (plus y) (den y) (plus y') (den y') (larger y y' q q' h) in
    near_mono (mul-pos (plus_pos y' q') (den_pos x)) (mul-pos (plus_pos y q) (den_pos x)) (div_near x y' p q') (div_near x y p q) (rw z (omega arith))

pub div_up : (x y y' : Float) → T (finite x) → T (le x zero_f) → T (positive y) → T (positive y') → T (le y y') → T (le (x ⊘ y) (x ⊘ y'))
div_up x y y' p n q q' h =
    let z = not_plus x p n in
    let k = across (less x) (den x) (plus y) (den y) (plus y') (den y') (larger y y' q q' h) in
    near_mono (mul-pos (plus_pos y q) (den_pos x)) (mul-pos (plus_pos y' q') (den_pos x)) (div_near x y p q) (div_near x y' p q') (rw z (omega arith))
