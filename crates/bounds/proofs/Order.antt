-- The order of floats: of finite ones, of either sign and zero, as one of whole numbers; of all but NaN, that it is transitive; and the sign turned.
-- A finite x is (`plus x` - `less x`) / `den x`. Assumes nothing.
use mathlib.Core.Path.{◌≡◌, refl, sym, ap, ◌∙◌, subst}
use mathlib.Core.Logic.{◌⊎◌, inl, inr}
use mathlib.Core.Bool.{Bool, true, false, not, ◌&&◌, ◌||◌, cond}
use Prim.Native.Nat.{ℕ, zero, suc, ◌+◌, ◌*◌, ◌^◌, ◌≤◌, ◌<◌}
use native.Mathlib.Nat.{le_refl, eq-or-lt_of_le, eq-zero-or-pos, le_of_eq, le_of_lt, mul_comm, mul_assoc, mul_left_comm, add-mul, mul-add, mul-le-mul_right}
use native.Mathlib.Nat.{le_of_mul-le-mul_right, zero-lt-suc}
use native.Mathlib.Omega.{arith}
use Rattle.std.proofs.lemmas.Float as Floats
use lib.Dec.{T, ltb, eqb, ltb→lt, lt→ltb, nltb→le, eqb→eq, eqb_refl, T_not}
use lib.IntN.{pos}
use lib.Ieee.{Float, nan, inf, fin, binary32, prec, emax, low, up, down, odd, units, round, neg, lt, le, is_nan}
use lib.Ieee.Fits.{down_pos, round_is, and_i}
use lib.Ieee.Scale.{finite}

-- ---- 0, 1 and 2^64
abbrev pub zero_f : Float
zero_f = fin false 0 (pos 0)

abbrev pub one_f : Float
one_f = fin false 1 (pos 0)

abbrev pub two64 : Float
two64 = fin false 1 (pos 64)

-- ---- a finite float as a difference of two numbers over a third, and 0 / 1 for a NaN and an infinity
abbrev pub plus : Float → ℕ
plus nan = 0
plus (inf s) = 0
plus (fin true m e) = 0
plus (fin false m e) = m * up e

abbrev pub less : Float → ℕ
less nan = 0
less (inf s) = 0
less (fin true m e) = m * up e
less (fin false m e) = 0

abbrev pub den : Float → ℕ
den nan = 1
den (inf s) = 1
den (fin s m e) = down e

pub den_pos : (x : Float) → 0 < den x
den_pos nan = zero-lt-suc 0
den_pos (inf s) = zero-lt-suc 0
den_pos (fin s m e) = down_pos e

-- x ≤ y of such differences: (p - q) / d ≤ (p' - q') / d'
abbrev pub AtMost : (p q d p' q' d' : ℕ) → Type 0
AtMost p q d p' q' d' = p * d' + q' * d ≤ p' * d + q * d'

-- ---- the order
or_true : (a b : Bool) → T (a || b) → T a ⊎ T b
or_true true b t = inl tt
or_true false b t = inr t

pub and_true : (a b : Bool) → T (a && b) → T a × T b
and_true true true t = (tt, tt)
and_true true false t = absurd t
and_true false b t = absurd t

or_l : (a b : Bool) → T a → T (a || b)
or_l true b t = tt
or_l false b t = elim t [ ]

or_r : (a b : Bool) → T b → T (a || b)
or_r true b t = tt
or_r false b t = t

eqb_of : (a b : ℕ) → a ≡ b → T (eqb a b)
eqb_of a b e = subst (λ (x : ℕ). T (eqb a x)) e (eqb_refl a)

test→le : (a b : ℕ) (r : Bool) → (T r → a ≡ b) → T (ltb a b || (r && true)) → a ≤ b
test→le a b true e h = le_of_eq (e tt)
test→le a b false e h = elim (or_true (ltb a b) false h) [ inl l ↦ le_of_lt (ltb→lt a b l) | inr z ↦ absurd z ]

le→test : (a b : ℕ) (r : Bool) → (a ≡ b → T r) → a ≤ b → T (ltb a b || (r && true))
le→test a b r e h = elim (eq-or-lt_of_le h) [ inl q ↦ or_r (ltb a b) (r && true) (and_i r true (e q) tt) | inr l ↦ or_l (ltb a b) (r && true) (lt→ltb a b l) ]

zeros : (a b : ℕ) → a ≡ 0 → b ≡ 0 → T (eqb a b && eqb a 0)
zeros a b p q = and_i (eqb a b) (eqb a 0) (eqb_of a b (p ∙ sym q)) (eqb_of a 0 p)

pub le→number : (x y : Float) → T (finite x) → T (finite y) → T (le x y) → AtMost (plus x) (less x) (den x) (plus y) (less y) (den y)
unfolding le
le→number (fin false m e) (fin false n d) p q h =
    let a = m * up e * down d in
    let b = n * up d * down e in
    omega (arith, test→le a b (eqb a b) (eqb→eq a b) h)
le→number (fin false m e) (fin true n d) p q h =
    let a = m * up e * down d in
    let b = n * up d * down e in
    let k = and_true (eqb a b) (eqb a 0) h in
    omega (arith, eqb→eq a b k.0, eqb→eq a 0 k.1)
le→number (fin true m e) (fin false n d) p q h = omega arith
le→number (fin true m e) (fin true n d) p q h =
    let a = m * up e * down d in
    let b = n * up d * down e in
    omega (arith, test→le b a (eqb a b) (λ t. sym (eqb→eq a b t)) h)
le→number nan y p q h = elim p [ ]
le→number (inf _) y p q h = elim p [ ]
le→number (fin false m e) nan p q h = elim q [ ]
le→number (fin false m e) (inf _) p q h = elim q [ ]
le→number (fin true m e) nan p q h = elim q [ ]
le→number (fin true m e) (inf _) p q h = elim q [ ]

pub number→le : (x y : Float) → T (finite x) → T (finite y) → AtMost (plus x) (less x) (den x) (plus y) (less y) (den y) → T (le x y)
unfolding le
number→le (fin false m e) (fin false n d) p q h =
    let a = m * up e * down d in
    let b = n * up d * down e in
    le→test a b (eqb a b) (eqb_of a b) (omega arith)
number→le (fin false m e) (fin true n d) p q h = zeros (m * up e * down d) (n * up d * down e) (omega arith) (omega arith)
number→le (fin true m e) (fin false n d) p q h =
    let a = m * up e * down d in
    let b = n * up d * down e in
    elim (eq-zero-or-pos (a + b)) [
      | inl z ↦ or_r (ltb 0 (a + b)) (eqb a b && eqb a 0) (zeros a b (omega arith) (omega arith))
      | inr l ↦ or_l (ltb 0 (a + b)) (eqb a b && eqb a 0) (lt→ltb 0 (a + b) l)
    ]
number→le (fin true m e) (fin true n d) p q h =
    let a = m * up e * down d in
    let b = n * up d * down e in
    le→test b a (eqb a b) (λ q. eqb_of a b (sym q)) (omega arith)
number→le nan y p q h = elim p [ ]
number→le (inf _) y p q h = elim p [ ]
number→le (fin false m e) nan p q h = elim q [ ]
number→le (fin false m e) (inf _) p q h = elim q [ ]
number→le (fin true m e) nan p q h = elim q [ ]
number→le (fin true m e) (inf _) p q h = elim q [ ]

-- products multiplied out and sorted
pub ruleset sorted = (add-mul, mul-add, mul_assoc, mul_comm, mul_left_comm)

-- ---- `le` is an order on all floats but NaN
pub le_trans_float : (x y z : Float) → T (le x y) → T (le y z) → T (le x z)
le_trans_float = Floats.le_trans

pub finite_not_nan : (x : Float) → T (finite x) → T (not (is_nan x))
unfolding is_nan
finite_not_nan (fin s m e) p = tt
finite_not_nan nan p = elim p [ ]
finite_not_nan (inf _) p = elim p [ ]

pub le_refl_float : (x : Float) → T (finite x) → T (le x x)
le_refl_float x p = Floats.le_refl x (finite_not_nan x p)

-- of two finite floats one is at most the other
pub le_or : (x y : Float) → T (finite x) → T (finite y) → T (le x y) ⊎ T (le y x)
le_or x y p q = go (le x y) (λ n. Floats.le_of_lt y x (Floats.lt_of_not-le x y (finite_not_nan x p) (finite_not_nan y q) n))
  where
    go : (t : Bool) → (T (not t) → T (le y x)) → T t ⊎ T (le y x)
    go true f = inl tt
    go false f = inr (f tt)

-- not at most is above, as numbers
pub not-le→number : (x y : Float) → T (finite x) → T (finite y) → T (not (le x y)) → plus y * den x + less x * den y < plus x * den y + less y * den x
not-le→number x y p q n =
    let a = plus y * den x + less x * den y in
    let b = plus x * den y + less y * den x in
    go (ltb a b) (ltb→lt a b) (λ t. T_not (le x y) n (number→le x y p q (nltb→le a b t)))
  where
    go : (t : Bool) → (T t → plus y * den x + less x * den y < plus x * den y + less y * den x) → (T (not t) → ⊥)
        → plus y * den x + less x * den y < plus x * den y + less y * den x
    go true f g = f tt
    go false f g = absurd (g tt)

-- ---- `lt`
pub lt→le : (x y : Float) → T (lt x y) → T (le x y)
lt→le = Floats.le_of_lt

-- not below is at least
pub finite_not_lt : (x y : Float) → T (finite x) → T (finite y) → T (not (lt x y)) → T (le y x)
finite_not_lt x y p q = Floats.le_of_not-lt x y (finite_not_nan x p) (finite_not_nan y q)

-- x ≤ y < z, and x < y ≤ z
pub lt_of_le : (x y z : Float) → T (le x y) → T (lt y z) → T (lt x z)
lt_of_le = Floats.lt_of_le_of_lt

pub lt_then_le : (x y z : Float) → T (lt x y) → T (le y z) → T (lt x z)
lt_then_le = Floats.lt_of_lt_of_le

-- below is not at least
pub lt→not-le : (x y : Float) → T (lt x y) → T (le y x) → ⊥
lt→not-le x y h k = Floats.lt_irrefl x (lt_then_le x y x h k)

-- what is at most a finite float and at least another is finite
pub finite_between : (lo x hi : Float) → T (finite lo) → T (finite hi) → T (le lo x) → T (le x hi) → T (finite x)
unfolding le
finite_between (fin s m e) nan hi p q h k = absurd h
finite_between (fin s m e) (inf true) hi p q h k = absurd h
finite_between (fin s m e) (inf false) (fin t n d) p q h k = absurd k
finite_between (fin s m e) (fin t n d) hi p q h k = tt
finite_between nan _ hi p q h k = elim p [ ]
finite_between (inf _) _ hi p q h k = elim p [ ]
finite_between (fin s m e) (inf false) nan p q h k = elim q [ ]
finite_between (fin s m e) (inf false) (inf _) p q h k = elim q [ ]

-- ---- the sign turned
pub neg_finite : (x : Float) → T (finite x) → T (finite (neg x))
unfolding neg
neg_finite (fin s m e) p = tt
neg_finite nan p = elim p [ ]
neg_finite (inf _) p = elim p [ ]

finite_neg_le : (x y : Float) → T (finite x) → T (finite y) → T (le x y) → T (le (neg y) (neg x))
unfolding neg
finite_neg_le (fin true m e) (fin true n d) p q h = number→le (fin false n d) (fin false m e) q p (omega (arith, le→number (fin true m e) (fin true n d) p q h))
finite_neg_le (fin true m e) (fin false n d) p q h = number→le (fin true n d) (fin false m e) q p
    (omega (arith, le→number (fin true m e) (fin false n d) p q h))
finite_neg_le (fin false m e) (fin true n d) p q h = number→le (fin false n d) (fin true m e) q p
    (omega (arith, le→number (fin false m e) (fin true n d) p q h))
finite_neg_le (fin false m e) (fin false n d) p q h = number→le (fin true n d) (fin true m e) q p
    (omega (arith, le→number (fin false m e) (fin false n d) p q h))
finite_neg_le nan y p q h = elim p [ ]
finite_neg_le (inf _) y p q h = elim p [ ]
finite_neg_le (fin false m e) nan p q h = elim q [ ]
finite_neg_le (fin false m e) (inf _) p q h = elim q [ ]
finite_neg_le (fin true m e) nan p q h = elim q [ ]
finite_neg_le (fin true m e) (inf _) p q h = elim q [ ]

pub neg_le : (x y : Float) → T (le x y) → T (le (neg y) (neg x))
unfolding le neg
neg_le nan y h = absurd h
neg_le (inf s) nan h = absurd h
neg_le (inf true) (inf true) h = tt
neg_le (inf true) (inf false) h = tt
neg_le (inf false) (inf true) h = absurd h
neg_le (inf false) (inf false) h = tt
neg_le (inf true) (fin t n d) h = tt
neg_le (inf false) (fin t n d) h = absurd h
neg_le (fin s m e) nan h = absurd h
neg_le (fin s m e) (inf true) h = absurd h
neg_le (fin s m e) (inf false) h = tt
neg_le (fin s m e) (fin t n d) h = finite_neg_le (fin s m e) (fin t n d) tt tt h

odd_neg : (d q k l : ℕ) → odd d true q k l ≡ neg (odd d false q k l)
unfolding odd neg
odd_neg d zero k l = refl
odd_neg d (suc q) k l = refl

units_neg : (q k : ℕ) → units binary32 true q k ≡ neg (units binary32 false q k)
unfolding units
units_neg q k = go (ltb (q * 2 ^ k) (2 ^ (low binary32 + suc (emax binary32))))
  where
    go : (b : Bool) → cond b (odd (suc (prec binary32)) true q k (low binary32)) (inf true) ≡ neg
        (cond b (odd (suc (prec binary32)) false q k (low binary32)) (inf false))
    go true = odd_neg (suc (prec binary32)) q k (low binary32)
    go false = unfold neg in refl

pub round_neg : (n d : ℕ) → round binary32 true n d ≡ neg (round binary32 false n d)
round_neg n d = round_is binary32 true n d ∙ units_neg _ _ ∙ ap neg (sym (round_is binary32 false n d))
