-- Bounds carried through an expression, a line for each operation: `let p = mul_in q r l h tt in`. q and r bound the operands, l and h are ends for the
-- product that the writer chooses, and `tt` is a test on constants that computes, under `unfolding encloses`, and `of_bits` for constants by their bits.
-- Assumes nothing.
use mathlib.Core.Logic.{inl, inr}
use mathlib.Core.Bool.{Bool, true, false, not, ◌&&◌, cond}
use mathlib.Core.List.{List, [], ◌∷◌}
use Prim.Native.Nat.{ℕ}
use lib.Dec.{T}
use lib.IntN.{pos, negsuc}
use lib.Ieee.{Float, fin, neg, lt, le, is_nan, add, sub, mul, div}
use lib.Ieee.Scale.{finite}
use lib.Ieee.Positive.{positive, between}
use Rattle.ground.specs.F32.{◌⊕◌, ◌⊖◌, ◌⊗◌, ◌⊘◌}
use Rattle.ground.specs.Floats.{min_f, clamp_f}
use Rattle.std.proofs.lemmas.Float.{le_of_not-lt, le_right}
use Rattle.bounds.proofs.Order.{zero_f, and_true, le_refl_float, le_trans_float, le_or, finite_between, neg_le, neg_finite, lt→le, finite_not_nan}
use Rattle.bounds.proofs.Monotone.{add_mono, sub_mono, mul_le, mul_ge, mul_comm_float, div_le, div_ge, div_up}

-- ---- ends that are written short: n, -n, and m / 2 ^ (k + 1)
abbrev pub int : ℕ → Float
int n = fin false n (pos 0)

abbrev pub minus : ℕ → Float
minus n = fin true n (pos 0)

abbrev pub part : ℕ → ℕ → Float
part m k = fin false m (negsuc k)

-- ---- x lies between two finite ends, so it is no NaN and no infinity
pub record Between (lo x hi : Float) : Type 0 where
  pub low_finite : T (finite lo)
  pub high_finite : T (finite hi)
  pub least : T (le lo x)
  pub most : T (le x hi)

-- ---- whether l and h are ends for a result whose operands lie between a and b, and between c and d: every operation of an end on an end lies inside
pub data Op : Type 0 where
  sum difference product quotient : Op

abbrev pub apply : Op → Float → Float → Float
apply sum x y = x ⊕ y
apply difference x y = x ⊖ y
apply product x y = x ⊗ y
apply quotient x y = x ⊘ y

-- a divisor's ends are above zero
abbrev pub divides : Op → Float → Float → Bool
divides sum c d = true
divides difference c d = true
divides product c d = true
divides quotient c d = positive c && positive d

unfoldable pub inside : (l x h : Float) → Bool
unfolding le
inside l x h = finite l && finite h && (le l x && le x h)

unfoldable pub encloses : Op → (a b c d l h : Float) → Bool
unfolding inside add sub mul div
encloses o a b c d l h = divides o c d && (inside l (apply o a c) h && (inside l (apply o a d) h && (inside l (apply o b c) h && inside l (apply o b d) h)))

-- ---- what a test says
pub in_test : (l x h : Float) → T (inside l x h) → Between l x h
unfolding inside
in_test l x h t =
    let p = and_true (finite l && finite h) (le l x && le x h) t in
    let q = and_true (finite l) (finite h) p.0 in
    let r = and_true (le l x) (le x h) p.1 in
    record { low_finite = q.0; high_finite = q.1; least = r.0; most = r.1 }

record Corners (o : Op) (a b c d l h : Float) : Type 0 where
  divisor : T (divides o c d)
  ac : Between l (apply o a c) h
  ad : Between l (apply o a d) h
  bc : Between l (apply o b c) h
  bd : Between l (apply o b d) h

corners : (o : Op) (a b c d l h : Float) → T (encloses o a b c d l h) → Corners o a b c d l h
unfolding encloses
corners o a b c d l h t =
    let ac = inside l (apply o a c) h in
    let ad = inside l (apply o a d) h in
    let bc = inside l (apply o b c) h in
    let bd = inside l (apply o b d) h in
    let p = and_true (divides o c d) (ac && (ad && (bc && bd))) t in
    let q = and_true ac (ad && (bc && bd)) p.1 in
    let r = and_true ad (bc && bd) q.1 in
    let s = and_true bc bd r.1 in
    record {
      divisor = p.0;
      ac = in_test l (apply o a c) h q.0;
      ad = in_test l (apply o a d) h r.0;
      bc = in_test l (apply o b c) h s.0;
      bd = in_test l (apply o b d) h s.1;
    }

-- ---- from and to bounds
-- two comparisons with finite floats
pub is_in : (lo x hi : Float) → T (finite lo) → T (finite hi) → T (le lo x) → T (le x hi) → Between lo x hi
is_in lo x hi p q h k = record { low_finite = p; high_finite = q; least = h; most = k }

pub finite_in : {lo x hi : Float} → Between lo x hi → T (finite x)
finite_in {lo} {x} {hi} p = finite_between lo x hi p.low_finite p.high_finite p.least p.most

-- a constant
pub const_in : (c : Float) → T (finite c) → Between c c c
const_in c p = record { low_finite = p; high_finite = p; least = le_refl_float c p; most = le_refl_float c p }

-- other ends: those of x lie inside the new ones
pub widen : {a x b : Float} → Between a x b → (l h : Float) → T (inside l a h) → T (inside l b h) → Between l x h
widen {a} {x} {b} p l h s t =
    let q = in_test l a h s in
    let r = in_test l b h t in
    record { low_finite = q.low_finite; high_finite = q.high_finite; least = le_trans_float l a x q.least p.least; most = le_trans_float x b h p.most r.most }

-- ---- the operations
pub neg_in : {a x b : Float} → Between a x b → Between (neg b) (neg x) (neg a)
neg_in {a} {x} {b} p = record {
  low_finite = neg_finite b p.high_finite;
  high_finite = neg_finite a p.low_finite;
  least = neg_le x b p.most;
  most = neg_le a x p.least;
}

module _ {a x b c y d : Float} (p : Between a x b) (q : Between c y d) (l h : Float) where
  pub add_in : T (encloses sum a b c d l h) → Between l (x ⊕ y) h
  add_in t =
      let k = corners sum a b c d l h t in
      record {
        low_finite = k.ac.low_finite;
        high_finite = k.ac.high_finite;
        least = le_trans_float l (a ⊕ c) (x ⊕ y) k.ac.least (add_mono a x c y p.low_finite (finite_in p) q.low_finite (finite_in q) p.least q.least);
        most = le_trans_float (x ⊕ y) (b ⊕ d) h (add_mono x b y d (finite_in p) p.high_finite (finite_in q) q.high_finite p.most q.most) k.bd.most;
      }

  pub sub_in : T (encloses difference a b c d l h) → Between l (x ⊖ y) h
  sub_in t =
      let k = corners difference a b c d l h t in
      record {
        low_finite = k.ac.low_finite;
        high_finite = k.ac.high_finite;
        least = le_trans_float l (a ⊖ d) (x ⊖ y) k.ad.least (sub_mono a x d y p.low_finite (finite_in p) q.high_finite (finite_in q) p.least q.most);
        most = le_trans_float (x ⊖ y) (b ⊖ c) h (sub_mono x b y c (finite_in p) p.high_finite (finite_in q) q.low_finite p.most q.least) k.bc.most;
      }

  -- x ⊗ y against the products of ends: by the sign of y, then by that of the end of x
  mul_below : (z e : Float) → T (finite e) → T (le (z ⊗ y) (e ⊗ y)) → T (le (e ⊗ c) h) → T (le (e ⊗ d) h) → T (le (z ⊗ y) h)
  mul_below z e f k s t =
      elim (le_or zero_f e tt f) [
        | inl n ↦ le_trans_float (z ⊗ y) (e ⊗ y) h k (le_trans_float (e ⊗ y) (e ⊗ d) h
            (rw (mul_comm_float e y, mul_comm_float e d) (mul_le y d e (finite_in q) q.high_finite f n q.most)) t)
        | inr n ↦ le_trans_float (z ⊗ y) (e ⊗ y) h k (le_trans_float (e ⊗ y) (e ⊗ c) h
            (rw (mul_comm_float e y, mul_comm_float e c) (mul_ge c y e q.low_finite (finite_in q) f n q.least)) s)
      ]

  mul_above : (z e : Float) → T (finite e) → T (le (e ⊗ y) (z ⊗ y)) → T (le l (e ⊗ c)) → T (le l (e ⊗ d)) → T (le l (z ⊗ y))
  mul_above z e f k s t =
      elim (le_or zero_f e tt f) [
        | inl n ↦ le_trans_float l (e ⊗ y) (z ⊗ y) (le_trans_float l (e ⊗ c) (e ⊗ y) s
            (rw (mul_comm_float e y, mul_comm_float e c) (mul_le c y e q.low_finite (finite_in q) f n q.least))) k
        | inr n ↦ le_trans_float l (e ⊗ y) (z ⊗ y) (le_trans_float l (e ⊗ d) (e ⊗ y) t
            (rw (mul_comm_float e y, mul_comm_float e d) (mul_ge y d e (finite_in q) q.high_finite f n q.most))) k
      ]

  pub mul_in : T (encloses product a b c d l h) → Between l (x ⊗ y) h
  mul_in t =
      let k = corners product a b c d l h t in
      elim (le_or zero_f y tt (finite_in q)) [
        | inl n ↦ record {
          low_finite = k.ac.low_finite;
          high_finite = k.ac.high_finite;
          least = mul_above x a p.low_finite (mul_le a x y p.low_finite (finite_in p) (finite_in q) n p.least) k.ac.least k.ad.least;
          most = mul_below x b p.high_finite (mul_le x b y (finite_in p) p.high_finite (finite_in q) n p.most) k.bc.most k.bd.most;
        }
        | inr n ↦ record {
          low_finite = k.ac.low_finite;
          high_finite = k.ac.high_finite;
          least = mul_above x b p.high_finite (mul_ge x b y (finite_in p) p.high_finite (finite_in q) n p.most) k.bc.least k.bd.least;
          most = mul_below x a p.low_finite (mul_ge a x y p.low_finite (finite_in p) (finite_in q) n p.least) k.ac.most k.ad.most;
        }
      ]

  -- the divisor's ends are above zero
  pub div_in : T (encloses quotient a b c d l h) → Between l (x ⊘ y) h
  div_in t =
      let k = corners quotient a b c d l h t in
      let c₀ = (and_true (positive c) (positive d) k.divisor).0 in
      let d₀ = (and_true (positive c) (positive d) k.divisor).1 in
      let y₀ = between c y d c₀ d₀ q.least q.most in
      record {
        low_finite = k.ac.low_finite;
        high_finite = k.ac.high_finite;
        least =
            le_trans_float l (a ⊘ y) (x ⊘ y)
            (elim (le_or zero_f a tt p.low_finite) [
              | inl n ↦ le_trans_float l (a ⊘ d) (a ⊘ y) k.ad.least (div_ge a y d p.low_finite n y₀ d₀ q.most)
              | inr n ↦ le_trans_float l (a ⊘ c) (a ⊘ y) k.ac.least (div_up a c y p.low_finite n c₀ y₀ q.least)
            ])
            (div_le a x y p.low_finite (finite_in p) y₀ p.least);
        most =
            le_trans_float (x ⊘ y) (b ⊘ y) h (div_le x b y (finite_in p) p.high_finite y₀ p.most)
            (elim (le_or zero_f b tt p.high_finite) [
              | inl n ↦ le_trans_float (b ⊘ y) (b ⊘ c) h (div_ge b c y p.high_finite n c₀ y₀ q.least) k.bc.most
              | inr n ↦ le_trans_float (b ⊘ y) (b ⊘ d) h (div_up b y d p.high_finite n y₀ d₀ q.most) k.bd.most
            ]);
      }

-- ---- choices
pub cond_in : {l x y h : Float} (t : Bool) → (T t → Between l x h) → (T (not t) → Between l y h) → Between l (cond t x y) h
cond_in true p q = p tt
cond_in false p q = q tt

pub min_in : {l x b y h : Float} → Between l x b → Between l y h → Between l (min_f x y) h
unfolding min_f
min_in {l} {x} {b} {y} {h} p q = go (lt x y) (lt→le x y) (is_nan y) (finite_not_nan y (finite_in q))
  where
    go : (t : Bool) → (T t → T (le x y)) → (n : Bool) → T (not n) → Between l (cond t x (cond n x y)) h
    go true f n z = record { low_finite = q.low_finite; high_finite = q.high_finite; least = p.least; most = le_trans_float x y h (f tt) q.most }
    go false f true z = absurd z
    go false f false z = q

-- whatever is held, but a NaN
pub clamp_in : (x lo hi : Float) → T (not (is_nan x)) → T (inside lo lo hi) → Between lo (clamp_f x lo hi) hi
unfolding clamp_f
clamp_in x lo hi p t =
    let y = cond (lt x lo) lo x in
    let h = first (lt x lo) (le_of_not-lt x lo p (finite_not_nan lo ends.low_finite)) in
    second y h (lt hi y) (le_of_not-lt hi y (finite_not_nan hi ends.high_finite) (le_right lo y h))
  where
    ends : Between lo lo hi
    ends = in_test lo lo hi t

    first : (s : Bool) → (T (not s) → T (le lo x)) → T (le lo (cond s lo x))
    first true f = ends.least
    first false f = f tt

    second : (y : Float) → T (le lo y) → (s : Bool) → (T (not s) → T (le y hi)) → Between lo (cond s hi y) hi
    second y h true f = record { low_finite = ends.low_finite; high_finite = ends.high_finite; least = ends.most; most = le_refl_float hi ends.high_finite }
    second y h false f = record { low_finite = ends.low_finite; high_finite = ends.high_finite; least = h; most = f tt }

-- what is held is at most what bounds it and the lower end
pub clamp_most : (x lo hi h : Float) → T (le x h) → T (le lo h) → T (le (clamp_f x lo hi) h)
unfolding clamp_f
clamp_most x lo hi h p q =
    let y = cond (lt x lo) lo x in
    let k = first (lt x lo) in
    second y k (lt hi y) (lt→le hi y)
  where
    first : (s : Bool) → T (le (cond s lo x) h)
    first true = q
    first false = p

    second : (y : Float) → T (le y h) → (s : Bool) → (T s → T (le hi y)) → T (le (cond s hi y) h)
    second y k true f = le_trans_float hi y h (f tt) k
    second y k false f = k

-- ---- a bound that no one line gives, because an operand comes twice: the range cut into pieces, on each of which a test passes
abbrev pub steps : (Float → Float → Bool) → Float → List Float → Bool
steps t c [] = false
steps t c (d ∷ []) = t c d
steps t c (d ∷ e ∷ es) = finite d && (t c d && steps t d (e ∷ es))

abbrev pub final : Float → List Float → Float
final c [] = c
final c (d ∷ ds) = final d ds

pub record Piece (t : Float → Float → Bool) (x : Float) : Type 0 where
  pub from : Float
  pub to : Float
  pub bound : Between from x to
  pub passes : T (t from to)

pub piece : (t : Float → Float → Bool) (c : Float) (ds : List Float) (x : Float) → Between c x (final c ds) → T (steps t c ds) → Piece t x
piece t c [] x p s = absurd s
piece t c (d ∷ []) x p s = record { from = c; to = d; bound = p; passes = s }
piece t c (d ∷ e ∷ es) x p s =
    let u = and_true (finite d) (t c d && steps t d (e ∷ es)) s in
    let v = and_true (t c d) (steps t d (e ∷ es)) u.1 in
    elim (le_or x d (finite_in p) u.0) [
      | inl h ↦ record { from = c; to = d; bound = record { low_finite = p.low_finite; high_finite = u.0; least = p.least; most = h }; passes = v.0 }
      | inr h ↦ piece t d (e ∷ es) x (record { low_finite = u.0; high_finite = p.high_finite; least = h; most = p.most }) v.1
    ]
