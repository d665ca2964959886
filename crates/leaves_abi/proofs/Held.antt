-- What a call over a struct leaves in its list. Assumes nothing.
use mathlib.Core.Path.{◌≡◌, refl, sym, ◌∙◌, ap}
use mathlib.Core.Bool.{Bool, true, false, cond}
use Rattle.std.proofs.Common.{true≢false}
use native.Mathlib.Omega.{arith}
use mathlib.Core.List.{List, [], ◌∷◌}
use Prim.Native.Nat.{ℕ}
use borrow.Author.Tests.{ne_eqb}
use lib.Dec.{eqb}
use lib.Seq.{set-get_or}
use lib.ListN.{length, get_or, set}
use Rattle.std.specs.Prelude.{Option, Some, None, is_some, unwrap_or}
use Rattle.leaves_abi.specs.Rows.{Fields, number_row, from_fields, into, on_fields, changed}

module _ {X A : Type 0} (row : Fields X A) (xs : List X) where
  module _ {R : Type 0} (none : R) (f : A → A × R) where
    by_some : (t : Bool) (a x : A) → Some a ≡ cond t (Some x) None
        → ◌≡◌ {A = R × List X} (cond t ((f x).1, row.to (f x).0) (none, xs)) ((f a).1, (cond {A = Unit {0} × List X} t (tt, row.to (f a).0) (tt, xs)).1)
    by_some true a x e = ap (λ (y : A). ((f y).1, row.to (f y).0)) (sym (ap (λ (o : Option A). unwrap_or o a) e))
    by_some false a x e = absurd (true≢false (ap is_some e))

    by_none : (t : Bool) (x : A) → None ≡ cond t (Some x) None → ◌≡◌ {A = R × List X} (cond t ((f x).1, row.to (f x).0) (none, xs)) (none, xs)
    by_none true x e = absurd (true≢false (sym (ap is_some e)))
    by_none false x e = refl

    over_some : (a : A) → Some a ≡ from_fields row xs → on_fields row none f xs ≡ ((f a).1, into row (f a).0 xs)
    unfolding from_fields on_fields
    over_some a e = by_some (eqb (length xs) row.count) a (row.from xs) e

    pub over_none : None ≡ from_fields row xs → on_fields row none f xs ≡ (none, xs)
    unfolding from_fields on_fields
    over_none e = by_none (eqb (length xs) row.count) (row.from xs) e

    -- a call that finds the struct a
    pub crossed : {o : Option A} {a : A} (q : A × R) {ys : List X} → o ≡ Some a → o ≡ from_fields row xs → q ≡ f a → ys ≡ into row q.0 xs
        → (q.1, ys) ≡ on_fields row none f xs
    crossed {a = a} q s h e i = ap (λ (zs : List X). (q.1, zs)) i ∙ ap (λ (p : A × R). (p.1, into row p.0 xs)) e ∙ sym (over_some a (sym s ∙ h))

  module _ (f : A → A) where
    moved_some : (a : A) → Some a ≡ from_fields row xs → changed row f xs ≡ into row (f a) xs
    moved_some a e = ap (λ (q : Unit {0} × List X). q.1) (over_some (tt {0}) (λ (b : A). (f b, tt {0})) a e)

    pub moved_none : None ≡ from_fields row xs → changed row f xs ≡ xs
    moved_none e = ap (λ (q : Unit {0} × List X). q.1) (over_none (tt {0}) (λ (b : A). (f b, tt {0})) e)

    -- a call that finds the struct a
    pub stepped : {o : Option A} {a : A} (b : A) {ys : List X} → o ≡ Some a → o ≡ from_fields row xs → b ≡ f a → ys ≡ into row b xs → ys ≡ changed row f xs
    stepped {a = a} b s h e i = i ∙ ap (λ (d : A). into row d xs) e ∙ sym (moved_some a (sym s ∙ h))

-- ---- a number alone

-- written again it stays
pub one_kept : (xs : List ℕ) → set xs 0 (get_or xs 0 0) ≡ xs
one_kept xs = set-get_or xs 0 0

module _ {R : Type 0} (none : R) (f : ℕ → ℕ × R) where
  pub over_one : (xs : List ℕ) → length xs ≡ 1 → on_fields number_row none f xs ≡ ((f (get_or xs 0 0)).1, set xs 0 (f (get_or xs 0 0)).0)
  unfolding on_fields number_row
  over_one [] e = absurd (omega (arith, e))
  over_one (x ∷ []) e = refl
  over_one (x ∷ (y ∷ ys)) e = absurd (omega (arith, e))

  pub over_other : (xs : List ℕ) → (length xs ≡ 1 → ⊥) → on_fields number_row none f xs ≡ (none, xs)
  unfolding on_fields number_row
  over_other xs e = rw (ne_eqb (length xs) 1 e) refl
