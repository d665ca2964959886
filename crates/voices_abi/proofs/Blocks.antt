-- Blocks of a voice: how they begin, go on and end, and what fitting sizes are. Assumes nothing.
use mathlib.Core.Path.{◌≡◌, refl, ap, ◌∙◌}
use mathlib.Core.Bool.{true, ◌&&◌}
use Prim.Native.Nat.{ℕ, ◌+◌, ◌≤◌, ◌<◌}
use native.Mathlib.Numerals.{add-one}
use native.Mathlib.Omega.{arith}
use borrow.Author.Tests.{eqb-true, ltb-true}
use lib.Dec.{eqb, ltb}
use Rattle.ground.specs.Draw.{Draw, run}
use Rattle.ground.proofs.Bools.{and_true}
use Rattle.ground.proofs.Draw.{run_then, Always, always_run}
use Rattle.voices_abi.specs.Blocks.{times, alike_sizes}

-- i of n blocks are done, and what every block keeps holds
pub record Done {A : Type 0} (step : A → Draw A) (P : A → Type 0) (n : ℕ) (a₀ : A) (w₀ i : ℕ) (a : A) (w : ℕ) : Type 0 where
  pub within : i ≤ n
  pub kept : P a
  pub so_far : run (times i step a₀) w₀ ≡ record { value = a; word = w }

module _ {A : Type 0} (step : A → Draw A) (P : A → Type 0) (n : ℕ) where
  pub begin : (a : A) (w : ℕ) → P a → Done step P n a w 0 a w
  begin a w h = record { within = omega arith; kept = h; so_far = refl }

  pub turn : ((a : A) → P a → Always P (step a)) → (a₀ : A) (w₀ i : ℕ) (a b : A) (w v : ℕ) → Done step P n a₀ w₀ i a w → i < n
      → run (step a) w ≡ record { value = b; word = v } → Done step P n a₀ w₀ (i + 1) b v
  turn keeps a₀ w₀ i a b w v d l e =
      record {
        within = omega arith;
        kept = always_run P (step a) w (keeps a d.kept) e;
        so_far = ap (λ (j : ℕ). run (times j step a₀) w₀) (add-one i) ∙ run_then (times i step a₀) step w₀ d.so_far ∙ e;
      }

  pub end : (a₀ : A) (w₀ i : ℕ) (a : A) (w : ℕ) → Done step P n a₀ w₀ i a w → n ≤ i → run (times n step a₀) w₀ ≡ record { value = a; word = w }
  end a₀ w₀ i a w d l = let m : i ≡ n = omega (arith, d.within) in rw m at d.so_far

-- ---- fitting sizes
pub record Alike (temp temp2 out aux : ℕ) : Type 0 where
  pub temp_is : temp ≡ out
  pub temp2_is : temp2 ≡ out
  pub aux_is : aux ≡ out
  pub small : out ≤ 4096

pub alike : (temp temp2 out aux : ℕ) → alike_sizes temp temp2 out aux ≡ true → Alike temp temp2 out aux
alike temp temp2 out aux e =
    let q₃ = and_true (eqb temp out && eqb temp2 out && eqb aux out) (ltb out 4097) e in
    let q₂ = and_true (eqb temp out && eqb temp2 out) (eqb aux out) q₃.0 in
    let q₁ = and_true (eqb temp out) (eqb temp2 out) q₂.0 in
    record {
      temp_is = eqb-true temp out q₁.0;
      temp2_is = eqb-true temp2 out q₁.1;
      aux_is = eqb-true aux out q₂.1;
      small = omega (arith, ltb-true out 4097 q₃.1);
    }
