-- What a filter that is a frame ahead gives and keeps: laws over plain values. Assumes nothing.
use mathlib.Core.Path.{◌≡◌, ◌∙◌, ap}
use mathlib.Core.Bool.{Bool, false, cond}
use mathlib.Core.List.{List}
use Prim.Native.Nat.{ℕ, ◌≤◌, ◌<◌}
use borrow.Author.Tests.{lt-ltb, le-ltb}
use lib.ListN.{length, get_or}
use lib.Ieee.{Float, nan}
use Rattle.ground.specs.F32.{c0}
use Rattle.noise.specs.declared.ahead.Passed.{Passed}
use Rattle.noise.specs.Ahead.{pass_compared_of, ahead_of, ahead_compared_of}

module _ {F : Type 0} (step : F → Float → F × Float) (same : F → F → Bool) (f : F) (xs : List Float) (i : ℕ)
    {o : Passed F} (e : o ≡ ahead_compared_of step same f xs i) where
  -- within the block it is the filter's step there
  pub ahead_compared_step : i < length xs → ◌≡◌ {A = F × Float} (o.filter, o.out) (step f (get_or xs i nan))
  unfolding ahead_compared_of
  ahead_compared_step l =
      ap (λ (o : Passed F). (o.filter, o.out)) e
      ∙ ap (λ (b : Bool). let p : Passed F = cond b (pass_compared_of step same f (get_or xs i nan)) (record { filter = f; out = c0; stands = false }) in
      (p.filter, p.out))
      (lt-ltb i (length xs) l)

  -- past its end it stands
  pub ahead_compared_end : length xs ≤ i → o.filter ≡ f
  unfolding ahead_compared_of
  ahead_compared_end l =
      ap (λ (o : Passed F). o.filter) e
      ∙ ap (λ (b : Bool). let p : Passed F = cond b (pass_compared_of step same f (get_or xs i nan)) (record { filter = f; out = c0; stands = false }) in p.filter)
      (le-ltb i (length xs) l)

-- the same where no two filters are compared
module _ {F : Type 0} (step : F → Float → F × Float) (f : F) (xs : List Float) (i : ℕ) {o : Passed F} (e : o ≡ ahead_of step f xs i) where
  pub ahead_step : i < length xs → ◌≡◌ {A = F × Float} (o.filter, o.out) (step f (get_or xs i nan))
  unfolding ahead_of ahead_compared_of
  ahead_step = ahead_compared_step step (λ _ _. false) f xs i e

  pub ahead_end : length xs ≤ i → o.filter ≡ f
  unfolding ahead_of ahead_compared_of
  ahead_end = ahead_compared_end step (λ _ _. false) f xs i e
