-- A filter a frame ahead of what it feeds, at any filter: its step gives the filter after a sample and what it gave. Assumes nothing.
use Rattle.std.specs.Prelude.{◌≡◌, Bool, true, false, cond, List, ℕ, ltb, length, get_or, Float}
use Rattle.std.specs.Float.{nan}
use Rattle.ground.specs.F32.{c0}
use Rattle.noise.specs.declared.ahead.Passed.{Passed}

module _ {F : Type 0} (step : F → Float → F × Float) (same : F → F → Bool) where
  -- a sample through the filter, with whether the filter stands
  abbrev pub pass_compared_of : F → Float → Passed F
  pass_compared_of f x = let u = step f x in record { filter = u.0; out = u.1; stands = same f u.0 }

  -- a filter that stands makes the same of the same sample
  abbrev pub Stays : Passed F → Float → Type 0
  Stays o x = o.stands ≡ true → pass_compared_of o.filter x ≡ o

  -- the filter past the frame i; past the last it stands as it is
  unfoldable pub ahead_compared_of : F → List Float → ℕ → Passed F
  ahead_compared_of f xs i = cond (ltb i (length xs)) (pass_compared_of f (get_or xs i nan)) (record { filter = f; out = c0; stands = false })

-- the same where no two filters are compared
module _ {F : Type 0} (step : F → Float → F × Float) where
  abbrev pub pass_of : F → Float → Passed F
  pass_of f x = let u = step f x in record { filter = u.0; out = u.1; stands = false }

  unfoldable pub ahead_of : F → List Float → ℕ → Passed F
  ahead_of f xs i = cond (ltb i (length xs)) (pass_of f (get_or xs i nan)) (record { filter = f; out = c0; stands = false })
