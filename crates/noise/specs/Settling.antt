-- A filter over a block, at any filter: its step gives the filter after a sample and what it gave. Assumes nothing.
use Rattle.std.specs.Prelude.{◌≡◌, ℕ, zero, suc, ◌+◌, ◌-◌, ◌≤◌, ◌<◌, min, List, ◌++◌, drop, length, get_or, Float}
use Rattle.std.specs.Float.{nan}
use Rattle.ground.specs.F32.{c0}
use Rattle.ground.specs.Frames.{scan, tab}
use Rattle.noise.specs.declared.settling.Settled.{Settled}

-- from the frame m on a block is silent
abbrev pub SilentFrom : ℕ → List Float → Type 0
SilentFrom m xs = (k : ℕ) → m ≤ k → k < length xs → get_or xs k nan ≡ c0

module _ {F : Type 0} (step : F → Float → F × Float) where
  -- the filter over the frames that both blocks have, and what it gives
  abbrev pub filtered : F → List Float → List Float → F × List Float
  filtered = scan (λ f x y. step f x)

  -- the filter before the frame i, and what it gives there
  abbrev pub before : F → List Float → ℕ → F
  before f xs zero = f
  before f xs (suc i) = (step (before f xs i) (get_or xs i nan)).0

  abbrev pub given : F → List Float → ℕ → Float
  given f xs i = (step (before f xs i) (get_or xs i nan)).1

  -- the filter after a frame of silence
  abbrev pub quiet : F → F
  quiet f = (step f c0).0

  -- a filter that has come as far as r says: what it gave, and that before the block's end it is what it was a period before, in silence
  pub record Settles (f : F) (xs : List Float) (m : ℕ) (ys : List Float) (r : Settled F) (zs : List Float) : Type 0 where
    pub within : r.frame ≤ min (length xs) (length ys)
    pub turns : 0 < r.period
    pub filter : r.filter ≡ before f xs r.frame
    pub so_far : zs ≡ tab r.frame (given f xs) ++ drop r.frame ys
    pub silent : r.frame < min (length xs) (length ys) → m + r.period ≤ r.frame
    pub round : r.frame < min (length xs) (length ys) → before f xs r.frame ≡ before f xs (r.frame - r.period)
