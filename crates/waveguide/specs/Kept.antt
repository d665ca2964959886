-- What a block of the string keeps, and how many words it draws. Assumes nothing.
use Rattle.std.specs.Prelude.{◌≡◌, cond, List, ℕ, zero, suc, ◌+◌, ◌<◌, min, length, Float}
use Rattle.std.specs.Float.Ieee.{lt}
use Rattle.ground.specs.F32.{◌⊕◌, ◌⊖◌, c1}
use Rattle.ground.specs.Draw.{value}
use Rattle.ground.specs.Frames.{after}
use Rattle.waveguide.specs.declared.string.StringNonLinearity.{StringNonLinearity}
use Rattle.waveguide.specs.declared.string.StringNonLinearity.TheVariants.{CurvedBridge, Dispersion}
use Rattle.waveguide.specs.declared.string.String.{String}
use Rattle.waveguide.specs.String.{prepare, process}

-- what a string's state and its lines always are
pub record Good (s : String × List Float) : Type 0 where
  pub size : length s.1 ≡ 1280
  pub string : s.0.string < 1024
  pub stretch : s.0.stretch < 256

-- the words that a step draws: one by the dispersion, none by the bridge
abbrev pub words_of : StringNonLinearity → ℕ
words_of (CurvedBridge a) = 0
words_of (Dispersion a) = 1

-- the words of a frame at a phase
abbrev pub words_at : StringNonLinearity → Float → Float → ℕ
words_at shape ratio phase = cond (lt c1 (phase ⊕ ratio)) (words_of shape) 0

-- the string steps of n frames from a phase on
unfoldable pub steps : Float → ℕ → Float → ℕ
steps ratio zero phase = 0
steps ratio (suc n) phase = let q = phase ⊕ ratio in cond (lt c1 q) 1 0 + steps ratio n (cond (lt c1 q) (q ⊖ c1) q)

-- 01 'Filters, lines and tables': the kept delay is the old delay with each increment actually taken added in turn, never the target
unfoldable pub KeptDelay : Type 0
KeptDelay = (shape : StringNonLinearity) (f0 brightness damping : Float) (s : String × List Float) (xs ys : List Float) (word : ℕ)
    → let b = prepare s.0 shape f0 brightness damping (length ys) in
    (value (process shape f0 brightness damping s xs ys) word).0.0.delay
    ≡ after (λ d. d ⊕ b.block.params.increment) (steps b.block.params.src_ratio (min (length xs) (length ys)) b.string.src_phase) s.0.delay
