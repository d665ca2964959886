-- What the calls of `process` ensure, put together, and what a block of the string keeps and draws. Assumes nothing.
use mathlib.Core.Path.{◌≡◌, refl, sym, ap, ◌∙◌}
use mathlib.Core.List.{List}
use Prim.Native.Nat.{ℕ, min}
use lib.ListN.{length}
use lib.Ieee.{Float}
use Rattle.ground.specs.Draw.{run, Ran, counted}
use Rattle.ground.specs.Frames.{frames}
use Rattle.ground.proofs.Draw.{Draws}
use Rattle.ground.proofs.Frames.{after, drawn}
use Rattle.waveguide.specs.declared.string.StringNonLinearity.{StringNonLinearity}
use Rattle.waveguide.specs.declared.string.Prepared.{Prepared}
use Rattle.waveguide.specs.declared.string.Damping.{Damping}
use Rattle.waveguide.specs.declared.string.String.{String}
use Rattle.waveguide.specs.String.{amount_of, ratio_of, snap, damping_of, params_of, tune, prepare, frame, process}
use Rattle.waveguide.specs.Kept.{Good, words_at}
use Rattle.waveguide.proofs.Steps.{wrap, At, frames_draw}

tuned_good : (s : String) (f0 : Float) (d : Damping) (lines : List Float) (t : String) → t ≡ tune s f0 d → Good (s, lines) → Good (t, lines)
unfolding tune
tuned_good s f0 d lines t e g = rw e (record { size = g.size; string = g.string; stretch = g.stretch })

pub prepared_good : (shape : StringNonLinearity) (f0 brightness damping : Float) (n : ℕ) (s : String) (lines : List Float) (b : Prepared)
    → b ≡ prepare s shape f0 brightness damping n
    → Good (s, lines) → Good (b.string, lines)
unfolding prepare
prepared_good shape f0 brightness damping n s lines b e g =
    tuned_good s f0 (damping_of f0 brightness damping) lines b.string (ap (λ (b : Prepared). b.string) e) g

module _ (shape : StringNonLinearity) (f0 brightness damping : Float) (s : String) (lines xs ys : List Float) (word : ℕ) where
  pub processed : {b : Prepared} {r : Ran (((String × List Float) × List Float) × ℕ)} → b ≡ prepare s shape f0 brightness damping (length ys)
      → run (counted (frames (frame b.block.shape b.block.params) (b.string, lines) xs ys)) word ≡ r
      → run (counted (process shape f0 brightness damping (s, lines) xs ys)) word ≡ r
  unfolding process
  processed eb e = ap (λ (b : Prepared). run (counted (frames (frame b.block.shape b.block.params) (b.string, lines) xs ys)) word) (sym eb) ∙ e

-- a block of n frames: the words that its steps draw, the phase behind it, and the output's length
abbrev pub ratio_for : Float → Float
ratio_for f0 = snap (ratio_of f0) (ratio_of f0)

pub strung_draws : (shape : StringNonLinearity) (f0 brightness damping : Float) (n : ℕ) (s : String × List Float) (xs ys : List Float)
    → n ≡ min (length xs) (length ys) → Good s
    → Draws (drawn (wrap (ratio_for f0)) (words_at shape (ratio_for f0)) n (snap (ratio_of f0) s.0.src_phase))
    (λ q. At (after (wrap (ratio_for f0)) n (snap (ratio_of f0) s.0.src_phase)) q.0 × (length q.1 ≡ length ys))
    (process shape f0 brightness damping s xs ys)
unfolding process prepare params_of tune
strung_draws shape f0 brightness damping n s xs ys e g =
    let d = damping_of f0 brightness damping in
    frames_draw shape (params_of s.0 f0 (amount_of shape) d (length ys)) n (tune s.0 f0 d, s.1) xs ys e
    (tuned_good s.0 f0 d s.1 (tune s.0 f0 d) refl g)
