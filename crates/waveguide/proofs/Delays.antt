-- The delay that a block keeps: each increment that a string step takes is added in turn. Assumes nothing.
use mathlib.Core.Path.{◌≡◌, refl, ◌∙◌, ap, subst}
use mathlib.Core.Bool.{Bool, true, false, cond}
use mathlib.Core.List.{List}
use Prim.Native.Nat.{ℕ, zero, suc, ◌+◌, min}
use native.Mathlib.Omega.{arith}
use lib.ListN.{length}
use lib.Ieee.{Float, lt}
use Rattle.ground.specs.F32.{◌⊕◌, ◌⊖◌, c1}
use Rattle.ground.specs.Draw.{Draw, ret}
use Rattle.ground.specs.Frames.{frames}
use Rattle.ground.proofs.Draw.{Always, always_run, always_bind}
use Rattle.ground.proofs.Frames.{Any, always_any, after, frames_after}
use Rattle.waveguide.specs.declared.string.StringNonLinearity.{StringNonLinearity}
use Rattle.waveguide.specs.declared.string.Params.{Params}
use Rattle.waveguide.specs.declared.string.String.{String}
use Rattle.waveguide.specs.String.{amount_of, damping_of, params_of, ratio_of, snap, tune, prepare, bend, step, advance, frame, process}
use Rattle.waveguide.specs.Kept.{steps, KeptDelay}
use Rattle.waveguide.proofs.Steps.{wrap}

step_keeps : (shape : StringNonLinearity) (p : Params) (x : Float) (s : String × List Float)
    → Always (λ t. (t.0.src_phase ≡ s.0.src_phase) × (t.0.delay ≡ s.0.delay ⊕ p.increment)) (step shape p x s)
unfolding step
step_keeps shape p x s =
    let m = bend shape p (s.0.delay ⊕ p.increment) s.0.dispersion_noise s.0.curved_bridge in
    always_bind Any _ m _ (always_any m) (λ b _. (refl, refl))

-- the phase and the delay at the next frame
abbrev onward : Params → Float × Float → Float × Float
onward p g = (wrap p.src_ratio g.0, cond (lt c1 (g.0 ⊕ p.src_ratio)) (g.1 ⊕ p.increment) g.1)

-- a string whose phase and delay are g
abbrev Stands : Float × Float → String × List Float → Type 0
Stands g s = (s.0.src_phase ≡ g.0) × (s.0.delay ≡ g.1)

either : (b : Bool) (f f' d d' : Float) (m n : Draw (String × List Float)) → Always (Stands (f, d)) m → Always (Stands (f', d')) n
    → Always (Stands (cond b f f', cond b d d')) (cond b m n)
either true f f' d d' m n h k = h
either false f f' d d' m n h k = k

moved_stands : (shape : StringNonLinearity) (p : Params) (x : Float) (s : String × List Float)
    → Always (Stands (onward p (s.0.src_phase, s.0.delay))) (advance shape p x s)
unfolding advance
moved_stands shape p x s =
    let q = s.0.src_phase ⊕ p.src_ratio in
    either (lt c1 q) (q ⊖ c1) q (s.0.delay ⊕ p.increment) s.0.delay (step shape p x (record s.0 { src_phase = q ⊖ c1 }, s.1))
    (ret (record s.0 { src_phase = q }, s.1))
    (step_keeps shape p x (record s.0 { src_phase = q ⊖ c1 }, s.1)) (refl, refl)

frame_stands : (shape : StringNonLinearity) (p : Params) (g : Float × Float) (s : String × List Float) (x y : Float) → Stands g s
    → Always (λ r. Stands (onward p g) r.0) (frame shape p s x y)
frame_stands shape p g s x y h =
    always_bind (Stands (onward p g)) _ (advance shape p x s) _ (at h) (λ t k. k)
  where
    at : Stands g s → Always (Stands (onward p g)) (advance shape p x s)
    at h = subst (λ (g : Float × Float). Always (Stands (onward p g)) (advance shape p x s)) (λ i. (h.0 i, h.1 i)) (moved_stands shape p x s)

-- the delay after k increments
abbrev increments : Params → ℕ → Float → Float
increments p k d = after (λ d. d ⊕ p.increment) k d

-- as many increments are taken as there are string steps
onward_taken : (p : Params) (n : ℕ) (f d : Float) → (after (onward p) n (f, d)).1 ≡ increments p (steps p.src_ratio n f) d
unfolding steps
onward_taken p zero f d = refl
onward_taken p (suc n) f d = go (lt c1 (f ⊕ p.src_ratio)) (onward_taken p n)
  where
    go : (b : Bool) → ((f d : Float) → (after (onward p) n (f, d)).1 ≡ increments p (steps p.src_ratio n f) d)
        → (after (onward p) n (cond b (f ⊕ p.src_ratio ⊖ c1) (f ⊕ p.src_ratio), cond b (d ⊕ p.increment) d)).1
        ≡ increments p (cond b 1 0 + steps p.src_ratio n (cond b (f ⊕ p.src_ratio ⊖ c1) (f ⊕ p.src_ratio))) d
    go true h =
        let m = steps p.src_ratio n (f ⊕ p.src_ratio ⊖ c1) in
        let e : suc m ≡ 1 + m = omega arith in
        h (f ⊕ p.src_ratio ⊖ c1) (d ⊕ p.increment) ∙ ap (λ (k : ℕ). increments p k d) e
    go false h =
        let m = steps p.src_ratio n (f ⊕ p.src_ratio) in
        let e : m ≡ 0 + m = omega arith in
        h (f ⊕ p.src_ratio) d ∙ ap (λ (k : ℕ). increments p k d) e

pub kept_delay : KeptDelay
unfolding KeptDelay process prepare tune
kept_delay shape f0 brightness damping s xs ys word =
    let d = damping_of f0 brightness damping in
    let p = params_of s.0 f0 (amount_of shape) d (length ys) in
    let n = min (length xs) (length ys) in
    let g : Float × Float = (snap (ratio_of f0) s.0.src_phase, s.0.delay) in
    let m = frames (frame shape p) (tune s.0 f0 d, s.1) xs ys in
    (always_run (λ q. Stands (after (onward p) n g) q.0) m word
    (frames_after (frame shape p) (onward p) Stands (frame_stands shape p) n g (tune s.0 f0 d, s.1) xs ys refl (refl, refl)) refl).1
    ∙ onward_taken p n g.0 g.1
