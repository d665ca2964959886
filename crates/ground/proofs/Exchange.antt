-- Nested loops change places: a loop over the frames for each of a list of parts, one part after the other, is one loop over the frames that runs
-- all parts at each frame. A part's step sees its own state, the frame's input, and what the parts before it left in the output there. Assumes nothing.
use Rattle.std.proofs.Common.{◌≡◌, List, [], ◌∷◌, sym, refl, ap, ◌∙◌}
use Rattle.ground.specs.Frames.{scan}

module _ {K S A B : Type 0} (step : K → S → A → B → S × B) where
  -- the frames of a block through one part: the block after it, and the part's state
  abbrev pub block : List A → List B → K → S → List B × S
  block xs ys k s = let r = scan (step k) s xs ys in (r.1, r.0)

  -- a frame through the part k, and through each of ks
  abbrev pub point : A → B → K → S → B × S
  point x y k s = let r = step k s x y in (r.1, r.0)

  abbrev pub frame : List K → List S → A → B → List S × B
  frame ks ss x y = let r = scan (point x) y ks ss in (r.1, r.0)

  -- a loop that changes nothing
  idle : (f : List S → A → B → List S × B) (ss : List S) → ((x : A) (y : B) → f ss x y ≡ (ss, y)) → (xs : List A) (ys : List B) → scan f ss xs ys ≡ (ss, ys)
  unfolding scan
  idle f ss e [] ys = refl
  idle f ss e (x ∷ xs) [] = refl
  idle f ss e (x ∷ xs) (y ∷ ys) = rw (e x y) (ap (λ (q : List S × List B). (q.0, y ∷ q.1)) (idle f ss e xs ys))

  -- a first part in its own loop, the others at each frame: all at each frame
  first : (k : K) (ks : List K) (s : S) (ss : List S) (xs : List A) (ys : List B)
      → scan (frame (k ∷ ks)) (s ∷ ss) xs ys
      ≡ (let r = scan (step k) s xs ys in let q = scan (frame ks) ss xs r.1 in (r.0 ∷ q.0, q.1))
  unfolding scan
  first k ks s ss [] ys = refl
  first k ks s ss (x ∷ xs) [] = refl
  first k ks s ss (x ∷ xs) (y ∷ ys) =
      let r = step k s x y in
      let q = frame ks ss x r.1 in
      ap (λ (z : List S × List B). (z.0, q.1 ∷ z.1)) (first k ks r.0 q.0 xs ys)

  pub exchange : (ks : List K) (ss : List S) (xs : List A) (ys : List B)
      → scan (block xs) ys ks ss ≡ (let q = scan (frame ks) ss xs ys in (q.1, q.0))
  unfolding scan
  exchange [] ss xs ys = ap (λ (q : List S × List B). (q.1, q.0)) (sym (idle (frame []) ss (λ x y. refl) xs ys))
  exchange (k ∷ ks) [] xs ys = ap (λ (q : List S × List B). (q.1, q.0)) (sym (idle (frame (k ∷ ks)) [] (λ x y. refl) xs ys))
  exchange (k ∷ ks) (s ∷ ss) xs ys =
      let r = scan (step k) s xs ys in
      ap (λ (z : List B × List S). (z.0, r.0 ∷ z.1)) (exchange ks ss xs r.1)
      ∙ ap (λ (q : List S × List B). (q.1, q.0)) (sym (first k ks s ss xs ys))
