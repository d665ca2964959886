-- Loops over frames. A step takes the state, the frame's input and what stands in the output there; it gives the next state and what is put there.
use Rattle.std.specs.Prelude.{ℕ, zero, suc, List, [], ◌∷◌}
use Rattle.ground.specs.Draw.{Draw, ret, ◌>>=◌}

-- A step may draw. The loop takes the frames that both lists have, and leaves the output past them as it was.
module _ {S A B : Type 0} (step : S → A → B → Draw (S × B)) where
  unfoldable pub frames : S → List A → List B → Draw (S × List B)
  frames s [] ys = ret (s, ys)
  frames s (x ∷ xs) [] = ret (s, [])
  frames s (x ∷ xs) (y ∷ ys) = step s x y >>= λ r. frames r.0 xs ys >>= λ q. ret (q.0, r.1 ∷ q.1)

-- The same loop where no step draws.
module _ {S A B : Type 0} (step : S → A → B → S × B) where
  unfoldable pub scan : S → List A → List B → S × List B
  scan s [] ys = (s, ys)
  scan s (x ∷ xs) [] = (s, [])
  scan s (x ∷ xs) (y ∷ ys) =
      let r = step s x y in
      let q = scan r.0 xs ys in
      (q.0, r.1 ∷ q.1)

-- The same loop with nothing put out: the state from element to element.
module _ {S A : Type 0} (step : S → A → S) where
  unfoldable pub over : S → List A → S
  over s [] = s
  over s (x ∷ xs) = over (step s x) xs

-- n numbers from k on, and the numbers below n: what a loop that only counts goes over
abbrev pub numbers : ℕ → ℕ → List ℕ
numbers k zero = []
numbers k (suc n) = k ∷ numbers (suc k) n

abbrev pub up_to : ℕ → List ℕ
up_to n = numbers 0 n

-- n turns of a loop that is not told their number
module _ {G : Type 0} (go : G → G) where
  abbrev pub after : ℕ → G → G
  after zero g = g
  after (suc n) g = after n (go g)

-- the list of f 0, f 1 and so on, n of them
module _ {X : Type 0} where
  unfoldable pub tab : ℕ → (ℕ → X) → List X
  tab zero f = []
  tab (suc n) f = f 0 ∷ tab n (λ i. f (suc i))
