-- Computations that draw words. A definition says `ask` where it draws, and nothing of where the words come from: the generator runs it, and so does
-- a list of words fed. Assumes nothing.
use Rattle.std.specs.Prelude.{ℕ, zero, suc, List, [], ◌∷◌}
use Rattle.std.proofs.Math.Option.{Option, none, some}
use Rattle.ground.specs.Random.{get_word}

-- w moved n times
abbrev pub moved : ℕ → ℕ → ℕ
moved zero w = w
moved (suc n) w = get_word (moved n w)

-- the n words that n draws from w give
abbrev pub stream : ℕ → ℕ → List ℕ
stream zero w = []
stream (suc n) w = get_word w ∷ stream n (get_word w)

pub data Draw (A : Type 0) : Type 0 where
  ret : A → Draw A
  ask : (ℕ → Draw A) → Draw A

-- what a run gives, and the generator's word after it
pub record Ran (A : Type 0) : Type 0 where
  pub value : A
  pub word : ℕ

module _ {A : Type 0} where
  -- run by the generator at w
  abbrev pub run : Draw A → ℕ → Ran A
  run (ret a) w = record { value = a; word = w }
  run (ask k) w = run (k (get_word w)) (get_word w)

  abbrev pub value : Draw A → ℕ → A
  value m w = (run m w).value

  abbrev pub ending : Draw A → ℕ → ℕ
  ending m w = (run m w).word

  -- the words that the run draws
  abbrev pub words : Draw A → ℕ → List ℕ
  words (ret a) w = []
  words (ask k) w = get_word w ∷ words (k (get_word w)) (get_word w)

  -- run by a list: where it draws it takes the next word fed. It is `none` where a word is lacking, and where one is over at the end.
  abbrev pub fed : Draw A → List ℕ → Option A
  fed (ret a) [] = some a
  fed (ret a) (w ∷ ws) = none
  fed (ask k) [] = none
  fed (ask k) (w ∷ ws) = fed (k w) ws

module _ {A B : Type 0} where
  infixl 20 ◌>>=◌
  -- one after the other
  abbrev pub ◌>>=◌ : Draw A → (A → Draw B) → Draw B
  ret a >>= f = f a
  ask k >>= f = ask (λ w. k w >>= f)

module _ {A : Type 0} where
  -- with the number of its words
  abbrev pub counted : Draw A → Draw (A × ℕ)
  counted (ret a) = ret (a, 0)
  counted (ask k) = ask (λ w. counted (k w) >>= λ q. ret (q.0, suc q.1))
