-- The laws of computations that draw: the generator's words, the passage from the generator to a list fed, how a run goes on, how many words one
-- draws, and what holds of all that it can give. Assumes nothing.
use Rattle.std.proofs.Common.{◌≡◌, ℕ, zero, suc, ◌+◌, ◌<◌, List, ◌∷◌, ◌++◌, length, get_or, sym, refl, ap, ◌∙◌, subst, le_of_suc-le-suc, not-suc-le-zero}
use Rattle.std.proofs.Common.{suc-add, zero-add}
use mathlib.Core.Path.{fun_ext}
use mathlib.Core.Option.{some}
use Rattle.ground.specs.Draw.{Draw, ret, ask, Ran, moved, stream, run, value, ending, words, fed, counted, ◌>>=◌}
use Rattle.ground.specs.Random.{get_word}

-- ---- the generator

pub moved_next : (n w : ℕ) → moved n (get_word w) ≡ get_word (moved n w)
moved_next zero w = refl
moved_next (suc n) w = ap get_word (moved_next n w)

pub moved_add : (n m w : ℕ) → moved (n + m) w ≡ moved m (moved n w)
moved_add zero m w = ap (λ (k : ℕ). moved k w) (zero-add m)
moved_add (suc n) m w = ap (λ (k : ℕ). moved k w) (suc-add n m) ∙ ap get_word (moved_add n m w) ∙ sym (moved_next m (moved n w))

pub stream_add : (n m w : ℕ) → stream (n + m) w ≡ stream n w ++ stream m (moved n w)
stream_add zero m w = ap (λ (k : ℕ). stream k w) (zero-add m)
stream_add (suc n) m w =
    ap (λ (k : ℕ). stream k w) (suc-add n m)
    ∙ ap (λ (r : List ℕ). get_word w ∷ r) (stream_add n m (get_word w) ∙ ap (λ (x : ℕ). stream n (get_word w) ++ stream m x) (moved_next n w))

pub length_stream : (n w : ℕ) → length (stream n w) ≡ n
length_stream zero w = refl
length_stream (suc n) w = ap suc (length_stream n (get_word w))

pub stream_at : (n w k d : ℕ) → k < n → get_or (stream n w) k d ≡ moved (suc k) w
stream_at zero w k d h = absurd (not-suc-le-zero h)
stream_at (suc n) w zero d h = refl
stream_at (suc n) w (suc k) d h = stream_at n (get_word w) k d (le_of_suc-le-suc h) ∙ ap get_word (moved_next k w)

-- ---- from the generator to a list fed

module _ {A : Type 0} where
  -- fed the words that it drew, a computation gives the same, none lacking and none over
  pub fed_words : (m : Draw A) (w : ℕ) → fed m (words m w) ≡ some (value m w)
  fed_words (ret a) w = refl
  fed_words (ask k) w = fed_words (k (get_word w)) (get_word w)

  -- the words drawn are the generator's next ones
  pub words_are : (m : Draw A) (w : ℕ) → words m w ≡ stream (length (words m w)) w
  words_are (ret a) w = refl
  words_are (ask k) w = ap (λ (r : List ℕ). get_word w ∷ r) (words_are (k (get_word w)) (get_word w))

  -- the generator ends as many words on
  pub ending_is : (m : Draw A) (w : ℕ) → ending m w ≡ moved (length (words m w)) w
  ending_is (ret a) w = refl
  ending_is (ask k) w = ending_is (k (get_word w)) (get_word w) ∙ moved_next (length (words (k (get_word w)) (get_word w))) w

-- ---- one after the other

module _ {A B : Type 0} where
  pub run_bind : (m : Draw A) (f : A → Draw B) (w : ℕ) → run (m >>= f) w ≡ run (f (run m w).value) (run m w).word
  run_bind (ret a) f w = refl
  run_bind (ask k) f w = run_bind (k (get_word w)) f (get_word w)

  -- what the first is known to give goes into the second
  pub run_then : (m : Draw A) (f : A → Draw B) (w : ℕ) {r : Ran A} → run m w ≡ r → run (m >>= f) w ≡ run (f r.value) r.word
  run_then m f w e = run_bind m f w ∙ ap (λ (q : Ran A). run (f q.value) q.word) e

  -- the words of both, in order
  pub words_bind : (m : Draw A) (f : A → Draw B) (w : ℕ) → words (m >>= f) w ≡ words m w ++ words (f (value m w)) (ending m w)
  words_bind (ret a) f w = refl
  words_bind (ask k) f w = ap (λ (r : List ℕ). get_word w ∷ r) (words_bind (k (get_word w)) f (get_word w))

  -- a last step that draws nothing
  pub words_then : (m : Draw A) (f : A → B) (w : ℕ) → words (m >>= λ a. ret (f a)) w ≡ words m w
  words_then (ret a) f w = refl
  words_then (ask k) f w = ap (λ (r : List ℕ). get_word w ∷ r) (words_then (k (get_word w)) f (get_word w))

  pub bind_same : (m : Draw A) {f g : A → Draw B} → ((a : A) → f a ≡ g a) → m >>= f ≡ m >>= g
  bind_same m h = ap (λ (f : A → Draw B). m >>= f) (fun_ext h)

module _ {A B C : Type 0} where
  pub bind_assoc : (m : Draw A) (f : A → Draw B) (g : B → Draw C) → (m >>= f) >>= g ≡ m >>= λ a. f a >>= g
  bind_assoc (ret a) f g = refl
  bind_assoc (ask k) f g = ap ask (fun_ext (λ w. bind_assoc (k w) f g))

-- ---- what holds of all that a computation can give, whatever the words are

module _ {A : Type 0} where
  abbrev pub Always : (A → Type 0) → Draw A → Type 0
  Always P (ret a) = P a
  Always P (ask k) = (w : ℕ) → Always P (k w)

  pub always_run : (P : A → Type 0) (m : Draw A) (w : ℕ) {r : Ran A} → Always P m → run m w ≡ r → P r.value
  always_run P m w h e = subst (λ (r : Ran A). P r.value) e (go m w h)
    where
      go : (m : Draw A) (w : ℕ) → Always P m → P (run m w).value
      go (ret a) w h = h
      go (ask k) w h = go (k (get_word w)) (get_word w) (h (get_word w))

module _ {A B : Type 0} where
  pub always_bind : (P : A → Type 0) (Q : B → Type 0) (m : Draw A) (f : A → Draw B) → Always P m → ((a : A) → P a → Always Q (f a)) → Always Q (m >>= f)
  always_bind P Q (ret a) f h g = g a h
  always_bind P Q (ask k) f h g = λ w. always_bind P Q (k w) f (h w) g

-- ---- m draws n words, whatever they are, and what it gives then has P

module _ {A : Type 0} where
  abbrev pub Draws : ℕ → (A → Type 0) → Draw A → Type 0
  Draws n P (ret a) = (n ≡ 0) × P a
  Draws n P (ask k) = (m : ℕ) × (n ≡ suc m) × ((w : ℕ) → Draws m P (k w))

  pub draws_length : (n : ℕ) (P : A → Type 0) (m : Draw A) (w : ℕ) → Draws n P m → length (words m w) ≡ n
  draws_length n P (ret a) w h = sym h.0
  draws_length n P (ask k) w h = ap suc (draws_length h.0 P (k (get_word w)) (get_word w) (h.2 (get_word w))) ∙ sym h.1

  pub draws_always : (n : ℕ) (P : A → Type 0) (m : Draw A) → Draws n P m → Always P m
  draws_always n P (ret a) h = h.1
  draws_always n P (ask k) h = λ w. draws_always h.0 P (k w) (h.2 w)

  pub draws_map : (n : ℕ) (P Q : A → Type 0) (m : Draw A) → ((a : A) → P a → Q a) → Draws n P m → Draws n Q m
  draws_map n P Q (ret a) f h = (h.0, f a h.1)
  draws_map n P Q (ask k) f h = (h.0, h.1, λ w. draws_map h.0 P Q (k w) f (h.2 w))

module _ {A B : Type 0} where
  pub draws_bind : (n j : ℕ) (P : A → Type 0) (Q : B → Type 0) (m : Draw A) (f : A → Draw B)
      → Draws n P m → ((a : A) → P a → Draws j Q (f a)) → Draws (n + j) Q (m >>= f)
  draws_bind n j P Q (ret a) f h g = subst (λ (k : ℕ). Draws k Q (f a)) (sym (ap (λ (k : ℕ). k + j) h.0 ∙ zero-add j)) (g a h.1)
  draws_bind n j P Q (ask k) f h g =
      (h.0 + j, ap (λ (i : ℕ). i + j) h.1 ∙ suc-add h.0 j, λ w. draws_bind h.0 j P Q (k w) f (h.2 w) g)

  -- a last step that draws nothing
  pub draws_then : (n : ℕ) (P : A → Type 0) (Q : B → Type 0) (m : Draw A) (f : A → B)
      → Draws n P m → ((a : A) → P a → Q (f a)) → Draws n Q (m >>= λ a. ret (f a))
  draws_then n P Q (ret a) f h g = (h.0, g a h.1)
  draws_then n P Q (ask k) f h g = (h.0, h.1, λ w. draws_then h.0 P Q (k w) f (h.2 w) g)

-- ---- a computation with the number of its words

module _ {A : Type 0} where
  pub counted_draws : (n : ℕ) (P : A → Type 0) (m : Draw A) → Draws n P m → Draws n (λ q. P q.0 × (q.1 ≡ n)) (counted m)
  counted_draws n P (ret a) h = (h.0, (h.1, sym h.0))
  counted_draws n P (ask k) h = (
    h.0,
    h.1,
    λ w. draws_then h.0 (λ q. P q.0 × (q.1 ≡ h.0)) (λ q. P q.0 × (q.1 ≡ n)) (counted (k w)) (λ q. (q.0, suc q.1)) (counted_draws h.0 P (k w) (h.2 w))
        (λ q p. (p.0, ap suc p.1 ∙ sym h.1)),
  )

  run_counted : (n : ℕ) (P : A → Type 0) (m : Draw A) (w : ℕ) → Draws n P m → run (counted m) w ≡ record { value = ((run m w).value, n); word = (run m w).word }
  run_counted n P (ret a) w h = ap (λ (j : ℕ). record { value = (a, j); word = w }) (sym h.0)
  run_counted n P (ask k) w h =
      run_then (counted (k (get_word w))) _ (get_word w) (run_counted h.0 P (k (get_word w)) (get_word w) (h.2 (get_word w)))
      ∙ ap (λ (j : ℕ). record { value = ((run (k (get_word w)) (get_word w)).value, j); word = (run (k (get_word w)) (get_word w)).word }) (sym h.1)

  -- what it is known to give, and how many words it draws
  pub counted_then : (n : ℕ) (P : A → Type 0) (m : Draw A) (w : ℕ) {a : A} {v : ℕ} → Draws n P m → run m w ≡ record { value = a; word = v }
      → run (counted m) w ≡ record { value = (a, n); word = v }
  counted_then n P m w h e = run_counted n P m w h ∙ ap (λ (r : Ran A). record { value = (r.value, n); word = r.word }) e
