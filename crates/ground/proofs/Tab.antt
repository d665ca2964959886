-- The law of a loop that stores f i at i, for each i of an array in turn, and what stands in the list of f 0, f 1 and so on. Assumes nothing.
use Rattle.std.proofs.Common.{◌≡◌, ℕ, zero, suc, ◌+◌, ◌<◌, List, [], ◌∷◌, ◌++◌, length, get_or, drop, set, refl, ap, ◌∙◌, le_of_suc-le-suc, not-suc-le-zero}
use Rattle.std.proofs.Common.{add-one, arith}
use Rattle.ground.specs.Frames.{tab}

-- i elements are done, and the others are as they were
pub record Stored {X : Type 0} (f : ℕ → X) (xs₀ : List X) (i : ℕ) (xs : List X) : Type 0 where
  pub so_far : xs ≡ tab i f ++ drop i xs₀

module _ {X : Type 0} where
  -- a store at i, what stands there before it, and all stored
  put : (f : ℕ → X) (xs : List X) (i : ℕ) → i < length xs → set (tab i f ++ drop i xs) i (f i) ≡ tab (suc i) f ++ drop (suc i) xs
  unfolding tab
  put f [] i l = absurd (not-suc-le-zero l)
  put f (x ∷ xs) zero l = refl
  put f (x ∷ xs) (suc i) l = ap (λ (zs : List X). f 0 ∷ zs) (put (λ j. f (suc j)) xs i (le_of_suc-le-suc l))

  as_it_was : (f : ℕ → X) (xs : List X) (i : ℕ) (d : X) → i < length xs → get_or (tab i f ++ drop i xs) i d ≡ get_or xs i d
  unfolding tab
  as_it_was f [] i d l = absurd (not-suc-le-zero l)
  as_it_was f (x ∷ xs) zero d l = refl
  as_it_was f (x ∷ xs) (suc i) d l = as_it_was (λ j. f (suc j)) xs i d (le_of_suc-le-suc l)

  all : (f : ℕ → X) (xs : List X) (i : ℕ) → i ≡ length xs → tab i f ++ drop i xs ≡ tab i f
  unfolding tab
  all f [] zero e = refl
  all f [] (suc i) e = absurd (omega arith)
  all f (x ∷ xs) zero e = absurd (omega arith)
  all f (x ∷ xs) (suc i) e = ap (λ (zs : List X). f 0 ∷ zs) (all (λ j. f (suc j)) xs i (omega arith))

  pub tab_get_d : (xs : List X) (n : ℕ) (d : X) → length xs ≡ n → tab n (λ i. get_or xs i d) ≡ xs
  unfolding tab
  tab_get_d [] zero d e = refl
  tab_get_d [] (suc n) d e = absurd (omega arith)
  tab_get_d (x ∷ xs) zero d e = absurd (omega arith)
  tab_get_d (x ∷ xs) (suc n) d e = ap (λ (zs : List X). x ∷ zs) (tab_get_d xs n d (omega arith))

  pub length_tab : (n : ℕ) (f : ℕ → X) → length (tab n f) ≡ n
  unfolding tab
  length_tab zero f = refl
  length_tab (suc n) f = ap suc (length_tab n (λ i. f (suc i)))

module _ {X : Type 0} {f : ℕ → X} {xs₀ : List X} where
  pub stored_begin : Stored f xs₀ 0 xs₀
  unfolding tab
  stored_begin = record { so_far = refl }

  pub stored_turn : {i : ℕ} {xs : List X} {v : X} → Stored f xs₀ i xs → i < length xs₀ → v ≡ f i → Stored f xs₀ (i + 1) (set xs i v)
  stored_turn {i} {xs} {v} s l e =
      record { so_far = rw (add-one, s.so_far, e) (put f xs₀ i l) }

  -- what stands at i before it is stored
  pub stored_read : {i : ℕ} {xs : List X} (d : X) → Stored f xs₀ i xs → i < length xs₀ → get_or xs i d ≡ get_or xs₀ i d
  stored_read {i} {xs} d s l = rw s.so_far (as_it_was f xs₀ i d l)

  pub stored_end : {i n : ℕ} {xs : List X} → Stored f xs₀ i xs → i ≡ n → n ≡ length xs₀ → xs ≡ tab n f
  stored_end {i} {n} {xs} s e l = rw (← e) (s.so_far ∙ all f xs₀ i (e ∙ l))
