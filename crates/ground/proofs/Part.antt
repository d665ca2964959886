-- The laws of a part: what stands in it after it was put, that a part beside it is as it was, and lengths.
use Rattle.std.proofs.Common.{◌≡◌, ℕ, ◌+◌, ◌-◌, ◌*◌, ◌<◌, ◌≤◌, List, ◌++◌, length, take, drop, sym, ap, ◌∙◌, mul-le-mul_right, suc-mul, arith, length-append}
use Rattle.std.proofs.Common.{length-drop, take-append-drop, length-take, length-take-le, drop-drop, take_at, drop_at}
use native.Mathlib.Decide.{dec_lt}
use lib.Seq.{take-append-le, drop-append-le, drop-append-add}
use Rattle.ground.specs.Part.{part, put, on_part}

module _ {A : Type 0} where
  pub length_part : (a k : ℕ) (xs : List A) → a + k ≤ length xs → length (part a k xs) ≡ k
  unfolding part
  length_part a k xs h = simp (length-take, length-drop) (omega arith)

  pub length_put : (a k : ℕ) (ys xs : List A) → a + k ≤ length xs → length ys ≡ k → length (put a k ys xs) ≡ length xs
  unfolding put
  length_put a k ys xs h e = simp (length-append, length-take, length-drop) (omega arith)

  pub part_put : (a k : ℕ) (ys xs : List A) → a + k ≤ length xs → length ys ≡ k → part a k (put a k ys xs) ≡ ys
  unfolding part put
  part_put a k ys xs h e =
      let la : length (take a xs) ≡ a = length-take-le a xs (omega arith) in
      rw (drop_at (take a xs) (ys ++ drop k (drop a xs)) a, take_at)

  -- a part that ends at or before a
  front : (b j a : ℕ) (xs zs : List A) → b + j ≤ a → a ≤ length xs → take j (drop b (take a xs ++ zs)) ≡ take j (drop b (take a xs))
  front b j a xs zs l h =
      let la : length (take a xs) ≡ a = length-take-le a xs h in
      let lb : b ≤ length (take a xs) = omega arith in
      let lj : j ≤ length (drop b (take a xs)) = simp length-drop (omega arith) in
      rw (drop-append-le b (take a xs) zs, take-append-le j (drop b (take a xs)) zs)

  pub part_put_below : (b j a k : ℕ) (ys xs : List A) → b + j ≤ a → a + k ≤ length xs → part b j (put a k ys xs) ≡ part b j xs
  unfolding part put
  part_put_below b j a k ys xs l h =
      front b j a xs (ys ++ drop k (drop a xs)) l (omega arith) ∙ sym (front b j a xs (drop a xs) l (omega arith))
      ∙ ap (λ (zs : List A). take j (drop b zs)) (take-append-drop a xs)

  past : (n b : ℕ) (p q : List A) → length p ≡ n → n ≤ b → drop b (p ++ q) ≡ drop (b - n) q
  past n b p q e l =
      let s : b ≡ length p + (b - n) = omega arith in
      ap (λ (m : ℕ). drop m (p ++ q)) s ∙ drop-append-add p q (b - n)

  -- a part that begins at or after a + k
  pub part_put_above : (b j a k : ℕ) (ys xs : List A) → a + k ≤ b → a + k ≤ length xs → length ys ≡ k → part b j (put a k ys xs) ≡ part b j xs
  unfolding part put
  part_put_above b j a k ys xs l h e =
      let m : a + (k + (b - a - k)) ≡ b = omega arith in
      ap (take j)
      (past a b (take a xs) (ys ++ drop k (drop a xs)) (length-take-le a xs (omega arith)) (omega arith)
      ∙ past k (b - a) ys (drop k (drop a xs)) e (omega arith) ∙ drop-drop (b - a - k) k (drop a xs) ∙ drop-drop (k + (b - a - k)) a xs
      ∙ ap (λ (n : ℕ). drop n xs) m)

  -- What a callee that was lent the part from a to e says of the part, said of the whole: j is the code's e - a.
  pub lent : {R : Type 0} (f : List A → R × List A) (a k j : ℕ) (xs ys : List A) (r : R) → j ≡ k
      → ◌≡◌ {A = R × List A} (r, ys) (f (take j (drop a xs))) → ◌≡◌ {A = R × List A} (r, take a xs ++ (ys ++ drop j (drop a xs))) (on_part a k f xs)
  unfolding part put
  lent {R} f a k j xs ys r e g = rw (← e) (ap (λ (q : R × List A). (q.0, take a xs ++ (q.1 ++ drop j (drop a xs)))) g)

-- What is done in one slot of `size` leaves every other slot as it was.
gap : (size a b : ℕ) → a < b → a * size + size ≤ b * size
gap size a b l = rw suc-mul at (mul-le-mul_right size l)

module _ {A R : Type 0} (f : List A → R × List A) (keeps : (ys : List A) → length (f ys).1 ≡ length ys) where
  pub other_slot : (slot other size : ℕ) (xs : List A) → slot * size + size ≤ length xs → (slot ≡ other → ⊥)
      → part (other * size) size (on_part (slot * size) size f xs).1 ≡ part (other * size) size xs
  other_slot slot other size xs h apart = go (dec_lt slot other)
    where
      go : Dec (slot < other) → part (other * size) size (on_part (slot * size) size f xs).1 ≡ part (other * size) size xs
      go (yes l) =
          part_put_above (other * size) size (slot * size) size (f (part (slot * size) size xs)).1 xs (gap size slot other l) h
          (keeps (part (slot * size) size xs) ∙ length_part (slot * size) size xs h)
      go (no n) =
          let l : other < slot = omega arith in
          part_put_below (other * size) size (slot * size) size (f (part (slot * size) size xs)).1 xs (gap size other slot l) h
