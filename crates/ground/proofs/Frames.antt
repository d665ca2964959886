-- The law of every loop. What a loop's proof cites begins at `Frames`: the invariant, and how a loop begins, turns and ends.
use Rattle.std.proofs.Common.{◌≡◌, ℕ, zero, suc, ◌+◌, ◌<◌, ◌≤◌, min, List, [], ◌∷◌, length, get_or, take, set, replicate, sym, refl, ap, ◌∙◌, subst, ap₂}
use Rattle.std.proofs.Common.{le_of_suc-le-suc, not-suc-le-zero, add-one, arith, length-set}
use lib.Seq.{set-get_or}
use Rattle.ground.specs.Draw.{Draw, ret, ask, Ran, run, ◌>>=◌}
use Rattle.ground.specs.Frames.{frames, scan, over, numbers, up_to}
pub use Rattle.ground.specs.Frames.{after}
use Rattle.ground.proofs.Draw.{run_then, bind_same, bind_assoc, Always, always_run, always_bind, Draws, draws_bind, draws_then}

-- ---- the frame at i, and a loop of one frame more
module _ {S A B : Type 0} (step : S → A → B → Draw (S × B)) where
  -- the frame at i of a loop that stands at q; a and b stand past the ends of the lists
  abbrev one_at : A → B → ℕ → List A → S × List B → Draw (S × List B)
  one_at a b i xs q = step q.0 (get_or xs i a) (get_or q.1 i b) >>= λ r. ret (r.0, set q.1 i r.1)

  abbrev onto : S × B → S × List B → Draw (S × List B)
  onto r q = ret (q.0, r.1 ∷ q.1)

  -- one frame more, behind a frame that gave r
  behind : (a : A) (b : B) (i : ℕ) (x : A) (xs : List A) (r : S × B) (m n : Draw (S × List B)) → n ≡ m >>= one_at a b i xs
      → n >>= onto r ≡ (m >>= onto r) >>= one_at a b (suc i) (x ∷ xs)
  behind a b i x xs r m n e =
      ap (λ (n : Draw (S × List B)). n >>= onto r) e
      ∙ bind_assoc m (one_at a b i xs) (onto r)
      ∙ bind_same m (λ q. bind_assoc (step q.0 (get_or xs i a) (get_or q.1 i b)) _ (onto r))
      ∙ sym (bind_assoc m (onto r) (one_at a b (suc i) (x ∷ xs)))

  one_more : (a : A) (b : B) (i : ℕ) (s : S) (xs : List A) (ys : List B) → i < length xs → i < length ys
      → frames step s (take (suc i) xs) ys ≡ frames step s (take i xs) ys >>= one_at a b i xs
  unfolding frames
  one_more a b i s [] ys l k = absurd (not-suc-le-zero l)
  one_more a b i s (x ∷ xs) [] l k = absurd (not-suc-le-zero k)
  one_more a b zero s (x ∷ xs) (y ∷ ys) l k = refl
  one_more a b (suc i) s (x ∷ xs) (y ∷ ys) l k =
      bind_same (step s x y)
      (λ r. behind a b i x xs r (frames step r.0 (take i xs) ys) _ (one_more a b i r.0 xs ys (le_of_suc-le-suc l) (le_of_suc-le-suc k)))
      ∙ sym (bind_assoc (step s x y) _ (one_at a b (suc i) (x ∷ xs)))

  -- the inputs past the output's end are not looked at
  enough : (i : ℕ) (s : S) (xs : List A) (ys : List B) → min (length xs) (length ys) ≤ i → frames step s (take i xs) ys ≡ frames step s xs ys
  unfolding frames
  enough zero s [] ys l = refl
  enough zero s (x ∷ xs) [] l = refl
  enough zero s (x ∷ xs) (y ∷ ys) l = absurd (omega arith)
  enough (suc i) s [] ys l = refl
  enough (suc i) s (x ∷ xs) [] l = refl
  enough (suc i) s (x ∷ xs) (y ∷ ys) l =
      bind_same (step s x y) (λ r. ap (λ (n : Draw (S × List B)). n >>= λ q. ret (q.0, r.1 ∷ q.1)) (enough i r.0 xs ys (omega arith)))

-- ---- what every loop keeps: an invariant of the state that every step keeps, and the output's length

abbrev pub Any : {A : Type 0} → A → Type 0
Any a = Unit {0}

pub always_any : {A : Type 0} (m : Draw A) → Always Any m
always_any (ret a) = tt
always_any (ask k) = λ w. always_any (k w)

module _ {S A B : Type 0} (step : S → A → B → Draw (S × B)) (Good : S → Type 0)
    (keeps : (s : S) (x : A) (y : B) → Good s → Always (λ r. Good r.0) (step s x y)) where
  pub frames_keeps : (s : S) (xs : List A) (ys : List B) → Good s → Always (λ q. Good q.0 × (length q.1 ≡ length ys)) (frames step s xs ys)
  unfolding frames
  frames_keeps s [] ys h = (h, refl)
  frames_keeps s (x ∷ xs) [] h = (h, refl)
  frames_keeps s (x ∷ xs) (y ∷ ys) h =
      always_bind (λ r. Good r.0) _ (step s x y) _ (keeps s x y h)
      (λ r k. always_bind (λ q. Good q.0 × (length q.1 ≡ length ys)) _ (frames step r.0 xs ys) _ (frames_keeps r.0 xs ys k)
      (λ q p. (p.0, ap suc p.1)))

-- what is told of the state by a part g of it that moves from frame to frame whatever the words are
module _ {S A B G : Type 0} (step : S → A → B → Draw (S × B)) (go : G → G) (Good : G → S → Type 0)
    (one : (g : G) (s : S) (x : A) (y : B) → Good g s → Always (λ r. Good (go g) r.0) (step s x y)) where
  pub frames_after : (n : ℕ) (g : G) (s : S) (xs : List A) (ys : List B) → n ≡ min (length xs) (length ys) → Good g s
      → Always (λ q. Good (after go n g) q.0) (frames step s xs ys)
  unfolding frames
  frames_after zero g s [] ys e h = h
  frames_after zero g s (x ∷ xs) [] e h = h
  frames_after zero g s (x ∷ xs) (y ∷ ys) e h = absurd (omega arith)
  frames_after (suc n) g s [] ys e h = absurd (omega arith)
  frames_after (suc n) g s (x ∷ xs) [] e h = absurd (omega arith)
  frames_after (suc n) g s (x ∷ xs) (y ∷ ys) e h =
      always_bind (λ r. Good (go g) r.0) _ (step s x y) _ (one g s x y h)
      (λ r k. always_bind (λ q. Good (after go n (go g)) q.0) _ (frames step r.0 xs ys) _ (frames_after n (go g) r.0 xs ys (omega arith) k) (λ q p. p))

-- ---- how many words a loop draws. What a step draws is told by a part g of the state that moves from frame to frame whatever the words are.

-- `after` gives g after n frames, and `drawn` the words of n frames
module _ {G : Type 0} (go : G → G) (count : G → ℕ) where
  abbrev pub drawn : ℕ → G → ℕ
  drawn zero g = 0
  drawn (suc n) g = count g + drawn n (go g)

  -- one frame more, and where each draws at most one
  pub drawn_more : (n : ℕ) (g : G) → drawn (suc n) g ≡ drawn n g + count (after go n g)
  drawn_more zero g = omega arith
  drawn_more (suc n) g = omega (arith, drawn_more n (go g))

  pub drawn_few : ((g : G) → count g ≤ 1) → (n : ℕ) (g : G) → drawn n g ≤ n
  drawn_few few zero g = omega arith
  drawn_few few (suc n) g = omega (arith, few g, drawn_few few n (go g))

module _ {S A B G : Type 0} (step : S → A → B → Draw (S × B)) (go : G → G) (count : G → ℕ) (Good : G → S → Type 0)
    (one : (g : G) (s : S) (x : A) (y : B) → Good g s → Draws (count g) (λ r. Good (go g) r.0) (step s x y)) where
  pub frames_draws : (n : ℕ) (g : G) (s : S) (xs : List A) (ys : List B) → n ≡ min (length xs) (length ys) → Good g s
      → Draws (drawn go count n g) (λ q. Good (after go n g) q.0 × (length q.1 ≡ length ys)) (frames step s xs ys)
  unfolding frames
  frames_draws zero g s [] ys e h = (refl, (h, refl))
  frames_draws zero g s (x ∷ xs) [] e h = (refl, (h, refl))
  frames_draws zero g s (x ∷ xs) (y ∷ ys) e h = absurd (omega arith)
  frames_draws (suc n) g s [] ys e h = absurd (omega arith)
  frames_draws (suc n) g s (x ∷ xs) [] e h = absurd (omega arith)
  frames_draws (suc n) g s (x ∷ xs) (y ∷ ys) e h =
      draws_bind (count g) (drawn go count n (go g)) (λ r. Good (go g) r.0) _ (step s x y) _ (one g s x y h)
      (λ r k. draws_then (drawn go count n (go g)) (λ q. Good (after go n (go g)) q.0 × (length q.1 ≡ length ys)) _ (frames step r.0 xs ys) _
      (frames_draws n (go g) r.0 xs ys (omega arith) k) (λ q p. (p.0, ap suc p.1)))

-- a word a frame
module _ {S A B : Type 0} (step : S → A → B → Draw (S × B)) (Good : S → Type 0)
    (one : (s : S) (x : A) (y : B) → Good s → Draws 1 (λ r. Good r.0) (step s x y)) where
  as_many : (n : ℕ) → drawn {G = Unit {0}} (λ g. g) (λ g. 1) n tt ≡ n
  as_many zero = refl
  as_many (suc n) = omega (arith, as_many n)

  pub frames_draws_each : (n : ℕ) (s : S) (xs : List A) (ys : List B) → n ≡ min (length xs) (length ys) → Good s
      → Draws n (λ q. Good q.0 × (length q.1 ≡ length ys)) (frames step s xs ys)
  frames_draws_each n s xs ys e h =
      subst (λ (k : ℕ). Draws k (λ q. Good q.0 × (length q.1 ≡ length ys)) (frames step s xs ys)) (as_many n)
      (frames_draws {G = Unit {0}} step (λ g. g) (λ g. 1) (λ g s. Good s) (λ g. one) n tt s xs ys e h)

-- ---- what a loop's proof cites

-- i frames are done: the state s, the output ys and the word w are what the loop over the first i inputs gives
pub record Frames {S A B : Type 0} (step : S → A → B → Draw (S × B)) (s₀ : S) (xs : List A) (ys₀ : List B) (w₀ i : ℕ) (s : S) (ys : List B) (w : ℕ) : Type 0
  where
    pub within : i ≤ min (length xs) (length ys₀)
    pub size : length ys ≡ length ys₀
    pub so_far : run (frames step s₀ (take i xs) ys₀) w₀ ≡ record { value = (s, ys); word = w }

module _ {S A B : Type 0} {step : S → A → B → Draw (S × B)} {s₀ : S} {xs : List A} {ys₀ : List B} {w₀ : ℕ} where
  pub frames_begin : Frames step s₀ xs ys₀ w₀ 0 s₀ ys₀ w₀
  unfolding frames
  frames_begin = record { within = omega arith; size = refl; so_far = refl }

  -- a turn ran the step at the frame i; a and b stand past the ends of the lists
  pub frames_turn : {i : ℕ} {s : S} {ys : List B} {w : ℕ} (a : A) (b : B) {s' : S} {y' : B} {w' : ℕ} → Frames step s₀ xs ys₀ w₀ i s ys w
      → i < min (length xs) (length ys₀)
      → run (step s (get_or xs i a) (get_or ys i b)) w ≡ record { value = (s', y'); word = w' }
      → Frames step s₀ xs ys₀ w₀ (i + 1) s' (set ys i y') w'
  frames_turn {i} {s} {ys} {w} a b {s'} {y'} {w'} f l e =
      record {
        within = omega arith;
        size = length-set ys i y' ∙ f.size;
        so_far = ap (λ (n : ℕ). run (frames step s₀ (take n xs) ys₀) w₀) (add-one i)
            ∙ ap (λ (m : Draw (S × List B)). run m w₀) (one_more step a b i s₀ xs ys₀ (omega arith) (omega arith))
            ∙ run_then (frames step s₀ (take i xs) ys₀) (one_at step a b i xs) w₀ f.so_far
            ∙ run_then (step s (get_or xs i a) (get_or ys i b)) (λ r. ret (r.0, set ys i r.1)) w e;
      }

  pub frames_end : {i : ℕ} {s : S} {ys : List B} {w : ℕ} → Frames step s₀ xs ys₀ w₀ i s ys w → min (length xs) (length ys₀) ≤ i
      → run (frames step s₀ xs ys₀) w₀ ≡ record { value = (s, ys); word = w }
  frames_end {i} f l = ap (λ (m : Draw (S × List B)). run m w₀) (sym (enough step i s₀ xs ys₀ l)) ∙ f.so_far

  -- the same where more comes behind the loop
  pub frames_then : {C : Type 0} (f : S × List B → Draw C) {i : ℕ} {s : S} {ys : List B} {w : ℕ} → Frames step s₀ xs ys₀ w₀ i s ys w
      → min (length xs) (length ys₀) ≤ i → run (frames step s₀ xs ys₀ >>= f) w₀ ≡ run (f (s, ys)) w
  frames_then f g l = run_then (frames step s₀ xs ys₀) f w₀ (frames_end g l)

  -- what every step keeps holds of the state at every frame
  pub frames_good : {i : ℕ} {s : S} {ys : List B} {w : ℕ} (Good : S → Type 0)
      → ((s : S) (x : A) (y : B) → Good s → Always (λ r. Good r.0) (step s x y)) → Good s₀ → Frames step s₀ xs ys₀ w₀ i s ys w → Good s
  frames_good {i} Good keeps h f =
      (always_run (λ q. Good q.0 × (length q.1 ≡ length ys₀)) (frames step s₀ (take i xs) ys₀) w₀
      (frames_keeps step Good keeps s₀ (take i xs) ys₀ h) f.so_far).0

-- ---- a loop in which no step draws: the same laws, at `still step`

module _ {S A B : Type 0} (step : S → A → B → S × B) where
  abbrev pub still : S → A → B → Draw (S × B)
  still s x y = ret (step s x y)

  pub frames_still : (s : S) (xs : List A) (ys : List B) → frames still s xs ys ≡ ret (scan step s xs ys)
  unfolding frames scan
  frames_still s [] ys = refl
  frames_still s (x ∷ xs) [] = refl
  frames_still s (x ∷ xs) (y ∷ ys) = ap (λ (m : Draw (S × List B)). m >>= λ q. ret (q.0, (step s x y).1 ∷ q.1)) (frames_still (step s x y).0 xs ys)

  pub scan_keeps : (Good : S → Type 0) → ((s : S) (x : A) (y : B) → Good s → Good (step s x y).0) → (s : S) (xs : List A) (ys : List B) → Good s
      → Good (scan step s xs ys).0 × (length (scan step s xs ys).1 ≡ length ys)
  scan_keeps Good keeps s xs ys h =
      subst (λ (m : Draw (S × List B)). Always (λ q. Good q.0 × (length q.1 ≡ length ys)) m) (frames_still s xs ys)
      (frames_keeps still Good keeps s xs ys h)

  pub length_scan : (s : S) (xs : List A) (ys : List B) → length (scan step s xs ys).1 ≡ length ys
  length_scan s xs ys = (scan_keeps Any (λ s x y h. tt) s xs ys tt).1

abbrev pub Scan : {S A B : Type 0} (step : S → A → B → S × B) (s₀ : S) (xs : List A) (ys₀ : List B) (i : ℕ) (s : S) (ys : List B) → Type 0
Scan step s₀ xs ys₀ i s ys = Frames (still step) s₀ xs ys₀ 0 i s ys 0

module _ {S A B : Type 0} {step : S → A → B → S × B} {s₀ : S} {xs : List A} {ys₀ : List B} where
  pub scan_turn : {i : ℕ} {s : S} {ys : List B} (a : A) (b : B) {s' : S} {y' : B} → Scan step s₀ xs ys₀ i s ys → i < min (length xs) (length ys₀)
      → ◌≡◌ {A = S × B} (s', y') (step s (get_or xs i a) (get_or ys i b)) → Scan step s₀ xs ys₀ (i + 1) s' (set ys i y')
  scan_turn a b f l e = frames_turn a b f l (ap (λ (r : S × B). record { value = r; word = 0 }) (sym e))

  pub scan_end : {i : ℕ} {s : S} {ys : List B} → Scan step s₀ xs ys₀ i s ys → min (length xs) (length ys₀) ≤ i
      → ◌≡◌ {A = S × List B} (s, ys) (scan step s₀ xs ys₀)
  scan_end f l = ap (λ (r : Ran (S × List B)). r.value) (sym (frames_end f l) ∙ ap (λ (m : Draw (S × List B)). run m 0) (frames_still step s₀ xs ys₀))

-- what such a loop puts at the frame i, told by its state there
module _ {S A B : Type 0} (step : S → A → B → S × B) where
  scan_at : (a : A) (b : B) (i : ℕ) (s : S) (xs : List A) (ys : List B) → i < length xs → i < length ys
      → get_or (scan step s xs ys).1 i b ≡ (step (scan step s (take i xs) ys).0 (get_or xs i a) (get_or ys i b)).1
  unfolding scan
  scan_at a b i s [] ys l k = absurd (not-suc-le-zero l)
  scan_at a b i s (x ∷ xs) [] l k = absurd (not-suc-le-zero k)
  scan_at a b zero s (x ∷ xs) (y ∷ ys) l k = refl
  scan_at a b (suc i) s (x ∷ xs) (y ∷ ys) l k = scan_at a b i (step s x y).0 xs ys (le_of_suc-le-suc l) (le_of_suc-le-suc k)

  pub scan_puts : (a : A) (b : B) {i : ℕ} {s₀ s : S} {xs : List A} {ys₀ ys : List B} → Scan step s₀ xs ys₀ i s ys → i < min (length xs) (length ys₀)
      → get_or (scan step s₀ xs ys₀).1 i b ≡ (step s (get_or xs i a) (get_or ys₀ i b)).1
  scan_puts a b {i} {s₀} {s} {xs} {ys₀} {ys} f l =
      let e : scan step s₀ (take i xs) ys₀ ≡ (s, ys) =
      ap (λ (r : Ran (S × List B)). r.value) (sym (ap (λ (m : Draw (S × List B)). run m 0) (frames_still step s₀ (take i xs) ys₀)) ∙ f.so_far) in
      scan_at a b i s₀ xs ys₀ (omega arith) (omega arith) ∙ ap (λ (q : S × List B). (step q.0 (get_or xs i a) (get_or ys₀ i b)).1) e

-- ---- a loop that puts nothing out: the same laws, where what is read is put back

module _ {S A : Type 0} (step : S → A → S) where
  abbrev pub looking : S → A → A → S × A
  looking s x y = (step s x, y)

  scan_looking : (s : S) (xs : List A) → (scan looking s xs xs).0 ≡ over step s xs
  unfolding scan over
  scan_looking s [] = refl
  scan_looking s (x ∷ xs) = scan_looking (step s x) xs

abbrev pub Over : {S A : Type 0} (step : S → A → S) (s₀ : S) (xs : List A) (i : ℕ) (s : S) → Type 0
Over step s₀ xs i s = Scan (looking step) s₀ xs xs i s xs

module _ {S A : Type 0} {step : S → A → S} {s₀ : S} {xs : List A} where
  pub over_turn : {i : ℕ} {s : S} (a : A) {s' : S} → Over step s₀ xs i s → i < length xs → s' ≡ step s (get_or xs i a) → Over step s₀ xs (i + 1) s'
  over_turn {i} {s} a {s'} f l e =
      subst (λ (zs : List A). Scan (looking step) s₀ xs xs (i + 1) s' zs) (set-get_or xs i a)
      (scan_turn a a f (omega arith) (ap (λ (t : S). (t, get_or xs i a)) e))

  pub over_end : {i : ℕ} {s : S} → Over step s₀ xs i s → length xs ≤ i → s ≡ over step s₀ xs
  over_end f l = ap (λ (q : S × List A). q.0) (scan_end f (omega arith)) ∙ scan_looking step s₀ xs

-- ---- a loop that only counts: it goes over the numbers below n

pub length_numbers : (k n : ℕ) → length (numbers k n) ≡ n
length_numbers k zero = refl
length_numbers k (suc n) = ap suc (length_numbers (suc k) n)

numbers_at : (k n i d : ℕ) → i < n → get_or (numbers k n) i d ≡ k + i
numbers_at k zero i d l = absurd (not-suc-le-zero l)
numbers_at k (suc n) zero d l = omega arith
numbers_at k (suc n) (suc i) d l = omega (arith, numbers_at (suc k) n i d (le_of_suc-le-suc l))

-- i turns of n are done
pub record Counted {S : Type 0} (step : S → ℕ → S) (n : ℕ) (s₀ : S) (i : ℕ) (s : S) : Type 0 where
  pub within : i ≤ n
  pub done : Over step s₀ (up_to n) i s

module _ {S : Type 0} {step : S → ℕ → S} {n : ℕ} {s₀ : S} where
  pub counted_begin : Counted step n s₀ 0 s₀
  counted_begin = record { within = omega arith; done = frames_begin }

  pub counted_turn : {i : ℕ} {s s' : S} → Counted step n s₀ i s → i < n → s' ≡ step s i → Counted step n s₀ (i + 1) s'
  counted_turn {i} {s} c l e =
      record {
        within = omega arith;
        done = over_turn 0 c.done (omega (arith, length_numbers 0 n)) (e ∙ ap (step s) (omega (arith, numbers_at 0 n i 0 l)));
      }

  pub counted_end : {i : ℕ} {s : S} → Counted step n s₀ i s → n ≤ i → s ≡ over step s₀ (up_to n)
  counted_end c l = over_end c.done (omega (arith, length_numbers 0 n))

-- a loop that puts one value everywhere
pub scan_one : {B : Type 0} (b : B) (ys : List B) → (scan (λ (s : Unit {0}) (x y : B). (s, b)) tt ys ys).1 ≡ replicate (length ys) b
unfolding scan
scan_one b [] = refl
scan_one b (y ∷ ys) = ap (λ (zs : List _). b ∷ zs) (scan_one b ys)

-- ---- a loop that is not told its turns' numbers: a turn more
one_turn_more : {G : Type 0} (go : G → G) (n : ℕ) (g : G) → after go (suc n) g ≡ go (after go n g)
one_turn_more go zero g = refl
one_turn_more go (suc n) g = one_turn_more go n (go g)

pub after_turn : {G : Type 0} (go : G → G) (i : ℕ) (g₀ : G) {g g' : G} → g ≡ after go i g₀ → g' ≡ go g → g' ≡ after go (i + 1) g₀
after_turn go i g₀ e h = h ∙ ap go e ∙ sym (one_turn_more go i g₀) ∙ ap (λ (n : ℕ). after go n g₀) (sym (add-one i))

-- ---- two loops side by side: a relation of their states that a step keeps, with the same output, is kept by the loop, with the same output
module _ {S T A B : Type 0} (R : S → T → Type 0) (f : S → A → B → S × B) (g : T → A → B → T × B)
    (keeps : (s : S) (t : T) (a : A) (b : B) → R s t → R (f s a b).0 (g t a b).0 × ((f s a b).1 ≡ (g t a b).1)) where
  pub scan_alike : (s : S) (t : T) (xs : List A) (ys : List B) → R s t
      → R (scan f s xs ys).0 (scan g t xs ys).0 × ((scan f s xs ys).1 ≡ (scan g t xs ys).1)
  unfolding scan
  scan_alike s t [] ys r = (r, refl)
  scan_alike s t (x ∷ xs) [] r = (r, refl)
  scan_alike s t (x ∷ xs) (y ∷ ys) r =
      let k = keeps s t x y r in
      let q = scan_alike (f s x y).0 (g t x y).0 xs ys k.0 in
      (q.0, ap₂ (λ (z : B) (zs : List B). z ∷ zs) k.1 q.1)
