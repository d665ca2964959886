-- A filter over a block that ends in silence: laws over plain values. Assumes nothing.
use Rattle.std.proofs.Common.{◌≡◌, ℕ, zero, suc, ◌+◌, ◌-◌, ◌*◌, ◌<◌, ◌≤◌, min, List, [], ◌∷◌, ◌++◌, length, get_or, drop, set, sym, refl, ap, ◌∙◌, arith}
use Rattle.std.proofs.Common.{le_of_suc-le-suc, not-suc-le-zero, add-one, length-set}
use Prim.Native.Nat.{◌/◌, ◌%◌}
use native.Mathlib.Nat.{div-add-mod, zero-mod}
use native.Mathlib.Decide.{dec_lt}
use Rattle.std.specs.Prelude.{Float}
use Rattle.std.specs.Float.{nan}
use Rattle.ground.specs.F32.{c0}
use Rattle.ground.specs.Frames.{scan, tab, after}
use Rattle.ground.proofs.Frames.{after_turn}
use Rattle.ground.proofs.Tab.{Stored, stored_begin, stored_turn}
use Rattle.noise.specs.declared.settling.Settled.{Settled}
use Rattle.noise.specs.Settling.{SilentFrom, filtered, before, given, quiet, Settles}

-- from m on what was looked at, i frames, is silent
pub record SilentSoFar (xs : List Float) (m i : ℕ) : Type 0 where
  pub silent : (k : ℕ) → m ≤ k → k < i → get_or xs k nan ≡ c0

module _ (xs : List Float) where
  pub silent_anew : (i : ℕ) → SilentSoFar xs i i
  silent_anew i = record { silent = λ k l h. absurd (omega arith) }

  pub silent_turn : {m i : ℕ} → SilentSoFar xs m i → get_or xs i nan ≡ c0 → SilentSoFar xs m (i + 1)
  silent_turn {m} {i} v e = record { silent = λ k l h. go k l h (dec_lt k i) }
    where
      go : (k : ℕ) → m ≤ k → k < i + 1 → Dec (k < i) → get_or xs k nan ≡ c0
      go k l h (yes p) = v.silent k l p
      go k l h (no p) = let q : k ≡ i = omega (arith, h, p) in ap (λ (k : ℕ). get_or xs k nan) q ∙ e

-- what was stored at k
got : {X : Type 0} (g : ℕ → X) (i k : ℕ) (xs : List X) (d : X) → k < i → get_or (tab i g ++ xs) k d ≡ g k
unfolding tab
got g zero k xs d l = absurd (not-suc-le-zero l)
got g (suc i) zero xs d l = refl
got g (suc i) (suc k) xs d l = got (λ j. g (suc j)) i k xs d (le_of_suc-le-suc l)

-- ---- turns of a loop that comes round
module _ {G : Type 0} (go : G → G) where
  more : (n : ℕ) (g : G) → go (after go n g) ≡ after go (suc n) g
  more n g = after_turn go n g {g = after go n g} refl refl ∙ ap (λ (k : ℕ). after go k g) (add-one n)

  after_add : (a b : ℕ) (g : G) → after go (a + b) g ≡ after go b (after go a g)
  after_add zero b g = (let e : 0 + b ≡ b = omega arith in ap (λ (k : ℕ). after go k g) e)
  after_add (suc a) b g = (let e : suc a + b ≡ suc (a + b) = omega arith in ap (λ (k : ℕ). after go k g) e) ∙ after_add a b (go g)

  rounds : (p q r : ℕ) (g : G) → after go p g ≡ g → after go (p * q + r) g ≡ after go r g
  rounds p zero r g e = (let z : p * 0 + r ≡ r = omega arith in ap (λ (k : ℕ). after go k g) z)
  rounds p (suc q) r g e =
      (let z : p * suc q + r ≡ p + (p * q + r) = omega arith in ap (λ (k : ℕ). after go k g) z)
      ∙ after_add p (p * q + r) g ∙ ap (after go (p * q + r)) e ∙ rounds p q r g e

module _ {F : Type 0} (step : F → Float → F × Float) where
  -- ---- the loop over a block, told by what the filter is before each frame
  shift : (f : F) (x : Float) (xs : List Float) (i : ℕ) → before step f (x ∷ xs) (suc i) ≡ before step (step f x).0 xs i
  shift f x xs zero = refl
  shift f x xs (suc i) = ap (λ (g : F). (step g (get_or xs i nan)).0) (shift f x xs i)

  none : (f : F) (xs ys : List Float) → 0 ≡ min (length xs) (length ys)
      → ◌≡◌ {A = F × List Float} (f, ys) (let n = min (length xs) (length ys) in (before step f xs n, tab n (given step f xs) ++ drop n ys))
  unfolding tab
  none f xs ys e = ap (λ (n : ℕ). (before step f xs n, tab n (given step f xs) ++ drop n ys)) e

  told : (f : F) (xs ys : List Float) → filtered step f xs ys
      ≡ (let n = min (length xs) (length ys) in (before step f xs n, tab n (given step f xs) ++ drop n ys))
  unfolding scan tab
  told f [] ys = none f [] ys (omega arith)
  told f (x ∷ xs) [] = none f (x ∷ xs) [] (omega arith)
  told f (x ∷ xs) (y ∷ ys) =
      let k = min (length xs) (length ys) in
      let m : suc k ≡ min (length (x ∷ xs)) (length (y ∷ ys)) = omega arith in
      ap (λ (q : F × List Float). (q.0, (step f x).1 ∷ q.1)) (told (step f x).0 xs ys)
      ∙ (λ j. (sym (shift f x xs k) j, (step f x).1 ∷ (tab k (λ i. (step (sym (shift f x xs i) j) (get_or xs i nan)).1) ++ drop k ys)))
      ∙ ap (λ (n : ℕ). (before step f (x ∷ xs) n, tab n (given step f (x ∷ xs)) ++ drop n (y ∷ ys))) m

module _ {F : Type 0} (step : F → Float → F × Float) (f : F) (xs ys : List Float) where
  -- i frames are done, and the anchor is the filter before the frame at
  pub record Coming (n i : ℕ) (filter anchor : F) (at : ℕ) (zs : List Float) : Type 0 where
    pub all : n ≡ min (length xs) (length ys)
    pub filter_is : filter ≡ before step f xs i
    pub anchor_is : anchor ≡ before step f xs at
    pub earlier : at ≤ i
    pub stored : Stored (given step f xs) ys i zs
    pub size : length zs ≡ length ys

  pub coming_begin : {n : ℕ} → n ≡ min (length xs) (length ys) → Coming n 0 f f 0 ys
  coming_begin e = record { all = e; filter_is = refl; anchor_is = refl; earlier = omega arith; stored = stored_begin; size = refl }

  pub coming_turn : {n i at at' : ℕ} {g g' a a' : F} {zs : List Float} {y : Float} → Coming n i g a at zs → i < n
      → ◌≡◌ {A = F × Float} (g', y) (step g (get_or xs i nan)) → a' ≡ before step f xs at' → at' ≤ i → Coming n (i + 1) g' a' at' (set zs i y)
  coming_turn {i = i} {zs = zs} {y = y} v l e ea t =
      let q = e ∙ ap (λ (g : F). step g (get_or xs i nan)) v.filter_is in
      record {
        all = v.all;
        filter_is = ap (λ (q : F × Float). q.0) q ∙ ap (before step f xs) (sym (add-one i));
        anchor_is = ea;
        earlier = omega arith;
        stored = stored_turn v.stored (omega (arith, v.all)) (ap (λ (q : F × Float). q.1) q);
        size = length-set zs i y ∙ v.size;
      }

  -- the filter is the anchor
  pub coming_round : {n i at : ℕ} {g a : F} {zs : List Float} (m : ℕ) → Coming n (i + 1) g a at zs → i < n → at ≤ i → m ≤ at → g ≡ a
      → Settles step f xs m ys (record { filter = g; frame = i + 1; period = i + 1 - at }) zs
  coming_round {i = i} {at = at} m v l t h e =
      let p : i + 1 - (i + 1 - at) ≡ at = omega arith in
      record {
        within = omega (arith, v.all);
        turns = omega arith;
        filter = v.filter_is;
        so_far = v.stored.so_far;
        silent = λ k. omega arith;
        round = λ k. sym v.filter_is ∙ e ∙ v.anchor_is ∙ ap (before step f xs) (sym p);
      }

  pub coming_end : {n i at : ℕ} {g a : F} {zs : List Float} (m : ℕ) → Coming n i g a at zs → i ≡ n
      → Settles step f xs m ys (record { filter = g; frame = n; period = 1 }) zs
  coming_end {n} {i} {zs = zs} m v e =
      record {
        within = omega (arith, v.all);
        turns = omega arith;
        filter = v.filter_is ∙ ap (before step f xs) e;
        so_far = v.stored.so_far ∙ ap (λ (k : ℕ). tab k (given step f xs) ++ drop k ys) e;
        silent = λ k. absurd (omega (arith, v.all, k));
        round = λ k. absurd (omega (arith, v.all, k));
      }

  -- ---- in silence
  module _ (m : ℕ) (quiet_there : SilentFrom m xs) where
    onward : (i d : ℕ) → m ≤ i → i + d ≤ length xs → before step f xs (i + d) ≡ after (quiet step) d (before step f xs i)
    onward i zero l k = (let e : i + 0 ≡ i = omega arith in ap (before step f xs) e)
    onward i (suc d) l k =
        (let e : i + suc d ≡ suc (i + d) = omega arith in ap (before step f xs) e)
        ∙ (λ j. (step (onward i d l (omega arith) j) (quiet_there (i + d) (omega arith) (omega arith) j)).0)
        ∙ more (quiet step) d (before step f xs i)

    -- the frames behind the one where it came round: what stands a period before is given again
    module _ {r : Settled F} {zs : List Float} (c : Settles step f xs m ys r zs) where
      again : (i : ℕ) → r.frame ≤ i → i < min (length xs) (length ys) → before step f xs i ≡ before step f xs (i - r.period)
      again i l k =
          let h : r.frame < min (length xs) (length ys) = omega arith in
          let s = c.silent h in
          let d = i - r.frame in
          let o = r.frame - r.period in
          let ei : r.frame + d ≡ i = omega arith in
          let eo : o + d ≡ i - r.period = omega (arith, s) in
          ap (before step f xs) (sym ei) ∙ onward r.frame d (omega (arith, s)) (omega arith) ∙ ap (after (quiet step) d) (c.round h)
          ∙ sym (onward o d (omega (arith, s)) (omega (arith, s))) ∙ ap (before step f xs) eo

      pub settled_turn : {i : ℕ} {ws : List Float} → Stored (given step f xs) ys i ws → r.frame ≤ i → i < min (length xs) (length ys)
          → Stored (given step f xs) ys (i + 1) (set ws i (get_or ws (i - r.period) nan))
      settled_turn {i} {ws} v l k =
          let s = c.silent (omega arith) in
          let t = c.turns in
          stored_turn v (omega arith)
          (ap (λ (zs : List Float). get_or zs (i - r.period) nan) v.so_far ∙ got (given step f xs) i (i - r.period) (drop i ys) nan (omega arith)
          ∙ (λ j. (step (sym (again i l k) j) ((quiet_there (i - r.period) (omega arith) (omega arith) ∙ sym (quiet_there i (omega arith) (omega arith)))
          j)).1))

      pub settled_end : {n i : ℕ} {g : F} {ws : List Float} → n ≡ min (length xs) (length ys) → Stored (given step f xs) ys i ws → i ≡ n
          → g ≡ after (quiet step) ((n - r.frame) % r.period) r.filter → ◌≡◌ {A = F × List Float} (g, ws) (filtered step f xs ys)
      settled_end {n} {i} {g} {ws} en v ei e = ap (λ (h : F). (h, ws))
          (e ∙ ap (after (quiet step) ((n - r.frame) % r.period)) c.filter ∙ last (dec_lt r.frame n))
          ∙ ap (λ (zs : List Float). (before step f xs n, zs)) (v.so_far ∙ ap (λ (k : ℕ). tab k (given step f xs) ++ drop k ys) ei)
          ∙ ap (λ (k : ℕ). (before step f xs k, tab k (given step f xs) ++ drop k ys)) en ∙ sym (told step f xs ys)
        where
          last : Dec (r.frame < n) → after (quiet step) ((n - r.frame) % r.period) (before step f xs r.frame) ≡ before step f xs n
          last (yes l) =
              let h : r.frame < min (length xs) (length ys) = omega (arith, en) in
              let s = c.silent h in
              let p = r.period in
              let d = n - r.frame in
              let o = r.frame - p in
              let eo : o + p ≡ r.frame = omega (arith, s) in
              let en' : r.frame + d ≡ n = omega arith in
              let turn : after (quiet step) p (before step f xs r.frame) ≡ before step f xs r.frame =
              ap (after (quiet step) p) (c.round h) ∙ sym (onward o p (omega (arith, s)) (omega (arith, s))) ∙ ap (before step f xs) eo in
              sym (rounds (quiet step) p (d / p) (d % p) (before step f xs r.frame) turn)
              ∙ ap (λ (k : ℕ). after (quiet step) k (before step f xs r.frame)) (div-add-mod d p)
              ∙ sym (onward r.frame d (omega (arith, s)) (omega (arith, en)))
              ∙ ap (before step f xs) en'
          last (no l) =
              let z : n ≡ r.frame = omega (arith, c.within, en) in
              let k : (n - r.frame) % r.period ≡ 0 = ap (λ (q : ℕ). q % r.period) (omega (arith, z)) ∙ zero-mod r.period in
              ap (λ (q : ℕ). after (quiet step) q (before step f xs r.frame)) k ∙ ap (before step f xs) (sym z)
