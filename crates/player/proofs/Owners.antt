-- Each slot's frames from its first event on belong to one event, the latest at or before them. Assumes nothing.
use mathlib.Core.Path.{◌≡◌, refl, sym, ap, ◌∙◌, subst}
use mathlib.Core.Logic.{◌⊎◌, inl, inr}
use Prim.Native.Nat.{ℕ, zero, suc, ◌+◌, ◌-◌, ◌≤◌, ◌<◌, suc-le-suc}
use native.Mathlib.Nat.{le_refl, le_of_eq, le_of_lt, le_trans, le_antisymm, lt_of_lt_of_le, le_of_suc-le-suc, not-suc-le-zero}
use native.Mathlib.Nat.{zero-lt-suc, zero-add, suc-add, add-zero, add-suc}
use native.Mathlib.Decide.{dec_lt, ℕ_discrete}
use native.Mathlib.Omega.{arith}
use mathlib.Core.Bool.{Bool, true, false, cond}
use mathlib.Core.List.{List, [], ◌∷◌}
use lib.ListN.{length, get_or, drop, length-drop}
use lib.Seq.{get_or-drop}
use lib.Dec.{eqb, leb, ltb}
use borrow.Author.Tests.{eqb-true, leb-true, ltb-true, eq-eqb}
use Rattle.std.specs.List.{list_all}
use Rattle.ground.proofs.Bools.{and_true}
use Rattle.player.specs.declared.sheet.Event.{Event}
use Rattle.player.specs.Sheet.{rises, before_end, until, Cue, cue_of, cues_from, cues}
use Rattle.player.proofs.Accepted.{Whole, whole}
use Rattle.player.specs.Owners.{no_event, no_cue, event_at, cue_at, Owns, Latest, Shared, EverySheet}

-- ---- the sheet's tests, as facts by index

above : (es : List Event) (p : ℕ) → rises p es ≡ true → (j : ℕ) → j < length es → p ≤ (event_at es j).frame
unfolding rises
above [] p h j l = absurd (not-suc-le-zero l)
above (e ∷ es) p h zero l = leb-true p e.frame ((and_true (leb p e.frame) (rises e.frame es) h).0)
above (e ∷ es) p h (suc j) l =
    let k = and_true (leb p e.frame) (rises e.frame es) h in
    let a = leb-true p e.frame k.0 in
    let b = above es e.frame k.1 j (le_of_suc-le-suc l) in
    omega arith

inside : (es : List Event) (n : ℕ) → list_all (before_end n) es ≡ true → (j : ℕ) → j < length es → (event_at es j).frame < n
inside [] n h j l = absurd (not-suc-le-zero l)
inside (e ∷ es) n h zero l = ltb-true e.frame n ((and_true (ltb e.frame n) (list_all (before_end n) es) h).0)
inside (e ∷ es) n h (suc j) l = inside es n ((and_true (ltb e.frame n) (list_all (before_end n) es) h).1) j (le_of_suc-le-suc l)

-- ---- where a render ends

-- t is before the end where it is before every event of the slot that follows
ends_past : (es : List Event) (n s t : ℕ) → t < n → ((j : ℕ) → j < length es → (event_at es j).slot ≡ s → t < (event_at es j).frame) → t < until n s es
unfolding until
ends_past [] n s t l f = l
ends_past (e ∷ es) n s t l f = go (eqb e.slot s) (eqb-true e.slot s) (ends_past es n s t l (λ j h. f (suc j) (suc-le-suc h)))
  where
    go : (b : Bool) → (b ≡ true → e.slot ≡ s) → t < until n s es → t < cond b e.frame (until n s es)
    go true p r = f 0 (zero-lt-suc (length es)) (p refl)
    go false p r = r

-- the end is at or before every event of the slot that follows
end_most : (es : List Event) (n s p : ℕ) → rises p es ≡ true → (j : ℕ) → j < length es → (event_at es j).slot ≡ s → until n s es ≤ (event_at es j).frame
unfolding until rises
end_most [] n s p h j l q = absurd (not-suc-le-zero l)
end_most (e ∷ es) n s p h zero l q = le_of_eq (ap (λ (b : Bool). cond b e.frame (until n s es)) (eq-eqb e.slot s q))
end_most (e ∷ es) n s p h (suc j) l q =
    let k = (and_true (leb p e.frame) (rises e.frame es) h).1 in
    go (eqb e.slot s) (above es e.frame k j (le_of_suc-le-suc l)) (end_most es n s e.frame k j (le_of_suc-le-suc l) q)
  where
    go : (b : Bool) → e.frame ≤ (event_at es j).frame → until n s es ≤ (event_at es j).frame → cond b e.frame (until n s es) ≤ (event_at es j).frame
    go true x y = x
    go false x y = y

-- it is in the block, and not before what the frames rise from
pick_most : (b : Bool) (x y n : ℕ) → x ≤ n → y ≤ n → cond b x y ≤ n
pick_most true x y n h k = h
pick_most false x y n h k = k

pick_least : (b : Bool) (x y p : ℕ) → p ≤ x → p ≤ y → p ≤ cond b x y
pick_least true x y p h k = h
pick_least false x y p h k = k

end_in : (es : List Event) (n s : ℕ) → list_all (before_end n) es ≡ true → until n s es ≤ n
unfolding until
end_in [] n s h = le_refl n
end_in (e ∷ es) n s h =
    let k = and_true (ltb e.frame n) (list_all (before_end n) es) h in
    pick_most (eqb e.slot s) e.frame (until n s es) n (le_of_lt (ltb-true e.frame n k.0)) (end_in es n s k.1)

end_least : (es : List Event) (n s p : ℕ) → rises p es ≡ true → p ≤ n → list_all (before_end n) es ≡ true → p ≤ until n s es
unfolding until rises
end_least [] n s p h l w = l
end_least (e ∷ es) n s p h l w =
    let k = and_true (leb p e.frame) (rises e.frame es) h in
    let v = and_true (ltb e.frame n) (list_all (before_end n) es) w in
    let a = leb-true p e.frame k.0 in
    pick_least (eqb e.slot s) e.frame (until n s es) p a
    (le_trans a (end_least es n s e.frame k.1 (le_of_lt (ltb-true e.frame n v.0)) v.1))

-- ---- what follows an event
rest_rises : (es : List Event) (p i : ℕ) → rises p es ≡ true → i < length es → rises (event_at es i).frame (drop (suc i) es) ≡ true
unfolding rises
rest_rises [] p i h l = absurd (not-suc-le-zero l)
rest_rises (e ∷ es) p zero h l = (and_true (leb p e.frame) (rises e.frame es) h).1
rest_rises (e ∷ es) p (suc i) h l = rest_rises es e.frame i ((and_true (leb p e.frame) (rises e.frame es) h).1) (le_of_suc-le-suc l)

rest_before : (es : List Event) (n i : ℕ) → list_all (before_end n) es ≡ true → list_all (before_end n) (drop i es) ≡ true
rest_before es n zero h = h
rest_before [] n (suc i) h = h
rest_before (e ∷ es) n (suc i) h = rest_before es n i ((and_true (ltb e.frame n) (list_all (before_end n) es) h).1)

-- ---- the cues by index
pub one_each : (es : List Event) (n k : ℕ) → length (cues_from n k es) ≡ length es
unfolding cues_from
one_each [] n k = refl
one_each (e ∷ es) n k = ap suc (one_each es n (suc k))

abbrev pub cue_made : ℕ → List Event → ℕ → ℕ → Cue
cue_made n es i k = cue_of k (event_at es i) (until n (event_at es i).slot (drop (suc i) es))

cue_from : (es : List Event) (n k i : ℕ) → i < length es → get_or (cues_from n k es) i no_cue ≡ cue_made n es i (k + i)
unfolding cues_from
cue_from [] n k i l = absurd (not-suc-le-zero l)
cue_from (e ∷ es) n k zero l = ap (cue_made n (e ∷ es) 0) (sym (add-zero k))
cue_from (e ∷ es) n k (suc i) l = cue_from es n (suc k) i (le_of_suc-le-suc l) ∙ ap (cue_made n es i) (suc-add k i ∙ sym (add-suc k i))

pub cue_is : (es : List Event) (n i : ℕ) → i < length es → get_or (cues n es) i no_cue ≡ cue_made n es i i
cue_is es n i l = cue_from es n 0 i l ∙ ap (cue_made n es i) (zero-add i)

-- ---- a frame's owner is its latest event
module _ (n : ℕ) (es : List Event) (ok : Whole n es) where
  there : (i : ℕ) → i < length (cues n es) → i < length es
  there i l = subst (λ (x : ℕ). i < x) (one_each es n 0) l

  -- an event j that follows i stands at j - (i + 1) in the rest
  follows : (i j : ℕ) → i < j → event_at (drop (suc i) es) (j - suc i) ≡ event_at es j
  follows i j l = let e : suc i + (j - suc i) ≡ j = omega arith in get_or-drop (suc i) es (j - suc i) no_event ∙ ap (event_at es) e

  left : (i j : ℕ) → i < j → j < length es → j - suc i < length (drop (suc i) es)
  left i j l h = simp length-drop (omega arith)

  owns_latest : (s t i : ℕ) → Owns n es s t i → Latest es s t i
  owns_latest s t i o =
      let l = there i o.there in
      let r = cue_is es n i l in
      let q : (event_at es i).slot ≡ s = sym (ap (λ (x : Cue). x.slot) r) ∙ o.slot in
      let u : t < until n (event_at es i).slot (drop (suc i) es) = subst (λ (x : Cue). t < x.to) r o.to in
      record {
        there = l;
        slot = q;
        before = subst (λ (x : Cue). x.from ≤ t) r o.from;
        last = λ j a b c.
            let f = follows i j a in
            let g : (event_at (drop (suc i) es) (j - suc i)).slot ≡ (event_at es i).slot = ap (λ (e : Event). e.slot) f ∙ c ∙ sym q in
            lt_of_lt_of_le u
            (subst (λ (e : Event). until n (event_at es i).slot (drop (suc i) es) ≤ e.frame) f
            (end_most (drop (suc i) es) n (event_at es i).slot (event_at es i).frame (rest_rises es 0 i ok.order l) (j - suc i) (left i j a b) g));
      }

  latest_owns : (s t i : ℕ) → t < n → Latest es s t i → Owns n es s t i
  latest_owns s t i h o =
      let l = o.there in
      let r = cue_is es n i l in
      let u : t < until n (event_at es i).slot (drop (suc i) es) =
      ends_past (drop (suc i) es) n (event_at es i).slot t h
      (λ j a c.
      let f = get_or-drop (suc i) es j no_event in
      let b : suc i + j < length es = omega (arith, simp length-drop at a) in
      subst (λ (e : Event). t < e.frame) (sym f) (o.last (suc i + j) (omega arith) b (sym (ap (λ (e : Event). e.slot) f) ∙ c ∙ o.slot))) in
      record {
        there = subst (λ (x : ℕ). i < x) (sym (one_each es n 0)) l;
        slot = ap (λ (x : Cue). x.slot) r ∙ o.slot;
        from = subst (λ (x : Cue). x.from ≤ t) (sym r) o.before;
        to = subst (λ (x : Cue). t < x.to) (sym r) u;
      }

-- there is no second latest
one_latest : (es : List Event) (s t i j : ℕ) → Latest es s t i → Latest es s t j → i ≡ j
one_latest es s t i j a b = go (dec_lt i j) (dec_lt j i)
  where
    go : Dec (i < j) → Dec (j < i) → i ≡ j
    go (yes l) m = absurd (omega (arith, a.last j l b.there b.slot, b.before))
    go (no l) (yes m) = absurd (omega (arith, b.last i m a.there a.slot, a.before))
    go (no l) (no m) = omega arith

-- ---- the latest event is found from the end of the sheet
abbrev None : List Event → ℕ → ℕ → Type 0
None es s t = (j : ℕ) → j < length es → (event_at es j).slot ≡ s → t < (event_at es j).frame

further : (e : Event) (es : List Event) (s t i : ℕ) → Latest es s t i → Latest (e ∷ es) s t (suc i)
further e es s t i o = record { there = suc-le-suc o.there; slot = o.slot; before = o.before; last = later }
  where
    later : (j : ℕ) → suc i < j → j < length (e ∷ es) → (event_at (e ∷ es) j).slot ≡ s → t < (event_at (e ∷ es) j).frame
    later zero a b c = absurd (not-suc-le-zero a)
    later (suc j) a b c = o.last j (le_of_suc-le-suc a) (le_of_suc-le-suc b) c

find : (es : List Event) (s t : ℕ) → ((i : ℕ) × Latest es s t i) ⊎ None es s t
find [] s t = inr (λ j l q. absurd (not-suc-le-zero l))
find (e ∷ es) s t = go (find es s t) (ℕ_discrete e.slot s) (dec_lt t e.frame)
  where
    first : e.slot ≡ s → e.frame ≤ t → None es s t → Latest (e ∷ es) s t 0
    first q b f = record { there = zero-lt-suc (length es); slot = q; before = b; last = later }
      where
        later : (j : ℕ) → 0 < j → j < length (e ∷ es) → (event_at (e ∷ es) j).slot ≡ s → t < (event_at (e ∷ es) j).frame
        later zero a b c = absurd (not-suc-le-zero a)
        later (suc j) a b c = f j (le_of_suc-le-suc b) c

    none : (e.slot ≡ s → t < e.frame) → None es s t → None (e ∷ es) s t
    none g f zero l q = g q
    none g f (suc j) l q = f j (le_of_suc-le-suc l) q

    go : ((i : ℕ) × Latest es s t i) ⊎ None es s t → Dec (e.slot ≡ s) → Dec (t < e.frame) → ((i : ℕ) × Latest (e ∷ es) s t i) ⊎ None (e ∷ es) s t
    go (inl o) q b = inl (suc o.0, further e es s t o.0 o.1)
    go (inr f) (yes q) (yes b) = inr (none (λ r. b) f)
    go (inr f) (yes q) (no b) = inl (0, first q (omega arith) f)
    go (inr f) (no q) b = inr (none (λ r. absurd (q r)) f)

-- ---- the claim
module _ (n : ℕ) (es : List Event) (ok : Whole n es) where
  -- a render's frames lie in the block
  pub lies : (i : ℕ) → i < length es → let to = until n (event_at es i).slot (drop (suc i) es) in ((event_at es i).frame ≤ to) × (to ≤ n)
  lies i l =
      let w = rest_before es n (suc i) ok.inside in
      let h = inside es n ok.inside i l in
      let s = (event_at es i).slot in
      (end_least (drop (suc i) es) n s (event_at es i).frame (rest_rises es 0 i ok.order l) (le_of_lt h) w, end_in (drop (suc i) es) n s w)

  part : (i : ℕ) → i < length es → ((cue_at n es i).from ≤ (cue_at n es i).to) × ((cue_at n es i).to ≤ n)
  part i l = subst (λ (x : Cue). (x.from ≤ x.to) × (x.to ≤ n)) (sym (cue_is es n i l)) (lies i l)

  owner : (s t j : ℕ) → t < n → j < length es → (event_at es j).slot ≡ s → (event_at es j).frame ≤ t → (i : ℕ) × Owns n es s t i
  owner s t j h l q b = go (find es s t)
    where
      go : ((i : ℕ) × Latest es s t i) ⊎ None es s t → (i : ℕ) × Owns n es s t i
      go (inl o) = (o.0, latest_owns n es ok s t o.0 h o.1)
      go (inr f) = absurd (omega (arith, f j l q))

  -- a later event of the slot on the same frame ends the render where it begins
  empty : (i j : ℕ) → i < j → j < length es → (event_at es j).slot ≡ (event_at es i).slot → (event_at es j).frame ≡ (event_at es i).frame
      → (get_or (cues n es) i no_cue).to ≡ (get_or (cues n es) i no_cue).from
  empty i j l h q f =
      let k : i < length es = omega arith in
      let r = cue_is es n i k in
      let p = (part i k).0 in
      let g = follows n es ok i j l in
      let u : until n (event_at es i).slot (drop (suc i) es) ≤ (event_at es j).frame =
      subst (λ (e : Event). until n (event_at es i).slot (drop (suc i) es) ≤ e.frame) g
      (end_most (drop (suc i) es) n (event_at es i).slot (event_at es i).frame (rest_rises es 0 i ok.order k) (j - suc i)
      (left n es ok i j l h) (ap (λ (e : Event). e.slot) g ∙ q)) in
      let p2 : (event_at es i).frame ≤ until n (event_at es i).slot (drop (suc i) es) = subst (λ (x : Cue). x.from ≤ x.to) r p in
      subst (λ (x : Cue). x.to ≡ x.from) (sym r) (le_antisymm (le_trans u (le_of_eq f)) p2)

  shared : Shared n es
  shared = record {
    each = one_each es n 0;
    place = λ i l. ap (λ (x : Cue). x.place) (cue_is es n i l);
    slot = λ i l. ap (λ (x : Cue). x.slot) (cue_is es n i l);
    knobs = λ i l. ap (λ (x : Cue). x.knobs) (cue_is es n i l);
    from = λ i l. ap (λ (x : Cue). x.from) (cue_is es n i l);
    most = le_trans (le_of_eq (one_each es n 0)) ok.few;
    part = part;
    latest = λ s t i h. (owns_latest n es ok s t i, latest_owns n es ok s t i h);
    owner = owner;
    single = λ s t i j a b. one_latest es s t i j (owns_latest n es ok s t i a) (owns_latest n es ok s t j b);
    empty = empty;
  }

pub every_sheet : EverySheet
unfolding EverySheet
every_sheet bad es answers b e = shared (length b.temp) es (whole bad es answers b e)
