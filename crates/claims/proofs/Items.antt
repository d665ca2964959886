-- The account of every list of items, from that of the calls that they make. Assumes nothing.
use mathlib.Core.Path.{◌≡◌, refl, sym, ap, ◌∙◌, subst}
use mathlib.Core.Logic.{◌≢◌, ◌⊎◌, inl, inr}
use mathlib.Core.Bool.{Bool, true, false, not}
use mathlib.Core.List.{List, [], ◌∷◌, ◌++◌, map}
use Prim.Native.Nat.{ℕ, zero, suc, ◌-◌, ◌≤◌, min}
use native.Mathlib.Decide.{ℕ_discrete}
use native.Mathlib.Omega.{arith}
use lib.ListN.{length, get_or, set, take, drop, replicate, length-replicate}
use lib.Ieee.{Float}
use lib.Dec.{eqb}
use borrow.Author.Tests.{ne_eqb}
use Rattle.std.proofs.Common.{length-append, length-take, length-drop, le_of_suc-le-suc, not-suc-le-zero}
use Rattle.std.proofs.lemmas.List.{set_at, append_assoc, map-append, length-map}
use Rattle.std.proofs.lemmas.Simd.{map-map}
use Rattle.std.specs.Prelude.{Result, Ok, Err}
use Rattle.ground.specs.F32.{c0}
use Rattle.ground.specs.Each.{Each}
use Rattle.ground.specs.Frames.{over}
use Rattle.ground.specs.Part.{part, put}
use Rattle.noise.specs.declared.excitation.Knobs.{Knobs}
use Rattle.noise.specs.declared.excitation.Counts.{Counts}
use Rattle.slots.specs.declared.answers.Reason.{Reason}
use Rattle.slots.specs.declared.answers.Reason.TheVariants.{Memory}
use Rattle.slots.specs.Answers.{number_of, no_counts}
use Rattle.slots.specs.Slots.{slot_at}
use Rattle.slots.specs.Calls.{Bufs, Act, opening, reset, render, InF32}
use Rattle.slots.specs.Table.{Call, first, checks, verdict, bad}
use Rattle.bank.specs.World.{World, start, Event, call_by, call_def, run_from, end_from}
use Rattle.player.specs.declared.sheet.Event.{Event as SheetEvent}
use Rattle.player.specs.declared.play.Told.{Told}
use Rattle.player.specs.Sheet.{AreF32, sheet_verdict, until, Cue, cue_of, cues_from, cues}
use Rattle.player.specs.Play.{told, told_of, span, put_span, cue_call, Playing, turn, turns, play_by, play_def, bank_move}
use Rattle.claims.specs.Ledger.{Led, fresh_led, Line, act_entry, line_by, line_of, ledger_from, ledger}
use Rattle.claims.specs.Claim.{Account}
use Rattle.claims.specs.Items.{Item, one, sheet, play_events, sheet_events, Made, made, run_items, end_items, all_events, calls_in, ItemLine, told_lines}
use Rattle.claims.specs.Items.{sheet_line, item_line, slots_after, items_from, items_ledger, all_lines, all_calls, blank_act, blank, KeptItem, KeptItems, Demand3Items}
use Rattle.claims.proofs.Acts.{SameSizes, same_sizes}
use Rattle.claims.proofs.OneCall.{Inv, leds, not_bad, Step, step}
use Rattle.player.proofs.Accepted.{taken}
use Rattle.player.proofs.Owners.{one_each}
use Rattle.claims.proofs.Whole.{facts, fresh_inv, fresh_leds, one_event, one_line, account_of}

-- ---- runs, one after the other

run_append : (xs ys : List Call) (w : World) → run_from w (xs ++ ys) ≡ run_from w xs ++ run_from (end_from w xs) ys
unfolding run_from end_from
run_append [] ys w = refl
run_append (x ∷ xs) ys w = ap (λ (r : List Event). call_def w x ∷ r) (run_append xs ys (call_def w x).after)

end_append : (xs ys : List Call) (w : World) → end_from w (xs ++ ys) ≡ end_from (end_from w xs) ys
unfolding end_from
end_append [] ys w = refl
end_append (x ∷ xs) ys w = end_append xs ys (call_def w x).after

call_is : (w : World) (c : Call) → (call_def w c).call ≡ c
unfolding call_def
call_is w c = go (verdict (bad w.bank w.mem) (slot_at w.bank c.slot).kind c)
  where
    go : (r : Result (Unit {0}) Reason) → (call_by r w c).call ≡ c
    go (Ok u) = unfold call_by in refl
    go (Err r) = unfold call_by in refl

-- es is what its own calls make from w on, and v is where they end
record Run (w : World) (es : List Event) (v : World) : Type 0 where
  is : es ≡ run_from w (calls_in es)
  ends : v ≡ end_from w (calls_in es)

run_none : (w : World) → Run w [] w
unfolding run_from end_from
run_none w = record { is = refl; ends = refl }

run_on : (w : World) (c : Call) (es : List Event) (v : World) → Run (call_def w c).after es v → Run w (call_def w c ∷ es) v
unfolding run_from end_from
run_on w c es v r =
    record {
      is = (λ i. call_def w c ∷ r.is i) ∙ ap (λ (d : Call). call_def w d ∷ run_from (call_def w d).after (calls_in es)) (sym (call_is w c));
      ends = r.ends ∙ ap (λ (d : Call). end_from (call_def w d).after (calls_in es)) (sym (call_is w c));
    }

run_join : (w v u : World) (xs ys : List Event) → Run w xs v → Run v ys u → Run w (xs ++ ys) u
run_join w v u xs ys p q =
    let m : calls_in (xs ++ ys) ≡ calls_in xs ++ calls_in ys = map-append (λ (e : Event). e.call) xs ys in
    record {
      is = ap (λ (r : List Event). r ++ ys) p.is
          ∙ ap (λ (r : List Event). run_from w (calls_in xs) ++ r) (q.is ∙ ap (λ (x : World). run_from x (calls_in ys)) p.ends)
          ∙ sym (run_append (calls_in xs) (calls_in ys) w)
          ∙ ap (run_from w) (sym m);
      ends = q.ends ∙ ap (λ (x : World). end_from x (calls_in ys)) p.ends ∙ sym (end_append (calls_in xs) (calls_in ys) w) ∙ ap (end_from w) (sym m);
    }

-- ---- the ledger over lists, one after the other

ledger_append : (size : ℕ) (xs ys : List Call) (ls : List Led)
    → ledger_from size ls (xs ++ ys) ≡ ledger_from size ls xs ++ ledger_from size (slots_after ls (ledger_from size ls xs)) ys
unfolding ledger_from slots_after
ledger_append size [] ys ls = refl
ledger_append size (x ∷ xs) ys ls = ap (λ (r : List Line). line_of size ls x ∷ r) (ledger_append size xs ys (line_of size ls x).slots)

-- it reads of the buffers their lengths alone
module _ (size slot : ℕ) (ls : List Led) (k : Knobs) (b b' : Bufs) (s : SameSizes b b') where
  verdict_sizes : (bad : Bool) (kind : ℕ)
      → verdict bad kind (record { slot = slot; act = render k b }) ≡ verdict bad kind (record { slot = slot; act = render k b' })
  unfolding verdict checks
  verdict_sizes bad kind = rw (s.temp, s.temp2, s.out, s.aux)

  by_sizes : (r : Result (Unit {0}) Reason) → line_by r ls (record { slot = slot; act = render k b }) ≡ line_by r ls (record { slot = slot; act = render k b' })
  unfolding line_by act_entry
  by_sizes (Ok u) = rw s.temp
  by_sizes (Err r) = refl

  line_sizes : line_of size ls (record { slot = slot; act = render k b }) ≡ line_of size ls (record { slot = slot; act = render k b' })
  unfolding line_of
  line_sizes =
      let kind = (get_or ls slot fresh_led).kind in
      ap (λ (r : Result (Unit {0}) Reason). line_by r ls (record { slot = slot; act = render k b })) (verdict_sizes (not (eqb size 10240)) kind)
      ∙ by_sizes (verdict (not (eqb size 10240)) kind (record { slot = slot; act = render k b' }))

line_blank : (size : ℕ) (ls : List Led) (c : Call) → line_of size ls (blank c) ≡ line_of size ls c
line_blank size ls c = go c.act
  where
    go : (a : Act) → line_of size ls (record { slot = c.slot; act = blank_act a }) ≡ line_of size ls (record { slot = c.slot; act = a })
    go (opening kind rate) = refl
    go reset = refl
    go (render k b) = line_sizes size c.slot ls k _ b (record {
      temp = length-replicate (length b.temp) c0;
      temp2 = length-replicate (length b.temp2) c0;
      out = length-replicate (length b.out) c0;
      aux = length-replicate (length b.aux) c0;
    })

ledger_blank : (size : ℕ) (cs : List Call) (ls : List Led) → ledger_from size ls (map blank cs) ≡ ledger_from size ls cs
unfolding ledger_from
ledger_blank size [] ls = refl
ledger_blank size (c ∷ cs) ls =
    ap (λ (l : Line). l ∷ ledger_from size l.slots (map blank cs)) (line_blank size ls c)
    ∙ ap (λ (r : List Line). line_of size ls c ∷ r) (ledger_blank size cs (line_of size ls c).slots)

ledger_alike : (size : ℕ) (cs ds : List Call) (ls : List Led) → map blank cs ≡ map blank ds → ledger_from size ls cs ≡ ledger_from size ls ds
ledger_alike size cs ds ls e = sym (ledger_blank size cs ls) ∙ ap (ledger_from size ls) e ∙ ledger_blank size ds ls

-- ---- buffers of one length

part_size : (a k : ℕ) (xs ys : List Float) → length xs ≡ length ys → length (part a k xs) ≡ length (part a k ys)
unfolding part
part_size a k xs ys e =
    length-take k (drop a xs) ∙ ap (min k) (length-drop a xs ∙ ap (λ (n : ℕ). n - a) e ∙ sym (length-drop a ys)) ∙ sym (length-take k (drop a ys))

put_size : (a k : ℕ) (new xs : List Float) → length new ≡ length (part a k xs) → length (put a k new xs) ≡ length xs
unfolding put part
put_size a k new xs e =
    let n = length xs in
    let t = length-take a xs in
    let d = length-drop a xs in
    let p = length-take k (drop a xs) in
    let q = length-drop k (drop a xs) in
    let u = length-append (take a xs) (new ++ drop k (drop a xs)) in
    let v = length-append new (drop k (drop a xs)) in
    omega (arith, t, d, p, q, u, v, e)

span_sizes : (q : Cue) (b b' : Bufs) → SameSizes b b' → SameSizes (span q b) (span q b')
span_sizes q b b' s =
    let n = q.to - q.from in
    record {
      temp = part_size q.from n b.temp b'.temp s.temp;
      temp2 = part_size q.from n b.temp2 b'.temp2 s.temp2;
      out = part_size q.from n b.out b'.out s.out;
      aux = part_size q.from n b.aux b'.aux s.aux;
    }

put_sizes : (q : Cue) (new b : Bufs) → SameSizes new (span q b) → SameSizes (put_span q new b) b
put_sizes q new b s =
    let n = q.to - q.from in
    record {
      temp = put_size q.from n new.temp b.temp s.temp;
      temp2 = put_size q.from n new.temp2 b.temp2 s.temp2;
      out = put_size q.from n new.out b.out s.out;
      aux = put_size q.from n new.aux b.aux s.aux;
    }

sizes_on : (b c d : Bufs) → SameSizes b c → SameSizes c d → SameSizes b d
sizes_on b c d p q = record { temp = p.temp ∙ q.temp; temp2 = p.temp2 ∙ q.temp2; out = p.out ∙ q.out; aux = p.aux ∙ q.aux }

cue_blank : (q : Cue) (b b' : Bufs) → SameSizes b b' → blank (cue_call q b) ≡ blank (cue_call q b')
cue_blank q b b' s =
    let t = span_sizes q b b' s in
    λ i. record {
      slot = q.slot;
      act = render q.knobs (record {
        temp = replicate (t.temp i) c0;
        temp2 = replicate (t.temp2 i) c0;
        out = replicate (t.out i) c0;
        aux = replicate (t.aux i) c0;
      });
    }

-- ---- a sheet's renders

abbrev F32Events : List Event → Type 0
F32Events es = Each (λ e. InF32 e.call.act) es

abbrev played : World → Bufs → List Told → List Cue → Playing World
played w b ts qs = over (turn bank_move) (record { world = w; bufs = b; answers = ts }) qs

record Walk (qs : List Cue) (w : World) (b b₀ : Bufs) (ts : List Told) : Type 0 where
  run : Run w (play_events w b qs) (played w b ts qs).world
  blanks : map blank (calls_in (play_events w b qs)) ≡ map blank (map (λ q. cue_call q b₀) qs)

walk : (qs : List Cue) (w : World) (b b₀ : Bufs) (ts : List Told) → Inv w → SameSizes b b₀ → F32Events (play_events w b qs) → Walk qs w b b₀ ts
unfolding play_events over turn
walk [] w b b₀ ts v s f = record { run = run_none w; blanks = refl }
walk (q ∷ qs) w b b₀ ts v s f =
    let c = cue_call q b in
    let e = call_def w c in
    let t : Step w (leds w) c e (line_of 10240 (leds w) c) = step w v c (subst (λ (d : Call). InF32 d.act) (call_is w c) f.0) in
    let b1 = put_span q e.bufs b in
    let r = walk qs e.after b1 b₀ (set ts q.place (told_of e.answer)) t.inv (sizes_on b1 b b₀ (put_sizes q e.bufs b t.sizes) s) f.1 in
    record {
      run = run_on w c (play_events e.after b1 qs) _ r.run;
      blanks = λ i. (ap blank (call_is w c) ∙ cue_blank q b b₀ s) i ∷ r.blanks i;
    }

-- the answers are the renders' in the sheet's order, and 0 past them
abbrev nothing_told : Told
nothing_told = told 0 no_counts

answers_walk : (es : List SheetEvent) (n i : ℕ) (w : World) (b : Bufs) (ts : List Told) (m : ℕ) → length ts ≡ i → length es ≤ m
    → (played w b (ts ++ replicate m nothing_told) (cues_from n i es)).answers
    ≡ ts ++ (map (λ e. told_of e.answer) (play_events w b (cues_from n i es)) ++ replicate (m - length es) nothing_told)
unfolding cues_from play_events over turn
answers_walk [] n i w b ts m l h = let z : m ≡ m - 0 = omega arith in ap (λ (j : ℕ). ts ++ replicate j nothing_told) z
answers_walk (x ∷ xs) n i w b ts zero l h = absurd (not-suc-le-zero h)
answers_walk (x ∷ xs) n i w b ts (suc m) l h =
    let q = cue_of i x (until n x.slot xs) in
    let e = call_def w (cue_call q b) in
    let t = told_of e.answer in
    let b1 = put_span q e.bufs b in
    let rest = replicate m nothing_told in
    let k : suc m - length (x ∷ xs) ≡ m - length xs = omega arith in
    ap (λ (us : List Told). (played e.after b1 us (cues_from n (suc i) xs)).answers) (set_at ts nothing_told rest t i l ∙ sym (append_assoc ts (t ∷ []) rest))
    ∙ answers_walk xs n (suc i) e.after b1 (ts ++ t ∷ []) m (length-append ts (t ∷ []) ∙ omega (arith, l)) (le_of_suc-le-suc h)
    ∙ append_assoc ts (t ∷ []) (map (λ e. told_of e.answer) (play_events e.after b1 (cues_from n (suc i) xs)) ++ replicate (m - length xs) nothing_told)
    ∙ ap (λ (j : ℕ). ts ++ (t ∷ (map (λ e. told_of e.answer) (play_events e.after b1 (cues_from n (suc i) xs)) ++ replicate j nothing_told))) (sym k)

-- ---- the ledger behind a list of calls

each_call : (P : Call → Type 0) (es : List Event) → Each (λ e. P e.call) es → Each P (calls_in es)
each_call P [] f = tt
each_call P (e ∷ es) f = (f.0, each_call P es f.1)

each_split : {A : Type 0} (P : A → Type 0) (xs ys : List A) → Each P (xs ++ ys) → Each P xs × Each P ys
each_split P [] ys f = (tt, f)
each_split P (x ∷ xs) ys f = let r = each_split P xs ys f.1 in ((f.0, r.0), r.1)

after_list : (cs : List Call) (w : World) (ls : List Led) → ls ≡ leds w → Inv w → Each (λ c. InF32 c.act) cs
    → Inv (end_from w cs) × (slots_after ls (ledger_from 10240 ls cs) ≡ leds (end_from w cs))
unfolding end_from ledger_from slots_after
after_list [] w ls q v f = (v, q)
after_list (c ∷ cs) w ls q v f =
    let t : Step w ls c (call_def w c) (line_of 10240 ls c) =
    subst (λ (x : List Led). Step w x c (call_def w c) (line_of 10240 x c)) (sym q) (step w v c f.0) in
    after_list cs (call_def w c).after (line_of 10240 ls c).slots t.slots t.inv f.1

length_lines : (size : ℕ) (cs : List Call) (ls : List Led) → length (ledger_from size ls cs) ≡ length cs
unfolding ledger_from
length_lines size [] ls = refl
length_lines size (c ∷ cs) ls = ap suc (length_lines size cs (line_of size ls c).slots)

-- ---- an item

-- between the items the ledger has the bank's slots, or line memory has another length
abbrev Between : ℕ → World → List Led → Type 0
Between size w ls = ((size ≡ 10240) × Inv w × (ls ≡ leds w)) ⊎ ((length w.mem ≢ 10240) × (length w.mem ≡ size))

record Passed (size : ℕ) (w : World) (ls : List Led) (i : Item) (m : Made) (x : ItemLine) : Type 0 where
  number : m.number ≡ x.number
  answers : m.answers ≡ x.answers
  blanks : map blank (calls_in m.events) ≡ map blank x.calls
  lines : x.lines ≡ ledger_from size ls (calls_in m.events)
  run : Run w m.events m.after
  kept : KeptItem w i m
  next : Between size m.after (slots_after ls x.lines)

one_passed : (w : World) (c : Call) → Inv w → F32Events (call_def w c ∷ [])
    → Passed 10240 w (leds w) (one c) (made w (one c)) (item_line 10240 (leds w) (one c))
unfolding made item_line ledger_from slots_after
one_passed w c v f =
    let t : Step w (leds w) c (call_def w c) (line_of 10240 (leds w) c) = step w v c (subst (λ (d : Call). InF32 d.act) (call_is w c) f.0) in
    record {
      number = ap number_of t.same;
      answers = ap (λ (a : Result Counts Reason). told_of a ∷ []) t.same;
      blanks = ap (λ (d : Call). blank d ∷ []) (call_is w c);
      lines = ap (λ (d : Call). line_of 10240 (leds w) d ∷ []) (sym (call_is w c));
      run = run_on w c [] (call_def w c).after (run_none (call_def w c).after);
      kept = tt;
      next = inl (refl, t.inv, t.slots);
    }

-- line memory of another length: a call is refused with 1, and nothing changes
one_refused : (w : World) (ls : List Led) (c : Call) → length w.mem ≢ 10240
    → Passed (length w.mem) w ls (one c) (made w (one c)) (item_line (length w.mem) ls (one c))
unfolding made item_line ledger_from slots_after call_by line_by
one_refused w ls c d =
    let e = one_event w d c in
    let l = one_line w d ls c in
    let a : (call_def w c).answer ≡ (line_of (length w.mem) ls c).answer = ap (λ (x : Event). x.answer) e ∙ sym (ap (λ (x : Line). x.answer) l) in
    let u : (call_def w c).after ≡ w = ap (λ (x : Event). x.after) e in
    record {
      number = ap number_of a;
      answers = ap (λ (r : Result Counts Reason). told_of r ∷ []) a;
      blanks = ap (λ (x : Call). blank x ∷ []) (call_is w c);
      lines = ap (λ (x : Call). line_of (length w.mem) ls x ∷ []) (sym (call_is w c));
      run = run_on w c [] (call_def w c).after (run_none (call_def w c).after);
      kept = tt;
      next = inr (subst (λ (x : World). length x.mem ≢ 10240) (sym u) d, ap (λ (x : World). length x.mem) u);
    }

-- the answers told of a sheet's renders are those of the ledger's lines
told_is : (w : World) (es : List SheetEvent) (n : ℕ) (ev : List Event) (u : World) (lines : List Line) → Inv w → Each (λ c. InF32 c.act) (calls_in ev)
    → Run w ev u → lines ≡ ledger_from 10240 (leds w) (calls_in ev) → length lines ≡ length es
    → map (λ e. told_of e.answer) ev ++ replicate (64 - length es) nothing_told ≡ told_lines lines
told_is w es n ev u lines v g r l e =
    let cs = calls_in ev in
    let a : map (λ x. x.answer) ev ≡ map (λ x. x.answer) lines = ap (map (λ x. x.answer)) r.is
    ∙ (facts cs w (leds w) refl v g).answers ∙ ap (map (λ x. x.answer)) (sym l) in
    let t : map (λ e. told_of e.answer) ev ≡ map (λ l. told_of l.answer) lines = sym (map-map told_of (λ e. e.answer) ev)
    ∙ ap (map told_of) a ∙ map-map told_of (λ l. l.answer) lines in
    (λ i. t i ++ replicate (64 - sym e i) nothing_told)

-- a sheet by the table's word
module _ (w : World) (es : List SheetEvent) (ts : List Told) (b : Bufs) where
  sheet_made : Result (Unit {0}) Reason → Made
  sheet_made r =
      let p = play_by bank_move r es (record { world = w; bufs = b; answers = ts }) in
      record { number = p.0; answers = p.1.answers; after = p.1.world; bufs = p.1.bufs; events = sheet_events r w es b }

  sheet_refused : (size : ℕ) (ls : List Led) (r : Reason) → Between size w ls
      → Passed size w ls (sheet es ts b) (sheet_made (Err r)) (sheet_line (Err r) size ls es ts b)
  unfolding sheet_made play_by sheet_events sheet_line ledger_from slots_after
  sheet_refused size ls r n =
      record { number = refl; answers = refl; blanks = refl; lines = refl; run = run_none w; kept = λ z. (refl, refl, refl); next = n }

  sheet_passed : Inv w → length es ≤ 64 → F32Events (sheet_events (Ok tt) w es b)
      → Passed 10240 w (leds w) (sheet es ts b) (sheet_made (Ok tt)) (sheet_line (Ok tt) 10240 (leds w) es ts b)
  unfolding sheet_made play_by turns sheet_events sheet_line
  sheet_passed v few f =
      let n = length b.temp in
      let qs = cues n es in
      let zs = replicate 64 nothing_told in
      let ev = play_events w b qs in
      let cs = calls_in ev in
      let planned = map (λ q. cue_call q b) qs in
      let k = walk qs w b b zs v (same_sizes b) f in
      let g : Each (λ c. InF32 c.act) cs = each_call (λ c. InF32 c.act) ev f in
      let l : ledger_from 10240 (leds w) planned ≡ ledger_from 10240 (leds w) cs = sym (ledger_alike 10240 cs planned (leds w) k.blanks) in
      let h = after_list cs w (leds w) refl v g in
      record {
        number = refl;
        answers = answers_walk es n 0 w b [] 64 refl few
            ∙ told_is w es n ev _ (ledger_from 10240 (leds w) planned) v g k.run l
            (length_lines 10240 planned (leds w) ∙ length-map qs (λ q. cue_call q b) ∙ one_each es n 0);
        blanks = k.blanks;
        lines = l;
        run = k.run;
        kept = λ d. absurd (d refl);
        next = inl (
          refl,
          subst Inv (sym k.run.ends) h.0,
          ap (slots_after (leds w)) l ∙ h.1 ∙ ap leds (sym k.run.ends),
        );
      }

-- a sheet where the ledger has the bank's slots: whether it is refused is told by the table, which both ask
sheet_in : (w : World) (es : List SheetEvent) (ts : List Told) (b : Bufs) → Inv w → (r : Result (Unit {0}) Reason)
    → sheet_verdict false es (length ts) b ≡ r → F32Events (sheet_events r w es b)
    → Passed 10240 w (leds w) (sheet es ts b) (sheet_made w es ts b r) (sheet_line r 10240 (leds w) es ts b)
sheet_in w es ts b v (Ok u) e f = sheet_passed w es ts b v (taken false es (length ts) b e).whole.few f
sheet_in w es ts b v (Err r) e f = sheet_refused w es ts b 10240 (leds w) r (inl (refl, v, refl))

module _ (w : World) (es : List SheetEvent) (ts : List Told) (b : Bufs) where
  made_is : made w (sheet es ts b) ≡ sheet_made w es ts b (sheet_verdict (bad w.bank w.mem) es (length ts) b)
  unfolding made play_def sheet_made
  made_is = refl

  line_is : (size : ℕ) (ls : List Led) → item_line size ls (sheet es ts b) ≡ sheet_line (sheet_verdict (not (eqb size 10240)) es (length ts) b) size ls es ts b
  unfolding item_line
  line_is size ls = refl

  events_are : (r : Result (Unit {0}) Reason) → (sheet_made w es ts b r).events ≡ sheet_events r w es b
  unfolding sheet_made
  events_are r = refl

  -- where both ask the table alike
  both_ask : (size : ℕ) (ls : List Led) (n : Bool) → bad w.bank w.mem ≡ n → not (eqb size 10240) ≡ n
      → Passed size w ls (sheet es ts b) (sheet_made w es ts b (sheet_verdict n es (length ts) b))
      (sheet_line (sheet_verdict n es (length ts) b) size ls es ts b)
      → Passed size w ls (sheet es ts b) (made w (sheet es ts b)) (item_line size ls (sheet es ts b))
  both_ask size ls n eb en p =
      let m : made w (sheet es ts b) ≡ sheet_made w es ts b (sheet_verdict n es (length ts) b) =
      made_is ∙ ap (λ (x : Bool). sheet_made w es ts b (sheet_verdict x es (length ts) b)) eb in
      let l : item_line size ls (sheet es ts b) ≡ sheet_line (sheet_verdict n es (length ts) b) size ls es ts b =
      line_is size ls ∙ ap (λ (x : Bool). sheet_line (sheet_verdict x es (length ts) b) size ls es ts b) en in
      subst (λ (y : Made). Passed size w ls (sheet es ts b) y (item_line size ls (sheet es ts b))) (sym m)
      (subst (λ (y : ItemLine). Passed size w ls (sheet es ts b) (sheet_made w es ts b (sheet_verdict n es (length ts) b)) y) (sym l) p)

  sheet_f32 : Inv w → F32Events (made w (sheet es ts b)).events → F32Events (sheet_events (sheet_verdict false es (length ts) b) w es b)
  sheet_f32 v f =
      subst F32Events (events_are (sheet_verdict false es (length ts) b))
      (subst (λ (m : Made). F32Events m.events)
      (made_is ∙ ap (λ (x : Bool). sheet_made w es ts b (sheet_verdict x es (length ts) b)) (not_bad w v)) f)

  -- line memory of another length
  first_one : sheet_verdict true es (length ts) b ≡ Err Memory
  unfolding sheet_verdict first
  first_one = refl

  bad_one : length w.mem ≢ 10240 → bad w.bank w.mem ≡ true
  unfolding bad
  bad_one d = rw (ne_eqb (length w.mem) 10240 d)

one_f32 : (w : World) (c : Call) → F32Events (made w (one c)).events → F32Events (call_def w c ∷ [])
unfolding made
one_f32 w c f = f

item_in : (w : World) (i : Item) → Inv w → F32Events (made w i).events → Passed 10240 w (leds w) i (made w i) (item_line 10240 (leds w) i)
item_in w (one c) v f = one_passed w c v (one_f32 w c f)
item_in w (sheet es ts b) v f =
    both_ask w es ts b 10240 (leds w) false (not_bad w v) refl
    (sheet_in w es ts b v (sheet_verdict false es (length ts) b) refl (sheet_f32 w es ts b v f))

item_out : (w : World) (ls : List Led) (i : Item) → length w.mem ≢ 10240 → Passed (length w.mem) w ls i (made w i) (item_line (length w.mem) ls i)
item_out w ls (one c) d = one_refused w ls c d
item_out w ls (sheet es ts b) d =
    let size = length w.mem in
    both_ask w es ts b size ls true (bad_one w es ts b d) (ap not (ne_eqb size 10240 d))
    (subst (λ (r : Result (Unit {0}) Reason). Passed size w ls (sheet es ts b) (sheet_made w es ts b r) (sheet_line r size ls es ts b))
    (sym (first_one w es ts b)) (sheet_refused w es ts b size ls Memory (inr (d, refl))))

item_passed : (size : ℕ) (w : World) (ls : List Led) (i : Item) → Between size w ls → F32Events (made w i).events
    → Passed size w ls i (made w i) (item_line size ls i)
item_passed size w ls i (inl n) f =
    subst (λ (k : ℕ). Passed k w ls i (made w i) (item_line k ls i)) (sym n.0)
    (subst (λ (x : List Led). Passed 10240 w x i (made w i) (item_line 10240 x i)) (sym n.2) (item_in w i n.1 f))
item_passed size w ls i (inr n) f = subst (λ (k : ℕ). Passed k w ls i (made w i) (item_line k ls i)) n.1 (item_out w ls i n.0)

-- ---- a list of items

record AllPassed (size : ℕ) (w : World) (ls : List Led) (is : List Item) (ms : List Made) (xs : List ItemLine) : Type 0 where
  numbers : map (λ m. m.number) ms ≡ map (λ x. x.number) xs
  answers : map (λ m. m.answers) ms ≡ map (λ x. x.answers) xs
  blanks : map blank (calls_in (all_events ms)) ≡ map blank (all_calls xs)
  lines : all_lines xs ≡ ledger_from size ls (calls_in (all_events ms))
  run : Run w (all_events ms) (end_items w is)
  kept : KeptItems w is

all_passed : (size : ℕ) (is : List Item) (w : World) (ls : List Led) → Between size w ls → F32Events (all_events (run_items w is))
    → AllPassed size w ls is (run_items w is) (items_from size ls is)
unfolding run_items end_items items_from ledger_from
all_passed size [] w ls n f = record { numbers = refl; answers = refl; blanks = refl; lines = refl; run = run_none w; kept = tt }
all_passed size (i ∷ is) w ls n f =
    let m = made w i in
    let x = item_line size ls i in
    let ms = run_items m.after is in
    let after = slots_after ls x.lines in
    let xs = items_from size after is in
    let g = each_split (λ e. InF32 e.call.act) m.events (all_events ms) f in
    let p = item_passed size w ls i n g.0 in
    let r = all_passed size is m.after after p.next g.1 in
    let cs : calls_in (m.events ++ all_events ms) ≡ calls_in m.events ++ calls_in (all_events ms) =
    map-append (λ (e : Event). e.call) m.events (all_events ms) in
    record {
      numbers = λ j. p.number j ∷ r.numbers j;
      answers = λ j. p.answers j ∷ r.answers j;
      blanks = ap (map blank) cs ∙ map-append blank (calls_in m.events) (calls_in (all_events ms))
          ∙ (λ j. p.blanks j ++ r.blanks j)
          ∙ sym (map-append blank x.calls (all_calls xs));
      lines = (λ j. p.lines j ++ r.lines j)
          ∙ ap (λ (us : List Line). ledger_from size ls (calls_in m.events) ++ ledger_from size (slots_after ls us) (calls_in (all_events ms))) p.lines
          ∙ sym (ledger_append size (calls_in m.events) (calls_in (all_events ms)) ls)
          ∙ ap (ledger_from size ls) (sym cs);
      run = run_join w m.after (end_items m.after is) m.events (all_events ms) p.run r.run;
      kept = (p.kept, r.kept);
    }

begins : (seed : ℕ) (mem : List Float) → Between (length mem) (start seed mem) (replicate 8 fresh_led)
begins seed mem = go (ℕ_discrete (length mem) 10240)
  where
    go : Dec (length mem ≡ 10240) → Between (length mem) (start seed mem) (replicate 8 fresh_led)
    go (yes e) = inl (e, fresh_inv seed mem e, fresh_leds seed mem)
    go (no d) = inr (d, refl)

pub demand_3_items : Demand3Items
unfolding Demand3Items items_ledger ledger
demand_3_items seed l mem items f =
    let ls = replicate 8 fresh_led in
    let ms = run_items (start seed mem) items in
    let es = all_events ms in
    let cs = calls_in es in
    let p = all_passed (length mem) items (start seed mem) ls (begins seed mem) f in
    record {
      numbers = p.numbers;
      answers = p.answers;
      calls = p.blanks;
      run = p.run.is;
      ends = p.run.ends;
      kept = p.kept;
      account = subst (λ (xs : List Event). Account seed mem cs xs (all_lines (items_from (length mem) ls items))) (sym p.run.is)
          (subst (λ (us : List Line). Account seed mem cs (run_from (start seed mem) cs) us) (sym p.lines)
          (account_of seed mem cs (each_call (λ c. InF32 c.act) es f)));
    }

-- ---- what a host knows of what it asks

each_join : {A : Type 0} (P : A → Type 0) (xs ys : List A) → Each P xs → Each P ys → Each P (xs ++ ys)
each_join P [] ys f g = g
each_join P (x ∷ xs) ys f g = (f.0, each_join P xs ys f.1 g)

pub join_f32 : (xs ys : List Event) → Each (λ e. InF32 e.call.act) xs → Each (λ e. InF32 e.call.act) ys → Each (λ e. InF32 e.call.act) (xs ++ ys)
join_f32 xs ys f g = each_join (λ e. InF32 e.call.act) xs ys f g

render_f32 : (es : List SheetEvent) (n i : ℕ) (w : World) (b : Bufs) → Each AreF32 es → F32Events (play_events w b (cues_from n i es))
unfolding cues_from play_events
render_f32 [] n i w b f = tt
render_f32 (x ∷ xs) n i w b f =
    let q = cue_of i x (until n x.slot xs) in
    let e = call_def w (cue_call q b) in
    (subst (λ (d : Call). InF32 d.act) (sym (call_is w (cue_call q b))) f.0, render_f32 xs n (suc i) e.after (put_span q e.bufs b) f.1)

-- of a call, and of a sheet that is played
pub call_f32 : (w : World) (c : Call) → InF32 c.act → Each (λ e. InF32 e.call.act) (made w (one c)).events
unfolding made
call_f32 w c f = (subst (λ (d : Call). InF32 d.act) (sym (call_is w c)) f, tt)

pub sheet_f32s : (w : World) (es : List SheetEvent) (ts : List Told) (b : Bufs) → ((made w (sheet es ts b)).number ≡ 0 → Each AreF32 es)
    → Each (λ e. InF32 e.call.act) (made w (sheet es ts b)).events
sheet_f32s w es ts b f =
    subst (λ (m : Made). F32Events m.events) (sym (made_is w es ts b))
    (by (sheet_verdict (bad w.bank w.mem) es (length ts) b) (subst (λ (m : Made). m.number ≡ 0 → Each AreF32 es) (made_is w es ts b) f))
  where
    by : (r : Result (Unit {0}) Reason) → ((sheet_made w es ts b r).number ≡ 0 → Each AreF32 es) → F32Events (sheet_made w es ts b r).events
    by (Ok u) g = unfold sheet_made sheet_events play_by in render_f32 es (length b.temp) 0 w b (g refl)
    by (Err r) g = unfold sheet_made sheet_events in tt
