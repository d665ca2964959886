-- What a render leaves of a turn. Assumes nothing.
use mathlib.Core.Path.{◌≡◌, refl, sym, ap, ◌∙◌, subst}
use mathlib.Core.Bool.{Bool, false}
use mathlib.Core.List.{List}
use Prim.Native.Nat.{ℕ, suc, ◌+◌, ◌-◌, ◌≤◌, ◌<◌}
use Rattle.std.proofs.Common.{add-one}
use native.Mathlib.Omega.{arith}
use lib.ListN.{length, take, drop, set, replicate, length-drop}
use lib.Seq.{take_all}
use Rattle.std.specs.Prelude.{Result, Ok, Err}
use Rattle.std.proofs.lemmas.List.{take_more}
use Rattle.ground.specs.Each.{Each}
use Rattle.ground.proofs.Each.{each_push}
use Rattle.ground.specs.Frames.{over}
use Rattle.ground.proofs.Frames.{Over, frames_begin, over_turn, over_end}
use Rattle.noise.specs.Excitation.{Alike}
use Rattle.noise.specs.declared.excitation.Knobs.{Knobs}
use Rattle.slots.specs.declared.answers.Reason.{Reason}
use Rattle.slots.specs.Answers.{reason_number, no_counts}
use Rattle.slots.specs.Calls.{Bufs, render}
use Rattle.slots.specs.Table.{Call}
use Rattle.player.specs.declared.sheet.Event.{Event}
use Rattle.player.specs.declared.play.Told.{Told}
use Rattle.player.specs.Sheet.{AreF32, sheet_verdict, until, Cue, cue_of, cues}
use Rattle.player.specs.Owners.{no_event, no_cue, event_at, cue_at}
use Rattle.player.proofs.Accepted.{Whole, taken}
use Rattle.player.proofs.Owners.{one_each, cue_is, lies}
use Rattle.player.specs.Play.{told, span, put_span, Move, Playing, refused_answers, turn, turns, play_by, play_def}

module _ {W : Type 0} (move : W → Call → Move W) where
  -- an event's turn, by what its render leaves
  abbrev pub after_turn : Cue → Bufs → List Told → Move W → Playing W
  after_turn q b ts m = record { world = m.after; bufs = put_span q m.bufs b; answers = set ts q.place m.told }

  pub turned : (w : W) (q : Cue) (b : Bufs) (ts : List Told) (k : Knobs) (m : Move W) → k ≡ q.knobs
      → move w (record { slot = q.slot; act = render k (span q b) }) ≡ m
      → turn move (record { world = w; bufs = b; answers = ts }) q ≡ after_turn q b ts m
  unfolding turn
  turned w q b ts k m ek e =
      ap (after_turn q b ts) (ap (λ (x : Knobs). move w (record { slot = q.slot; act = render x (span q b) })) (sym ek) ∙ e)

-- ---- the loop over a sheet's events

-- i turns are done, on buffers of n frames and 64 answers, and their events were asked as f32s
pub record Sofar {W : Type 0} (move : W → Call → Move W) (es : List Event) (n : ℕ) (s₀ : Playing W) (i : ℕ) (s : Playing W) : Type 0 where
  pub done : Over (turn move) s₀ (cues n es) i s
  pub frames : length s.bufs.temp ≡ n
  pub alike : Alike s.bufs.temp s.bufs.temp2 s.bufs.out s.bufs.aux
  pub room : length s.answers ≡ 64
  pub given : Each AreF32 (take i es)

-- the events that follow, as the code lends them
pub following : (es : List Event) (n s k : ℕ) {to : ℕ} → to ≡ until n s (take (length es - k) (drop k es)) → to ≡ until n s (drop k es)
following es n s k e = e ∙ ap (until n s) (take_all (length es - k) (drop k es) (omega (arith, length-drop k es)))

module _ {W : Type 0} (move : W → Call → Move W) where
  -- the frames of a turn lie in the buffers
  pub lies_now : {es : List Event} {n i : ℕ} {s₀ s : Playing W} {to : ℕ} → Sofar move es n s₀ i s → Whole n es → i < length es
      → to ≡ until n (event_at es i).slot (drop (i + 1) es) → ((event_at es i).frame ≤ to) × (to ≤ length s.bufs.temp)
  lies_now {es} {n} {i} f w h e =
      let l = lies n es w i h in
      let d : drop (i + 1) es ≡ drop (suc i) es = ap (λ (k : ℕ). drop k es) (add-one i) in
      let u = e ∙ ap (until n (event_at es i).slot) d in
      (omega (arith, l.0, u), omega (arith, l.1, u, f.frames))

  pub again : {es : List Event} {n i : ℕ} {s₀ s s' : Playing W} {to : ℕ} → Sofar move es n s₀ i s → i < length es
      → to ≡ until n (event_at es i).slot (drop (i + 1) es) → turn move s (cue_of i (event_at es i) to) ≡ s'
      → length s'.bufs.temp ≡ length s.bufs.temp → length s'.bufs.temp2 ≡ length s.bufs.temp2 → length s'.bufs.out ≡ length s.bufs.out
      → length s'.bufs.aux ≡ length s.bufs.aux → length s'.answers ≡ length s.answers → AreF32 (event_at es i)
      → Sofar move es n s₀ (i + 1) s'
  again {es} {n} {i} {s₀} {s} {s'} {to} f h e t lt lt2 lo la lr g =
      let d : drop (i + 1) es ≡ drop (suc i) es = ap (λ (k : ℕ). drop k es) (add-one i) in
      let u : to ≡ until n (event_at es i).slot (drop (suc i) es) = e ∙ ap (until n (event_at es i).slot) d in
      let q : cue_at n es i ≡ cue_of i (event_at es i) to = cue_is es n i h ∙ ap (cue_of i (event_at es i)) (sym u) in
      record {
        done = over_turn no_cue f.done (omega (arith, one_each es n 0)) (sym t ∙ ap (turn move s) (sym q));
        frames = lt ∙ f.frames;
        alike = record {
          temp2_is = lt2 ∙ f.alike.temp2_is ∙ sym lt;
          out_is = lo ∙ f.alike.out_is ∙ sym lt;
          aux_is = la ∙ f.alike.aux_is ∙ sym lt;
        };
        room = lr ∙ f.room;
        given = subst (λ (xs : List Event). Each AreF32 xs) (sym (take_more es i no_event h)) (each_push AreF32 (take i es) (event_at es i) f.given g);
      }

  pub all_done : {es : List Event} {n i : ℕ} {s₀ s : Playing W} → Sofar move es n s₀ i s → length es ≤ i → over (turn move) s₀ (cues n es) ≡ s
  all_done {es} {n} f h = sym (over_end f.done (omega (arith, one_each es n 0)))

  pub all_given : {es : List Event} {n i : ℕ} {s₀ s : Playing W} → Sofar move es n s₀ i s → length es ≤ i → Each AreF32 es
  all_given {es} {n} {i} f h = subst (λ (xs : List Event). Each AreF32 xs) (take_all i es h) f.given

  pub begun : (es : List Event) (s₀ : Playing W) → Alike s₀.bufs.temp s₀.bufs.temp2 s₀.bufs.out s₀.bufs.aux → length s₀.answers ≡ 64
      → Sofar move es (length s₀.bufs.temp) s₀ 0 s₀
  begun es s₀ a r = record { done = frames_begin; frames = refl; alike = a; room = r; given = tt }

-- ---- a sheet by the table's word

-- whether number 1 applies is not asked again
pub good_bank : (bad : Bool) (es : List Event) (answers : ℕ) (b : Bufs) → sheet_verdict bad es answers b ≡ Ok tt → sheet_verdict false es answers b ≡ Ok tt
good_bank bad es answers b e = subst (λ (x : Bool). sheet_verdict x es answers b ≡ Ok tt) (taken bad es answers b e).good e

module _ {W : Type 0} (move : W → Call → Move W) (bad : Bool) (es : List Event) (s : Playing W) where
  pub refused_whole : (r : Reason) → sheet_verdict bad es (length s.answers) s.bufs ≡ Err r
      → play_def move bad es s ≡ (reason_number r, record s { answers = refused_answers r s.answers })
  unfolding play_def play_by
  refused_whole r e = ap (λ (v : Result (Unit {0}) Reason). play_by move v es s) e

  pub played_whole : (ts : List Told) (s' : Playing W) → sheet_verdict bad es (length s.answers) s.bufs ≡ Ok tt → ts ≡ replicate 64 (told 0 no_counts)
      → over (turn move) (record s { answers = ts }) (cues (length s.bufs.temp) es) ≡ s' → play_def move bad es s ≡ (0, s')
  unfolding play_def play_by turns
  played_whole ts s' e et t =
      ap (λ (v : Result (Unit {0}) Reason). play_by move v es s) e
      ∙ ap (λ (x : List Told). (0, over (turn move) (record s { answers = x }) (cues (length s.bufs.temp) es))) (sym et)
      ∙ ap (λ (x : Playing W). (0, x)) t
