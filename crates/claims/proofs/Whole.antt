-- Demand 3, for every list of calls. Assumes nothing.
use mathlib.Core.Path.{◌≡◌, refl, sym, ap, ◌∙◌, subst}
use mathlib.Core.Logic.{◌≢◌}
use mathlib.Core.List.{List, [], ◌∷◌, ◌++◌, map}
use mathlib.Core.Option.{Option, some}
use Prim.Native.Nat.{ℕ, ◌+◌, ◌<◌, zero-le}
use native.Mathlib.Decide.{ℕ_discrete}
use native.Mathlib.Omega.{arith}
use lib.ListN.{length, get_or, replicate, get_or-replicate}
use lib.Dec.{lit<, lit≤}
use borrow.Author.Tests.{ne_eqb}
use lib.Ieee.{Float}
use Rattle.ground.specs.Draw.{moved, stream}
use Rattle.ground.specs.Each.{Each}
use Rattle.ground.proofs.Draw.{moved_add, stream_add, length_stream, stream_at}
use Rattle.std.specs.Prelude.{Result, Ok, Err}
use Rattle.noise.specs.declared.excitation.Counts.{Counts}
use Rattle.waveguide.specs.String.{string_new}
use Rattle.string_voice.specs.StringVoice as string_voice
use Rattle.slots.specs.declared.answers.Reason.{Reason}
use Rattle.slots.specs.declared.answers.Reason.TheVariants.{Memory}
use Rattle.slots.specs.Answers.{counts_of, number_of}
use Rattle.slots.specs.Slots.{no_string, empty_slot, fresh_bank}
use Rattle.slots.specs.Calls.{InF32, Voice}
use Rattle.slots.specs.Table.{Call, first, verdict, bad}
use Rattle.bank.specs.World.{World, start, lines_at, voice_at, Event, call_by, call_def, run_from, end_from}
use Rattle.claims.specs.Ledger.{Led, fresh_led, Line, line_by, line_of, ledger_from, ledger}
use Rattle.claims.specs.Claim.{Feed, feed, feeds, Noted, listen, note, go_on, alone, seen, sum_of, total, drawn, dealt, Kept, Account, Ordered, Asked, calls_of}
use Rattle.claims.specs.Claim.{Demand3}
use Rattle.bank.proofs.Accepted.{Sound}
use Rattle.claims.proofs.OneCall.{Inv, leds, Step, none_dealt, step}

-- ---- the list

pub record Facts (w : World) (calls : List Call) (es : List Event) (ns : List Line) : Type 0 where
  pub answers : map (λ e. e.answer) es ≡ map (λ l. l.answer) ns
  pub dealt_is : dealt es ≡ stream (drawn es) w.word
  pub ends : (end_from w calls).word ≡ moved (drawn es) w.word
  pub apart : (s : ℕ) → s < 8 → alone (voice_at s w) (feeds s calls ns (map (λ e. e.dealt) es)) ≡ some (map (seen s) es)
  pub in_order : Each Ordered es

hear_on : (v v' : Voice) (f : Feed) (fs : List Feed) (h : Noted) (hs : List Noted) → listen v f ≡ some h → h.voice ≡ v' → alone v' fs ≡ some hs
    → alone v (f ∷ fs) ≡ some (h ∷ hs)
hear_on v v' f fs h hs p q r =
    ap (λ (o : Option Noted). go_on o (λ u. alone u fs)) p ∙ ap (λ (u : Voice). note h (alone u fs)) q ∙ ap (note h) r

pub facts : (calls : List Call) (w : World) (ls : List Led) → ls ≡ leds w → Inv w → Each (λ c. InF32 c.act) calls
    → Facts w calls (run_from w calls) (ledger_from 10240 ls calls)
unfolding run_from ledger_from end_from
facts [] w ls q v f = record { answers = refl; dealt_is = refl; ends = refl; apart = λ s h. refl; in_order = tt }
facts (c ∷ cs) w ls q v f =
    let e = call_def w c in
    let l = line_of 10240 ls c in
    let t : Step w ls c e l = subst (λ (x : List Led). Step w x c (call_def w c) (line_of 10240 x c)) (sym q) (step w v c f.0) in
    let r = facts cs e.after l.slots t.slots t.inv f.1 in
    let es = run_from e.after cs in
    let n = total (counts_of e.answer) in
    record {
      answers = λ i. t.same i ∷ r.answers i;
      dealt_is = ap (λ (x : List ℕ). x ++ dealt es) t.dealt_is
          ∙ ap (λ (x : List ℕ). stream n w.word ++ x) (r.dealt_is ∙ ap (stream (drawn es)) t.ends_is)
          ∙ sym (stream_add n (drawn es) w.word);
      ends = r.ends ∙ ap (moved (drawn es)) t.ends_is ∙ sym (moved_add n (drawn es) w.word);
      apart = λ s h.
          hear_on (voice_at s w) (voice_at s e.after) (feed s c l.answer e.dealt) (feeds s cs (ledger_from 10240 l.slots cs) (map (λ x. x.dealt) es)) (seen s e)
          (map (seen s) es)
          (t.alone_is s h) refl (r.apart s h);
      in_order = (t.ordered_is, r.in_order);
    }

-- ---- the sums

totals : (xs : List (Result Counts Reason))
    → sum_of (λ a. total (counts_of a)) xs ≡ sum_of (λ a. (counts_of a).burst) xs + sum_of (λ a. (counts_of a).dust) xs + sum_of (λ a. (counts_of a).dispersion)
    xs
totals [] = refl
totals (a ∷ xs) = omega (arith, totals xs)

sum_map : {A B : Type 0} (f : B → ℕ) (g : A → B) (l : List A) → sum_of f (map g l) ≡ sum_of (λ a. f (g a)) l
sum_map f g [] = refl
sum_map f g (x ∷ xs) = ap (λ (k : ℕ). f (g x) + k) (sum_map f g xs)

balanced : (es : List Event) (ls : List Line) → map (λ e. e.answer) es ≡ map (λ l. l.answer) ls
    → drawn es ≡ sum_of (λ l. (counts_of l.answer).burst) ls + sum_of (λ l. (counts_of l.answer).dust) ls + sum_of (λ l. (counts_of l.answer).dispersion) ls
balanced es ls q =
    let f : Line → Result Counts Reason = λ l. l.answer in
    let p : drawn es ≡ sum_of (λ a. total (counts_of a)) (map f ls) = sym (sum_map (λ a. total (counts_of a)) (λ e. e.answer) es)
    ∙ ap (sum_of (λ a. total (counts_of a))) q in
    omega (
      arith,
      p,
      totals (map f ls),
      sum_map (λ a. (counts_of a).burst) f ls,
      sum_map (λ a. (counts_of a).dust) f ls,
      sum_map (λ a. (counts_of a).dispersion)
          f ls,
    )

-- ---- refusals change nothing

kept_by : (r : Result (Unit {0}) Reason) (w : World) (c : Call) → number_of (call_by r w c).answer ≢ 0 → Kept (call_by r w c)
unfolding call_by
kept_by (Ok u) w c d = absurd (d refl)
kept_by (Err r) w c d = record { world = refl; bufs = refl; counts = refl; dealt = refl }

all_kept : (calls : List Call) (w : World) → Each (λ e. number_of e.answer ≢ 0 → Kept e) (run_from w calls)
unfolding run_from call_def
all_kept [] w = tt
all_kept (c ∷ cs) w = (kept_by _ w c, all_kept cs _)

-- ---- another length of line memory

record Idle (w : World) (calls : List Call) (es : List Event) (ns : List Line) : Type 0 where
  answers : map (λ e. e.answer) es ≡ map (λ l. l.answer) ns
  ones : Each (λ e. e.answer ≡ Err Memory) es
  drawn_is : drawn es ≡ 0
  dealt_is : dealt es ≡ []
  ends : end_from w calls ≡ w
  in_order : Each Ordered es

module _ (w : World) (d : length w.mem ≢ 10240) where
  pub one_event : (c : Call) → call_def w c ≡ call_by (Err Memory) w c
  unfolding call_def bad verdict first
  one_event c = rw (ne_eqb (length w.mem) 10240 d)

  pub one_line : (ls : List Led) (c : Call) → line_of (length w.mem) ls c ≡ line_by (Err Memory) ls c
  unfolding line_of verdict first
  one_line ls c = rw (ne_eqb (length w.mem) 10240 d)

  idle : (calls : List Call) (ls : List Led) → Idle w calls (run_from w calls) (ledger_from (length w.mem) ls calls)
  unfolding run_from ledger_from end_from call_by line_by
  idle [] ls = record { answers = refl; ones = tt; drawn_is = refl; dealt_is = refl; ends = refl; in_order = tt }
  idle (c ∷ cs) ls =
      let n = length w.mem in
      let r = idle cs ls in
      let x : end_from (call_def w c).after cs ≡ w = ap (λ (e : Event). end_from e.after cs) (one_event c) ∙ r.ends in
      subst (λ (e : Event). Idle w (c ∷ cs) (e ∷ run_from e.after cs) (line_of n ls c ∷ ledger_from n (line_of n ls c).slots cs)) (sym (one_event c))
      (subst (λ (l : Line). Idle w (c ∷ cs) (call_by (Err Memory) w c ∷ run_from w cs) (l ∷ ledger_from n l.slots cs)) (sym (one_line ls c))
      (record {
        answers = ap (λ (xs : List (Result Counts Reason)). Err Memory ∷ xs) r.answers;
        ones = (refl, r.ones);
        drawn_is = omega (arith, r.drawn_is);
        dealt_is = r.dealt_is;
        ends = x;
        in_order = (none_dealt c.act Memory (voice_at c.slot w) w.word, r.in_order);
      }))

-- ---- the whole

empty_ok : Sound empty_slot
unfolding empty_slot no_string string_voice.voice_new string_new
empty_ok = record { known = lit≤ tt; string = lit< tt; stretch = lit< tt; left = zero-le }

pub fresh_inv : (seed : ℕ) (mem : List Float) → length mem ≡ 10240 → Inv (start seed mem)
unfolding fresh_bank
fresh_inv seed mem e =
    record {
      full = e;
      eight = refl;
      oks = (empty_ok, (empty_ok, (empty_ok, (empty_ok, (empty_ok, (empty_ok, (empty_ok, (empty_ok, tt))))))));
    }

pub fresh_leds : (seed : ℕ) (mem : List Float) → replicate 8 fresh_led ≡ leds (start seed mem)
unfolding fresh_bank empty_slot no_string string_voice.voice_new string_new
fresh_leds seed mem = refl

fresh_voice : (seed : ℕ) (mem : List Float) (s : ℕ) → s < 8 → voice_at s (start seed mem) ≡ record { slot = empty_slot; lines = lines_at s mem }
unfolding fresh_bank
fresh_voice seed mem s h i = record { slot = get_or-replicate 8 s empty_slot empty_slot h i; lines = lines_at s mem }

module _ (seed : ℕ) (mem : List Float) (calls : List Call) where
  full : length mem ≡ 10240 → Each (λ c. InF32 c.act) calls → Account seed mem calls (run_from (start seed mem) calls) (ledger (length mem) calls)
  unfolding ledger
  full e g =
      let es = run_from (start seed mem) calls in
      let ls = ledger_from 10240 (replicate 8 fresh_led) calls in
      let f = facts calls (start seed mem) (replicate 8 fresh_led) (fresh_leds seed mem) (fresh_inv seed mem e) g in
      subst (λ (n : ℕ). Account seed mem calls (run_from (start seed mem) calls) (ledger_from n (replicate 8 fresh_led) calls)) (sym e)
      (record {
        answers = f.answers;
        balance = balanced es ls f.answers;
        dealt_length = ap length f.dealt_is ∙ length_stream (drawn es) seed;
        dealt_at = λ k h. ap (λ (x : List ℕ). get_or x k 0) f.dealt_is ∙ stream_at (drawn es) seed k 0 h;
        in_order = f.in_order;
        ends = f.ends;
        kept = all_kept calls (start seed mem);
        apart = λ _ s h.
            subst (λ (v : Voice). alone v (feeds s calls ls (map (λ x. x.dealt) es)) ≡ some (map (seen s) es)) (fresh_voice seed mem s h) (f.apart s h);
        short = λ d. absurd (d e);
      })

  other : length mem ≢ 10240 → Account seed mem calls (run_from (start seed mem) calls) (ledger (length mem) calls)
  unfolding ledger
  other d =
      let es = run_from (start seed mem) calls in
      let f = idle (start seed mem) d calls (replicate 8 fresh_led) in
      record {
        answers = f.answers;
        balance = balanced es (ledger_from (length mem) (replicate 8 fresh_led) calls) f.answers;
        dealt_length = ap length f.dealt_is ∙ sym f.drawn_is;
        dealt_at = λ k h. absurd (none_below k (drawn es) f.drawn_is h);
        in_order = f.in_order;
        ends = ap (λ (w : World). w.word) f.ends ∙ ap (λ (n : ℕ). moved n seed) (sym f.drawn_is);
        kept = all_kept calls (start seed mem);
        apart = λ e. absurd (d e);
        short = λ _. (f.ones, f.ends, f.drawn_is);
      }
    where
      none_below : (k n : ℕ) → n ≡ 0 → k < n → ⊥
      none_below k n e h = omega arith

-- of every list of calls that are asked as f32s
pub account_of : (seed : ℕ) (mem : List Float) (calls : List Call) → Each (λ c. InF32 c.act) calls
    → Account seed mem calls (run_from (start seed mem) calls) (ledger (length mem) calls)
account_of seed mem calls f = go (ℕ_discrete (length mem) 10240)
  where
    go : Dec (length mem ≡ 10240) → Account seed mem calls (run_from (start seed mem) calls) (ledger (length mem) calls)
    go (yes e) = full seed mem calls e f
    go (no d) = other seed mem calls d

all_f32 : (asked : List Asked) → Each (λ c. InF32 c.act) (calls_of asked)
all_f32 [] = tt
all_f32 (a ∷ asked) = (a.f32, all_f32 asked)

pub demand_3 : Demand3
unfolding Demand3
demand_3 seed l mem asked = account_of seed mem (calls_of asked) (all_f32 asked)
