-- One call of the bank beside its line of the ledger: what holds between the calls holds again after it. Assumes nothing.
use mathlib.Core.Path.{◌≡◌, refl, sym, ap, ◌∙◌, subst}
use mathlib.Core.Logic.{◌≢◌}
use mathlib.Core.Bool.{Bool, true, false, not, cond, true≢false}
use mathlib.Core.List.{List, [], ◌∷◌, map}
use mathlib.Core.Option.{none, some}
use Prim.Native.Nat.{ℕ, ◌+◌, ◌*◌, ◌≤◌, ◌<◌, suc-le-suc}
use native.Mathlib.Decide.{dec_lt}
use native.Mathlib.Omega.{arith}
use lib.ListN.{length, get_or, set, length-set, get_or-map}
use lib.Seq.{get_or-set_same, get_or-set_other}
use Rattle.std.proofs.lemmas.List.{map-set}
use lib.Dec.{ltb, eqb}
use borrow.Author.Tests.{le-ltb, lt-leb, eqb-true, eq-eqb, ltb-false, not-false}
use lib.Ieee.{Float}
use Rattle.ground.specs.Draw.{Draw, value, ending, words, moved, stream}
use Rattle.ground.specs.Each.{Each}
use Rattle.ground.proofs.Each.{each_at, each_set}
use Rattle.ground.proofs.Draw.{fed_words, words_are, ending_is, always_run, draws_length, draws_always}
use Rattle.ground.proofs.Part.{length_part, length_put, part_put, part_put_below, part_put_above}
use Rattle.waveguide.specs.String.{string_new}
use Rattle.string_voice.specs.StringVoice as string_voice
use Rattle.slots.specs.declared.slots.Slot.{Slot}
use Rattle.std.specs.Prelude.{Result, Ok, Err}
use Rattle.slots.specs.declared.answers.Reason.{Reason}
use Rattle.slots.specs.declared.answers.Reason.TheVariants.{Memory, NoSlot}
use Rattle.slots.specs.Answers.{counts_of}
use Rattle.slots.specs.Slots.{no_string, empty_slot, slot_at, with_slot}
use Rattle.slots.specs.Calls.{Act, opening, reset, render, InF32, lent, Voice, Done, act_def}
use Rattle.slots.specs.Table.{Call, ◌⇐◌, first, checks, verdict, bad_slot, bad_slots, bad}
use Rattle.bank.specs.World.{World, lines_at, with_lines, voice_at, Event, acted, call_by, call_def}
use Rattle.bank.proofs.Accepted.{Sound, sound, spared}
use Rattle.ground.proofs.Bools.{or_false}
use Rattle.claims.specs.Ledger.{Led, fresh_led, Entry, act_entry, Line, line_by, line_of}
use Rattle.claims.specs.Claim.{nothing, given, feed, of_done, listen, seen, total, call_order, Ordered}
use Rattle.claims.proofs.Acts.{led_of, SameSizes, same_sizes, Follows, ByLedger, act_law}
use Rattle.claims.proofs.Order.{order_law}

-- ---- the lines of the slots: to replace those of one leaves the others

lines_other : (mem new : List Float) (s t : ℕ) → length mem ≡ 10240 → length new ≡ 1280 → s < 8 → t ≢ s → lines_at t (with_lines s new mem) ≡ lines_at t mem
lines_other mem new s t full size h d = go (dec_lt t s)
  where
    go : Dec (t < s) → lines_at t (with_lines s new mem) ≡ lines_at t mem
    go (yes l) = part_put_below (1280 * t) 1280 (1280 * s) 1280 new mem (omega arith) (omega arith)
    go (no n) = part_put_above (1280 * t) 1280 (1280 * s) 1280 new mem (omega arith) (omega arith) size

-- ---- what holds between the calls

pub record Inv (w : World) : Type 0 where
  pub full : length w.mem ≡ 10240
  pub eight : length w.bank.slots ≡ 8
  pub oks : Each Sound w.bank.slots

abbrev pub leds : World → List Led
leds w = map led_of w.bank.slots

led_at : (w : World) (s : ℕ) → get_or (leds w) s fresh_led ≡ led_of (slot_at w.bank s)
unfolding empty_slot no_string string_voice.voice_new string_new
led_at w s = get_or-map led_of w.bank.slots s empty_slot

no_bad : (l : List Slot) → Each Sound l → bad_slots l ≡ false
unfolding bad_slots bad_slot
no_bad [] p = refl
no_bad (x ∷ xs) p =
    let k = p.0 in
    simp (
      le-ltb 2 x.kind k.known,
      lt-leb 1024 x.string.string.string k.string,
      lt-leb 256 x.string.string.stretch k.stretch,
      le-ltb 1048576 x.string.remaining_noise_samples k.left,
      no_bad xs p.1,
    )

pub not_bad : (w : World) → Inv w → bad w.bank w.mem ≡ false
unfolding bad
not_bad w v = rw (v.full, no_bad w.bank.slots v.oks)

-- number 1 leaves all that
all_sound : (l : List Slot) → bad_slots l ≡ false → Each Sound l
unfolding bad_slots
all_sound [] e = tt
all_sound (x ∷ xs) e = let o = or_false (bad_slot x) (bad_slots xs) e in (sound x o.0, all_sound xs o.1)

pub inv_of : (w : World) → length w.bank.slots ≡ 8 → bad w.bank w.mem ≡ false → Inv w
unfolding bad
inv_of w l e =
    let o = or_false (not (eqb (length w.mem) 10240)) (bad_slots w.bank.slots) e in
    record { full = eqb-true (length w.mem) 10240 (not-false (eqb (length w.mem) 10240) o.0); eight = l; oks = all_sound w.bank.slots o.1 }

-- ---- a call

pub record Step (w : World) (ls : List Led) (c : Call) (e : Event) (l : Line) : Type 0 where
  pub same : e.answer ≡ l.answer
  pub slots : l.slots ≡ leds e.after
  pub inv : Inv e.after
  pub dealt_is : e.dealt ≡ stream (total (counts_of e.answer)) w.word
  pub ends_is : e.after.word ≡ moved (total (counts_of e.answer)) w.word
  pub alone_is : (s : ℕ) → s < 8 → listen (voice_at s w) (feed s c l.answer e.dealt) ≡ some (seen s e)
  pub ordered_is : Ordered e
  pub sizes : SameSizes e.bufs (lent c.act)

-- a refused call is dealt no words
pub none_dealt : (a : Act) (r : Reason) (v : Voice) (word : ℕ) → call_order a (Err r) v word []
none_dealt (opening kind rate) r v word = refl
none_dealt reset r v word = refl
none_dealt (render k b) r v word = refl

module _ (w : World) (v : Inv w) (c : Call) where
  module _ (f : InF32 c.act) (h : c.slot < 8) (p : first (checks (slot_at w.bank c.slot).kind c.act) ≡ Ok tt) where
    slot_within : c.slot < length w.bank.slots
    slot_within = omega (arith, v.eight)

    lines_in : 1280 * c.slot + 1280 ≤ length w.mem
    lines_in = omega (arith, v.full)

    m : Draw Done
    m = act_def c.act (voice_at c.slot w)

    d : Done
    d = value m w.word

    en : Entry
    en = act_entry c.act (led_of (slot_at w.bank c.slot))

    law : ByLedger c.act en m
    unfolding m en
    law =
        act_law c.act (voice_at c.slot w) (each_at Sound w.bank.slots c.slot empty_slot slot_within v.oks)
        (length_part (1280 * c.slot) 1280 w.mem lines_in) f p

    good : Follows c.act en d
    unfolding d
    good = always_run (Follows c.act en) m w.word (draws_always (total en.counts) (Follows c.act en) m law) refl

    entry_is : act_entry c.act (get_or (leds w) c.slot fresh_led) ≡ en
    unfolding en
    entry_is = ap (act_entry c.act) (led_at w c.slot)

    many : length (words m w.word) ≡ total d.counts
    many = draws_length (total en.counts) (Follows c.act en) m w.word law ∙ ap total (sym good.counts)

    after : World
    after = record { bank = with_slot w.bank c.slot d.voice.slot; word = ending m w.word; mem = with_lines c.slot d.voice.lines w.mem }

    voice_same : voice_at c.slot after ≡ d.voice
    unfolding after
    voice_same i =
        record {
          slot = get_or-set_same w.bank.slots c.slot d.voice.slot empty_slot slot_within i;
          lines = part_put (1280 * c.slot) 1280 d.voice.lines w.mem lines_in good.lines i;
        }

    voice_other : (s : ℕ) → s ≢ c.slot → voice_at s after ≡ voice_at s w
    unfolding after
    voice_other s n i =
        record {
          slot = get_or-set_other w.bank.slots c.slot s d.voice.slot empty_slot n i;
          lines = lines_other w.mem d.voice.lines c.slot s v.full good.lines h n i;
        }

    inv_after : Inv after
    unfolding after
    inv_after =
        record {
          full = length_put (1280 * c.slot) 1280 d.voice.lines w.mem lines_in good.lines ∙ v.full;
          eight = length-set w.bank.slots c.slot d.voice.slot ∙ v.eight;
          oks = each_set Sound w.bank.slots c.slot d.voice.slot good.ok v.oks;
        }

    heard : (s : ℕ) (b : Bool) → eqb c.slot s ≡ b
        → listen (voice_at s w) (cond b (given c.act (words m w.word)) nothing)
        ≡ some (record { voice = voice_at s after; bufs = cond b (some d.bufs) none })
    unfolding d m
    heard s true e =
        subst (λ (t : ℕ). listen (voice_at t w) (given c.act (words m w.word)) ≡ some (record { voice = voice_at t after; bufs = some d.bufs }))
        (eqb-true c.slot s e)
        (ap of_done (fed_words m w.word) ∙ (λ i. some (record { voice = sym voice_same i; bufs = some d.bufs })))
    heard s false e =
        let n : s ≢ c.slot = λ q. true≢false (sym (eq-eqb c.slot s (sym q)) ∙ e) in
        λ i. some (record { voice = sym (voice_other s n) i; bufs = none })

    accepted : Step w (leds w) c (call_by (Ok tt) w c) (line_by (Ok tt) (leds w) c)
    unfolding call_by acted line_by m d after
    accepted =
        record {
          same = λ i. Ok ((good.counts ∙ ap (λ (x : Entry). x.counts) (sym entry_is)) i);
          slots = ap (λ (x : Entry). set (leds w) c.slot x.led) entry_is
              ∙ ap (λ (x : Led). set (leds w) c.slot x) (sym good.led)
              ∙ sym (map-set led_of w.bank.slots c.slot d.voice.slot);
          inv = inv_after;
          dealt_is = words_are m w.word ∙ ap (λ (k : ℕ). stream k w.word) many;
          ends_is = ending_is m w.word ∙ ap (λ (k : ℕ). moved k w.word) many;
          alone_is = λ s k. heard s (eqb c.slot s) refl;
          ordered_is = order_law c.act (voice_at c.slot w) w.word (each_at Sound w.bank.slots c.slot empty_slot slot_within v.oks)
              (length_part (1280 * c.slot) 1280 w.mem lines_in) p;
          sizes = good.sizes;
        }

  refused : (r : Reason) → Step w (leds w) c (call_by (Err r) w c) (line_by (Err r) (leds w) c)
  unfolding call_by line_by
  refused r = record {
    same = refl;
    slots = refl;
    inv = v;
    dealt_is = refl;
    ends_is = refl;
    alone_is = λ s k. refl;
    ordered_is = none_dealt c.act r
        (voice_at c.slot w) w.word;
    sizes = same_sizes (lent c.act);
  }

  by_verdict : InF32 c.act → (r : Result (Unit {0}) Reason) → verdict false (slot_at w.bank c.slot).kind c ≡ r
      → Step w (leds w) c (call_by r w c) (line_by r (leds w) c)
  unfolding verdict first
  by_verdict f (Ok u) e =
      let q = spared NoSlot (ltb 7 c.slot) (checks (slot_at w.bank c.slot).kind c.act)
      (spared Memory false (NoSlot ⇐ ltb 7 c.slot ∷ checks (slot_at w.bank c.slot).kind c.act) e).1 in
      accepted f (suc-le-suc (ltb-false 7 c.slot q.0)) q.1
  by_verdict f (Err r) e = refused r

  pub step : InF32 c.act → Step w (leds w) c (call_def w c) (line_of 10240 (leds w) c)
  unfolding call_def line_of
  step f =
      let k = (slot_at w.bank c.slot).kind in
      let l = get_or (leds w) c.slot fresh_led in
      subst (λ (b : Bool). Step w (leds w) c (call_by (verdict b k c) w c) (line_by (verdict false l.kind c) (leds w) c)) (sym (not_bad w v))
      (subst (λ (x : Led). Step w (leds w) c (call_by (verdict false k c) w c) (line_by (verdict false x.kind c) (leds w) c)) (sym (led_at w c.slot))
      (by_verdict f (verdict false k c) refl))

pub stays_sound : (w : World) → Inv w → (c : Call) → InF32 c.act → Inv (call_def w c).after
stays_sound w v c f = (step w v c f).inv
