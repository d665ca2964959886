-- What a call on bytes leaves, by the table's word, and that it is the bank's call on the decoded bank. Assumes nothing.
use mathlib.Core.Path.{◌≡◌, refl, sym, ◌∙◌, ap, subst}
use mathlib.Core.Bool.{Bool, true, false, not, ◌&&◌, false≢true}
use mathlib.Core.List.{List}
use Prim.Native.Nat.{ℕ, ◌*◌, ◌<◌}
use native.Mathlib.Omega.{arith}
use lib.Dec.{eqb}
use lib.ListN.{length}
use lib.Ieee.{Float}
use borrow.Author.Tests.{eqb-true, eq-eqb}
use Rattle.std.specs.Prelude.{Result, Ok, Err}
use Rattle.slots.specs.declared.answers.Reason.{Reason}
use Rattle.slots.specs.declared.slots.Slot.{Slot}
use Rattle.slots.specs.Answers.{no_counts, reason_number}
use Rattle.slots.specs.Slots.{slot_at, with_slot}
use Rattle.slots.specs.Calls.{Act, InF32, lent, Voice, act_def}
use Rattle.slots.specs.Table.{Call, first, checks, verdict, bad}
use Rattle.bank.specs.World.{Acted, acted, call_by, call_def, lines_at}
use Rattle.bank.proofs.Accepted.{Sound, whole, begun}
use Rattle.ground.proofs.Bools.{or_false}
use Rattle.ground.proofs.Part.{length_part}
use Rattle.ground.proofs.Draw.{always_run, draws_always}
use Rattle.claims.specs.Ledger.{act_entry}
use Rattle.claims.proofs.Acts.{Follows, led_of, act_law}
use Rattle.slot_bytes.proofs.Parts.{bank_after}
use Rattle.slot_bytes.proofs.Little.{length_slot_bytes}
use Rattle.bank_abi.proofs.Back.{decode_encode}
use Rattle.bank_abi.proofs.Stays.{bank_stays}
use Rattle.slot_bytes.specs.Layout.{SlotF32, encode_slot, parts, decode_bank, with_bytes}
use Rattle.bank_abi.specs.Claims.{Numbers}
use Rattle.bank_abi.specs.Crossing.{bad_flags, is_bank, kind_in, bad_bytes, Crossing, world_of, Crossed, cross_by, Wrote, cross_def, numbers_of, decoded, Gives}

-- ---- what number 1 leaves of the bytes

record Good (bs : List ℕ) (mem : List Float) : Type 0 where
  size : length bs ≡ 3144
  bank : bad (decode_bank bs) mem ≡ false

and_not : (a b : Bool) → not (a && b) ≡ false → a ≡ true
and_not true b e = refl
and_not false b e = absurd (false≢true (sym e))

good : (bs : List ℕ) (mem : List Float) → bad_bytes bs mem ≡ false → Good bs mem
unfolding bad_bytes is_bank
good bs mem e =
    let o = or_false (not (is_bank bs)) (bad (decode_bank bs) mem) e in
    record { size = eqb-true (length bs) 3144 (and_not (eqb (length bs) 3144) (not (bad_flags (parts 8 bs))) o.0); bank = o.1 }

-- ---- the table's word on what the code read

module _ (bs : List ℕ) (mem : List Float) (c : Call) where
  abbrev kind_of : ℕ
  kind_of = (slot_at (decode_bank bs) c.slot).kind

  -- a kind that is read off the bytes
  pub kind_read : {n : ℕ} → n ≡ kind_in bs c.slot → length bs ≡ 3144 → n ≡ kind_of
  unfolding kind_in
  kind_read e l = e ∙ rw (eq-eqb (length bs) 3144 l)

  -- a kind that is read from a bank; where number 1 applies none is asked for
  same_word : (b : Bool) (n : ℕ) → b ≡ bad_bytes bs mem → (length bs ≡ 3144 → n ≡ kind_of) → verdict b n c ≡ verdict (bad_bytes bs mem) kind_of c
  unfolding verdict first
  same_word true n e k = ap (λ (x : Bool). verdict x kind_of c) e
  same_word false n e k = ap (λ (m : ℕ). verdict false m c) (k (good bs mem (sym e)).size) ∙ ap (λ (x : Bool). verdict x kind_of c) e

  pub decided : {b : Bool} {n : ℕ} {r v : Result (Unit {0}) Reason} → r ≡ verdict b n c → b ≡ bad_bytes bs mem → (length bs ≡ 3144 → n ≡ kind_of) → r ≡ v
      → verdict (bad_bytes bs mem) kind_of c ≡ v
  decided {b} {n} e eb en ev = sym (same_word b n eb en) ∙ sym e ∙ ev

  -- what an acceptance tells
  pub record Taken : Type 0 where
    pub word : verdict (bad_bytes bs mem) kind_of c ≡ Ok tt
    pub size : length bs ≡ 3144
    pub slot_within : c.slot < 8
    pub lines : length mem ≡ 10240
    pub sound : Sound (slot_at (decode_bank bs) c.slot)
    pub rest : first (checks kind_of c.act) ≡ Ok tt

  pub taken : {b : Bool} {n : ℕ} {r : Result (Unit {0}) Reason} → r ≡ verdict b n c → b ≡ bad_bytes bs mem → (length bs ≡ 3144 → n ≡ kind_of) → r ≡ Ok tt
      → Taken
  taken e₀ eb en ev =
      let e = decided e₀ eb en ev in
      let g = begun (bad_bytes bs mem) c.slot kind_of c.act e in
      let h = good bs mem g.good in
      let w = whole (decode_bank bs) mem c.slot h.bank in
      record { word = e; size = h.size; slot_within = g.slot_within; lines = w.size; sound = w.sound; rest = g.rest }

-- ---- what an accepted call leaves is a slot that the bytes can hold

small_after : (act : Act) (slot : ℕ) (s : Slot) (word : ℕ) (mem : List Float) → Sound s → length mem ≡ 10240 → slot < 8 → InF32 act
    → first (checks s.kind act) ≡ Ok tt
    → Numbers (acted act slot s word mem).slot
unfolding acted
small_after act slot s word mem o l h i e =
    let v : Voice = record { slot = s; lines = lines_at slot mem } in
    let size : length (lines_at slot mem) ≡ 1280 = length_part (1280 * slot) 1280 mem (omega arith) in
    let a = draws_always _ (Follows act (act_entry act (led_of s))) (act_def act v) (act_law act v o size i e) in
    let k = (always_run (Follows act (act_entry act (led_of s))) (act_def act v) word a refl).ok in
    record { kind = omega (arith, k.known); string = omega (arith, k.string); stretch = omega (arith, k.stretch); left = omega (arith, k.left) }

-- ---- the two cases

module _ (x : Crossing) (c : Call) where
  abbrev kind : ℕ
  kind = kind_of x.bytes x.mem c

  -- of bytes that are a bank, number 1 is the bank's
  same_table : is_bank x.bytes ≡ true → verdict (bad (decode_bank x.bytes) x.mem) kind c ≡ verdict (bad_bytes x.bytes x.mem) kind c
  unfolding bad_bytes
  same_table e = rw e

  pub refused : (r : Reason) {n : ℕ} → InF32 c.act → n ≡ reason_number r → verdict (bad_bytes x.bytes x.mem) kind c ≡ Err r
      → Gives x c (record { number = n; counts = no_counts; after = x; bufs = lent c.act })
  unfolding cross_def cross_by call_def call_by
  refused r i en e =
      record {
        is = ap (λ (v : Result (Unit {0}) Reason). cross_by v x c) e ∙ λ j. record { number = sym en j; counts = no_counts; after = x; bufs = lent c.act };
        agrees = λ b. ap (λ (v : Result (Unit {0}) Reason). numbers_of (call_by v (world_of x) c)) (same_table b ∙ e)
            ∙ λ j. (sym en j, no_counts, world_of x, lent c.act);
        stays = λ b. b;
        given = i;
      }

  -- an accepted call: the slot that was read and moved, and the bytes that were written
  pub wrote : (s : Slot) (m : Acted) (bs : List ℕ) → s ≡ slot_at (decode_bank x.bytes) c.slot → acted c.act c.slot s x.word x.mem ≡ m
      → bs ≡ with_bytes c.slot (encode_slot m.slot) x.bytes → SlotF32 m.slot
      → Wrote x c (record { number = 0; counts = m.counts; after = record { bytes = bs; word = m.word; mem = m.mem }; bufs = m.bufs })
  unfolding cross_by
  wrote s m bs es em eb f =
      let em' : acted c.act c.slot (slot_at (decode_bank x.bytes) c.slot) x.word x.mem ≡ m = ap (λ (y : Slot). acted c.act c.slot y x.word x.mem) (sym es)
      ∙ em in
      record {
        is = ap (λ (q : Acted). record {
          number = 0;
          counts = q.counts;
          after = record
              { bytes = with_bytes c.slot (encode_slot q.slot) x.bytes; word = q.word; mem = q.mem };
          bufs = q.bufs;
        }) em'
            ∙ λ j. record { number = 0; counts = m.counts; after = record { bytes = sym eb j; word = m.word; mem = m.mem }; bufs = m.bufs };
        held = subst (λ (q : Acted). SlotF32 q.slot) (sym em') f;
      }

  pub accepted : (y : Crossed) → Taken x.bytes x.mem c → InF32 c.act → Wrote x c y → Gives x c y
  unfolding cross_def cross_by call_def call_by acted
  accepted y t i w =
      let s = slot_at (decode_bank x.bytes) c.slot in
      let m = acted c.act c.slot s x.word x.mem in
      let n : Numbers m.slot = small_after c.act c.slot s x.word x.mem t.sound t.lines t.slot_within i t.rest in
      let d : decode_bank (with_bytes c.slot (encode_slot m.slot) x.bytes) ≡ with_slot (decode_bank x.bytes) c.slot m.slot =
      bank_after x.bytes (encode_slot m.slot) c.slot m.slot t.size t.slot_within (length_slot_bytes m.slot w.held.1) (decode_encode m.slot w.held n) in
      record {
        is = ap (λ (v : Result (Unit {0}) Reason). cross_by v x c) t.word ∙ w.is;
        agrees = λ b. ap (λ (v : Result (Unit {0}) Reason). numbers_of (call_by v (world_of x) c)) (same_table b ∙ t.word)
            ∙ (λ j. (0, m.counts, record { bank = sym d j; word = m.word; mem = m.mem }, m.bufs))
            ∙ ap decoded w.is;
        stays = λ b. subst (λ (q : Crossed). is_bank q.after.bytes ≡ true) w.is (bank_stays x.bytes c.slot m.slot b t.slot_within w.held);
        given = i;
      }
