-- What an accepted call makes of a slot, and what a call of the bank leaves by the table's word: laws over plain values. Assumes nothing.
use mathlib.Core.Path.{◌≡◌, sym, ◌∙◌, ap}
use mathlib.Core.Bool.{Bool}
use mathlib.Core.List.{List, ◌++◌}
use Prim.Native.Nat.{ℕ, ◌+◌, ◌-◌, ◌*◌}
use native.Mathlib.Omega.{arith}
use lib.ListN.{take, drop, take-append-drop}
use lib.Ieee.{Float}
use Rattle.std.specs.Prelude.{Result, Ok, Err}
use Rattle.ground.specs.Draw.{Ran, run}
use Rattle.ground.specs.Part.{part, put}
use Rattle.ground.proofs.Draw.{run_then}
use Rattle.noise.specs.declared.excitation.Knobs.{Knobs}
use Rattle.noise.specs.declared.excitation.Counts.{Counts}
use Rattle.string_voice.specs.declared.string_voice.StringVoice.{StringVoice}
use Rattle.string_voice.specs.StringVoice as string
use Rattle.modal_voice.specs.declared.modal_voice.ModalVoice.{ModalVoice}
use Rattle.modal_voice.specs.ModalVoice as modal
use Rattle.slots.specs.declared.answers.Reason.{Reason}
use Rattle.slots.specs.declared.slots.Slot.{Slot}
use Rattle.slots.specs.declared.slots.Bank.{Bank}
use Rattle.slots.specs.Answers.{no_counts}
use Rattle.slots.specs.Slots.{slot_at, with_slot, opened}
use Rattle.slots.specs.Calls.{Act, Bufs, Voice, Done, lent, opening, reset, render, open_def, reset_def, string_def, modal_def, render_def, act_def}
use Rattle.slots.specs.Table.{Call, verdict, bad}
use Rattle.bank.specs.World.{World, lines_at, with_lines, Left, left_of, Acted, acted, call_by, call_def}

-- ---- by the table's word

-- the table's word on what the code read of the bank
pub decided : {b b' : Bool} {n n' : ℕ} {r v : Result (Unit {0}) Reason} (c : Call) → r ≡ verdict b n c → b ≡ b' → n ≡ n' → r ≡ v → verdict b' n' c ≡ v
decided {b} {b'} {n} {n'} c e eb en ev = ap (λ (x : Bool). verdict x n' c) (sym eb) ∙ ap (λ (x : ℕ). verdict b x c) (sym en) ∙ sym e ∙ ev

module _ (w : World) (c : Call) where
  pub refused_left : (x : Reason) → verdict (bad w.bank w.mem) (slot_at w.bank c.slot).kind c ≡ Err x
      → left_of (call_def w c) ≡ record { answer = Err x; after = w; bufs = lent c.act }
  unfolding call_def call_by
  refused_left x e = ap (λ (v : Result (Unit {0}) Reason). left_of (call_by v w c)) e

  -- what an accepted call leaves, by what it makes of its slot
  abbrev left_by : Acted → Left
  left_by m =
      record {
        answer = Ok m.counts;
        after = record { bank = with_slot w.bank c.slot m.slot; word = m.word; mem = m.mem };
        bufs = m.bufs;
      }

  pub accepted_left : (x : Slot) (b' : Bank) (m : Acted) → verdict (bad w.bank w.mem) (slot_at w.bank c.slot).kind c ≡ Ok tt
      → x ≡ slot_at w.bank c.slot → acted c.act c.slot x w.word w.mem ≡ m → b' ≡ with_slot w.bank c.slot m.slot
      → left_of (call_def w c) ≡ record { answer = Ok m.counts; after = record { bank = b'; word = m.word; mem = m.mem }; bufs = m.bufs }
  unfolding call_def call_by acted
  accepted_left x b' m e ex em eb =
      ap (λ (v : Result (Unit {0}) Reason). left_of (call_by v w c)) e
      ∙ ap (λ (y : Slot). left_by (acted c.act c.slot y w.word w.mem)) (sym ex)
      ∙ ap left_by em
      ∙ λ i. record { answer = Ok m.counts; after = record { bank = sym eb i; word = m.word; mem = m.mem }; bufs = m.bufs }

-- ---- a slot's part of line memory: j is the code's end less its start

pub width : (slot : ℕ) → 1280 * slot + 1280 - 1280 * slot ≡ 1280
width slot = omega arith

put_part : (a k : ℕ) (xs : List Float) → put a k (part a k xs) xs ≡ xs
unfolding part put
put_part a k xs = ap (λ (ys : List Float). take a xs ++ ys) (take-append-drop k (drop a xs)) ∙ take-append-drop a xs

module _ (mem : List Float) (word slot j : ℕ) (wide : j ≡ 1280) where
  abbrev part_of : List Float
  part_of = take j (drop (1280 * slot) mem)

  abbrev mem_with : List Float → List Float
  mem_with ys = take (1280 * slot) mem ++ (ys ++ drop j (drop (1280 * slot) mem))

  -- what a run of the act makes
  abbrev made_by : Ran Done → Acted
  made_by q =
      record {
        slot = q.value.voice.slot;
        word = q.word;
        mem = with_lines slot q.value.voice.lines mem;
        bufs = q.value.bufs;
        counts = q.value.counts;
      }

  ran_moved : (act : Act) (x : Slot) {q : Ran Done} → run (act_def act (record { slot = x; lines = lines_at slot mem })) word ≡ q
      → acted act slot x word mem ≡ made_by q
  unfolding acted
  ran_moved act x e = ap made_by e

  pub opened_moved : (kind : ℕ) (rate : Float) (x y : Slot) (lines : List Float) → (y, lines) ≡ opened kind rate part_of
      → acted (opening kind rate) slot x word mem ≡ record { slot = y; word = word; mem = mem_with lines; bufs = lent (opening kind rate); counts = no_counts }
  unfolding acted act_def open_def part put
  opened_moved kind rate x y lines e = let f = rw wide at e in rw (ap (λ q. q.0) f, ap (λ q. q.1) f, wide)

  pub reset_moved : (x : Slot) (s : StringVoice) (lines : List Float) → (s, lines) ≡ string.voice_reset x.string part_of
      → acted reset slot x word mem
      ≡ record { slot = record { kind = x.kind; string = s; modal = x.modal }; word = word; mem = mem_with lines; bufs = lent reset; counts = no_counts }
  unfolding acted act_def reset_def part put
  reset_moved x s lines e = let f = rw wide at e in rw (ap (λ q. q.0) f, ap (λ q. q.1) f, wide)

  -- a render: the voice's run, and the slot with its voice
  module _ (k : Knobs) (u v : Bufs) (x : Slot) where
    pub string_moved : (s : StringVoice) (lines : List Float) (counts : Counts) (word' : ℕ) → x.kind ≡ 1
        → run (string.render_of k x.string part_of u.temp u.temp2 u.out u.aux) word ≡ record {
          value = record { voice = s; lines = lines; temp = v.temp; temp2 = v.temp2; out = v.out; aux = v.aux; counts = counts };
          word = word';
        }
        → acted (render k u) slot x word mem
        ≡ record { slot = record { kind = x.kind; string = s; modal = x.modal }; word = word'; mem = mem_with lines; bufs = v; counts = counts }
    unfolding act_def render_def string_def part put
    string_moved s lines counts word' one e =
        let f = rw wide at e in
        let y : Voice = record { slot = x; lines = lines_at slot mem } in
        ran_moved (render k u) x (ap (λ (n : ℕ). run (render_def n k u y) word) one
        ∙ run_then (string.render_of k x.string (lines_at slot mem) u.temp u.temp2 u.out u.aux) _ word f)
        ∙ rw wide

    pub modal_moved : (m : ModalVoice) (counts : Counts) (word' : ℕ) → x.kind ≡ 2
        → run (modal.render_of k x.modal u.temp u.temp2 u.out u.aux) word ≡ record {
          value = record { voice = m; temp = v.temp; temp2 = v.temp2; out = v.out; aux = v.aux; counts = counts };
          word = word';
        }
        → acted (render k u) slot x word mem
        ≡ record { slot = record { kind = x.kind; string = x.string; modal = m }; word = word'; mem = mem; bufs = v; counts = counts }
    unfolding act_def render_def modal_def
    modal_moved m counts word' two e =
        let y : Voice = record { slot = x; lines = lines_at slot mem } in
        ran_moved (render k u) x (ap (λ (n : ℕ). run (render_def n k u y) word) two ∙ run_then (modal.render_of k x.modal u.temp u.temp2 u.out u.aux) _ word e)
        ∙ rw (put_part (1280 * slot) 1280 mem)
