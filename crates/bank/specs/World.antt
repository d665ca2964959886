-- The bank, the generator's word and line memory: what a call makes of them, and a list of calls. Assumes nothing.
use Rattle.std.specs.Prelude.{List, [], ◌∷◌, ◌≡◌, ℕ, ◌*◌, ◌<◌, ◌≤◌, length, Float, Result, Ok, Err}
use Rattle.ground.specs.Draw.{value, ending, words}
use Rattle.ground.specs.Part.{part, put}
use Rattle.string_voice.specs.declared.string_voice.StringVoice.{StringVoice}
use Rattle.slots.specs.declared.slots.Slot.{Slot}
use Rattle.slots.specs.declared.slots.Bank.{Bank}
use Rattle.slots.specs.Slots.{fresh_bank, slot_at, with_slot}
use Rattle.noise.specs.declared.excitation.Counts.{Counts}
use Rattle.slots.specs.declared.answers.Reason.{Reason}
use Rattle.slots.specs.Calls.{Act, Bufs, lent, Voice, act_def}
use Rattle.slots.specs.Table.{Call, bad, verdict}

pub record World : Type 0 where
  pub bank : Bank
  pub word : ℕ
  pub mem : List Float

-- a fresh bank, the generator at the seed
abbrev pub start : ℕ → List Float → World
start seed mem = record { bank = fresh_bank; word = seed; mem = mem }

-- the 1,280 numbers of a slot, and memory with others in their place
abbrev pub lines_at : ℕ → List Float → List Float
lines_at s mem = part (1280 * s) 1280 mem

abbrev pub with_lines : ℕ → List Float → List Float → List Float
with_lines s new mem = put (1280 * s) 1280 new mem

abbrev pub voice_at : ℕ → World → Voice
voice_at s w = record { slot = slot_at w.bank s; lines = lines_at s w.mem }

-- what an accepted call makes of one slot, of the generator's word and of line memory
pub record Acted : Type 0 where
  pub slot : Slot
  pub word : ℕ
  pub mem : List Float
  pub bufs : Bufs
  pub counts : Counts

unfoldable pub acted : Act → ℕ → Slot → ℕ → List Float → Acted
acted act s x word mem =
    let m = act_def act (record { slot = x; lines = lines_at s mem }) in
    let d = value m word in
    record { slot = d.voice.slot; word = ending m word; mem = with_lines s d.voice.lines mem; bufs = d.bufs; counts = d.counts }

-- a call made: the world before and after it, its answer, the buffers after it, and the words that its draws gave
pub record Event : Type 0 where
  pub call : Call
  pub before : World
  pub after : World
  pub answer : Result Counts Reason
  pub bufs : Bufs
  pub dealt : List ℕ

-- accepted, the slot's voice moves by its definition, run by the generator; refused, nothing does
unfoldable pub call_by : Result (Unit {0}) Reason → World → Call → Event
call_by (Ok u) w c =
    let m = acted c.act c.slot (slot_at w.bank c.slot) w.word w.mem in
    record {
      call = c;
      before = w;
      after = record { bank = with_slot w.bank c.slot m.slot; word = m.word; mem = m.mem };
      answer = Ok m.counts;
      bufs = m.bufs;
      dealt = words (act_def c.act (voice_at c.slot w)) w.word;
    }
call_by (Err r) w c = record { call = c; before = w; after = w; answer = Err r; bufs = lent c.act; dealt = [] }

-- a call of the bank, by the table
unfoldable pub call_def : World → Call → Event
call_def w c = call_by (verdict (bad w.bank w.mem) (slot_at w.bank c.slot).kind c) w c

-- a list of calls, each on what the last one left
unfoldable pub run_from : World → List Call → List Event
run_from w [] = []
run_from w (c ∷ cs) = let e = call_def w c in e ∷ run_from e.after cs

unfoldable pub end_from : World → List Call → World
end_from w [] = w
end_from w (c ∷ cs) = end_from (call_def w c).after cs

-- what a call leaves to its caller: the answer, the world after it, and the buffers
pub record Left : Type 0 where
  pub answer : Result Counts Reason
  pub after : World
  pub bufs : Bufs

abbrev pub left_of : Event → Left
left_of e = record { answer = e.answer; after = e.after; bufs = e.bufs }

-- what the table has told of a render that it accepts, of a string's voice
pub record ReadyString (v : StringVoice) (mem : List Float) (slot : ℕ) (out : List Float) : Type 0 where
  pub slot_within : slot < 8
  pub size : length mem ≡ 10240
  pub string : v.string.string < 1024
  pub stretch : v.string.stretch < 256
  pub short : length out ≤ 4096

-- and of a slot x
pub record Ready (x : Slot) (mem : List Float) (slot : ℕ) (out : List Float) : Type 0 where
  pub full : 0 < x.kind
  pub known : x.kind ≤ 2
  pub voice : ReadyString x.string mem slot out
