-- The calls on a bank that crosses as bytes: eight slots one after the other. Assumes nothing.
use Rattle.std.specs.Prelude.{Bool, true, false, not, ◌&&◌, ◌||◌, cond, List, [], ◌∷◌, ◌≡◌, ℕ, eqb, ltb, length, get_or, Float, Result, Ok, Err}
use Rattle.noise.specs.declared.excitation.Counts.{Counts}
use Rattle.slots.specs.declared.answers.Reason.{Reason}
use Rattle.slots.specs.declared.answers.Reason.TheVariants.{Memory}
use Rattle.slots.specs.Answers.{no_counts, reason_number, number_of, counts_of}
use Rattle.slots.specs.Slots.{fresh_bank, slot_at}
use Rattle.slots.specs.Calls.{Bufs, InF32, lent}
use Rattle.slots.specs.Table.{Call, verdict, bad}
use Rattle.bank.specs.World.{World, Event, acted, call_def}
use Rattle.slot_bytes.specs.Layout.{SlotF32, parts, decode_bank, encode_bank, with_bytes, encode_slot}

-- making a fresh bank: refused with 1 where the length is another
unfoldable pub fresh_def : List ℕ → ℕ × List ℕ
fresh_def bs = cond (eqb (length bs) 3144) (0, encode_bank fresh_bank) (reason_number Memory, bs)

-- a flag that is neither 0 nor 1
abbrev pub bad_flag : List ℕ → Bool
bad_flag bs = ltb 1 (get_or bs 392 0)

unfoldable pub bad_flags : List (List ℕ) → Bool
bad_flags [] = false
bad_flags (b ∷ bs) = bad_flag b || bad_flags bs

-- bytes that are a bank, whatever it holds
unfoldable pub is_bank : List ℕ → Bool
is_bank bs = eqb (length bs) 3144 && not (bad_flags (parts 8 bs))

-- the kind of a slot, read off the bytes: 0 where they are not as many as a bank's
unfoldable pub kind_in : List ℕ → ℕ → ℕ
kind_in bs slot = cond (eqb (length bs) 3144) (slot_at (decode_bank bs) slot).kind 0

-- number 1, where a bank crosses as bytes
unfoldable pub bad_bytes : List ℕ → List Float → Bool
bad_bytes bs mem = not (is_bank bs) || bad (decode_bank bs) mem

-- what crosses: the bank's bytes, the generator's word and line memory
pub record Crossing : Type 0 where
  pub bytes : List ℕ
  pub word : ℕ
  pub mem : List Float

-- the same with the bank decoded
abbrev pub world_of : Crossing → World
world_of x = record { bank = decode_bank x.bytes; word = x.word; mem = x.mem }

-- what a call leaves: 01's number and counts, what crossed after it, and the buffers
pub record Crossed : Type 0 where
  pub number : ℕ
  pub counts : Counts
  pub after : Crossing
  pub bufs : Bufs

-- accepted, the slot that the call names is decoded, moved and encoded in its place; refused, nothing changes
unfoldable pub cross_by : Result (Unit {0}) Reason → Crossing → Call → Crossed
cross_by (Ok u) x c =
    let m = acted c.act c.slot (slot_at (decode_bank x.bytes) c.slot) x.word x.mem in
    record {
      number = 0;
      counts = m.counts;
      after = record { bytes = with_bytes c.slot (encode_slot m.slot) x.bytes; word = m.word; mem = m.mem };
      bufs = m.bufs;
    }
cross_by (Err r) x c = record { number = reason_number r; counts = no_counts; after = x; bufs = lent c.act }

-- what an accepted call gives, and that its slot is one that bytes can hold
pub record Wrote (x : Crossing) (c : Call) (y : Crossed) : Type 0 where
  pub is : cross_by (Ok tt) x c ≡ y
  pub held : SlotF32 (acted c.act c.slot (slot_at (decode_bank x.bytes) c.slot) x.word x.mem).slot

-- a call, by the table
unfoldable pub cross_def : Crossing → Call → Crossed
cross_def x c = cross_by (verdict (bad_bytes x.bytes x.mem) (slot_at (decode_bank x.bytes) c.slot).kind c) x c

-- what the bank's own call leaves, as numbers
abbrev pub numbers_of : Event → ℕ × Counts × World × Bufs
numbers_of e = (number_of e.answer, counts_of e.answer, e.after, e.bufs)

-- what a call on bytes leaves, the bank decoded
abbrev pub decoded : Crossed → ℕ × Counts × World × Bufs
decoded y = (y.number, y.counts, world_of y.after, y.bufs)

-- where the bytes are a bank, the call on bytes is the bank's
abbrev pub Agrees : Crossing → Call → Crossed → Type 0
Agrees x c y = is_bank x.bytes ≡ true → numbers_of (call_def (world_of x) c) ≡ decoded y

-- what an exported call gives
pub record Gives (x : Crossing) (c : Call) (y : Crossed) : Type 0 where
  pub is : cross_def x c ≡ y
  pub agrees : Agrees x c y
  -- bytes that are a bank stay one
  pub stays : is_bank x.bytes ≡ true → is_bank y.after.bytes ≡ true
  -- what is asked is f32s
  pub given : InF32 c.act
