-- The table of refusals, 01's with 02's numbers, as a list of reasons and tests in its order. It is read by the bank and by the ledger. Assumes nothing.
use Rattle.std.specs.Prelude.{Bool, false, not, ◌&&◌, ◌||◌, cond, List, [], ◌∷◌, ◌++◌, ℕ, eqb, leb, ltb, length, Float, Result, Ok, Err}
use Rattle.std.specs.Float.{binary32}
use Rattle.std.specs.Float.Ieee.{of_bits, le}
use Rattle.ground.specs.F32.{c0, c0·5, c1}
use Rattle.noise.specs.declared.excitation.Knobs.{Knobs}
use Rattle.slots.specs.declared.slots.Slot.{Slot}
use Rattle.slots.specs.declared.slots.Bank.{Bank}
use Rattle.slots.specs.declared.answers.Knob.TheVariants as K
use Rattle.slots.specs.declared.answers.Buffer.TheVariants as B
use Rattle.slots.specs.declared.answers.Reason.{Reason}
use Rattle.slots.specs.declared.answers.Reason.TheVariants as R
use Rattle.slots.specs.Calls.{Act, opening, reset, render, Bufs}

-- a call: the slot that it names, and what it asks of it
pub record Call : Type 0 where
  pub slot : ℕ
  pub act : Act

pub record Check : Type 0 where
  pub reason : Reason
  pub applies : Bool

infix 80 ◌⇐◌
abbrev pub ◌⇐◌ : Reason → Bool → Check
r ⇐ b = record { reason = r; applies = b }

-- the first that applies, and only then
unfoldable pub first : List Check → Result (Unit {0}) Reason
first [] = Ok tt
first (c ∷ cs) = cond c.applies (Err c.reason) (first cs)

-- ends are within, and a NaN is in no range
unfoldable pub in_range : Float → Float → Float → Bool
in_range lo hi x = le lo x && le x hi

-- 2^-20, 8,000 and 192,000
abbrev pub lowest : Float
lowest = of_bits binary32 0x35800000

abbrev pub c8000 : Float
c8000 = of_bits binary32 0x45fa0000

abbrev pub c192000 : Float
c192000 = of_bits binary32 0x483b8000

-- the checks of four buffers: temp_2, out and aux differ from temp in length, in this order, and temp is too long
abbrev pub buffer_checks : Bufs → List Check
buffer_checks b =
    R.Length B.Temp2 ⇐ not (eqb (length b.temp2) (length b.temp))
    ∷ R.Length B.Out ⇐ not (eqb (length b.out) (length b.temp))
    ∷ R.Length B.Aux ⇐ not (eqb (length b.aux) (length b.temp))
    ∷ R.TooLong ⇐ ltb 4096 (length b.temp)
    ∷ []

-- the checks of the knobs
abbrev pub knob_checks : Knobs → List Check
knob_checks k =
    R.OutOfRange K.F0 ⇐ not (in_range lowest c0·5 k.f0)
    ∷ R.OutOfRange K.Accent ⇐ not (in_range c0 c1 k.accent)
    ∷ R.OutOfRange K.Structure ⇐ not (in_range c0 c1 k.structure)
    ∷ R.OutOfRange K.Brightness ⇐ not (in_range c0 c1 k.brightness)
    ∷ R.OutOfRange K.Damping ⇐ not (in_range c0 c1 k.damping)
    ∷ []

-- the checks of what is asked, of a slot of the kind
unfoldable pub checks : ℕ → Act → List Check
checks kind (opening asked rate) =
    R.Kind ⇐ not (eqb asked 1 || eqb asked 2)
    ∷ R.SampleRate ⇐ not (in_range c8000 c192000 rate)
    ∷ []
checks kind reset =
    R.Empty ⇐ eqb kind 0
    ∷ R.NoReset ⇐ eqb kind 2
    ∷ []
checks kind (render k b) =
    R.Empty ⇐ eqb kind 0
    ∷ buffer_checks b ++ knob_checks k

-- number 1: of any slot, a kind above 2, a write place beyond its line, or left above 1,048,576
unfoldable pub bad_slot : Slot → Bool
bad_slot x = ltb 2 x.kind || leb 1024 x.string.string.string || leb 256 x.string.string.stretch || ltb 1048576 x.string.remaining_noise_samples

unfoldable pub bad_slots : List Slot → Bool
bad_slots [] = false
bad_slots (x ∷ xs) = bad_slot x || bad_slots xs

-- or line memory that is not 10,240 numbers
unfoldable pub bad : Bank → List Float → Bool
bad b mem = not (eqb (length mem) 10240) || bad_slots b.slots

-- the whole table: whether number 1 applies, and the kind of the slot named
unfoldable pub verdict : Bool → ℕ → Call → Result (Unit {0}) Reason
verdict bad kind c = first (R.Memory ⇐ bad ∷ R.NoSlot ⇐ ltb 7 c.slot ∷ checks kind c.act)
