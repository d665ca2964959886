-- Values that 01 names of the ledger and of the table of refusals, each by computation. `fin s m e` is m * 2 ^ e, negative where s is true, and
-- `negsuc k` is -(k + 1). Assumes nothing.
use Rattle.std.specs.Prelude.{◌≡◌, refl, true, false, List, [], ◌∷◌, ◌++◌, map, ℕ, get_or, replicate, negsuc, Float, Result, Ok, Err}
use Rattle.std.specs.Float.{binary32, nan, fin}
use Rattle.std.specs.Float.Ieee.{of_bits, add, sub, mul, div, lt, le, to_unsigned}
use Rattle.ground.specs.F32.{c0, c0·5, c48000}
use Rattle.noise.specs.declared.excitation.Knobs.{Knobs}
use Rattle.noise.specs.declared.excitation.Counts.{Counts}
use Rattle.waveguide.specs.String.{string_new}
use Rattle.string_voice.specs.StringVoice as string_voice
use Rattle.slots.specs.declared.slots.Slot.{Slot}
use Rattle.slots.specs.declared.slots.Bank.{Bank}
use Rattle.slots.specs.declared.answers.Reason.{Reason}
use Rattle.slots.specs.Answers.{no_counts, reason_number}
use Rattle.slots.specs.Slots.{no_string, empty_slot, fresh_bank, slot_at, with_slot}
use Rattle.slots.specs.Calls.{Bufs, opening, reset, render}
use Rattle.slots.specs.Table.{Call, first, in_range, checks, bad_slot, bad_slots, bad, verdict}
use Rattle.slots.specs.Values.{lens, lengths}
use Rattle.claims.specs.Ledger.{fresh_led, period, held_period, ratio, whole, next_phase, phase_after, steps, string_entry, render_entry}
use Rattle.claims.specs.Ledger.{act_entry, line_by, line_of, ledger_from, ledger}

-- ---- calls

-- knobs of these numbers, with trigger and no sustain
abbrev pub knobs : Float → Float → Float → Float → Float → Knobs
knobs f0 accent structure brightness damping =
    record { sustain = false; trigger = true; accent = accent; f0 = f0; structure = structure; brightness = brightness; damping = damping }

abbrev zeros : ℕ → List Float
zeros n = replicate n c0

-- a render of a slot into buffers of these lengths
abbrev pub rendered : ℕ → Knobs → ℕ → ℕ → ℕ → ℕ → Call
rendered s k temp temp2 out aux = record { slot = s; act = render k (lens temp temp2 out aux) }

-- a render of slot 0, of n frames: trigger, no sustain, structure 0.5
abbrev pub block_of : Float → ℕ → Call
block_of f0 n = rendered 0 (knobs f0 c0·5 c0·5 c0·5 c0·5) n n n n

-- ---- the ledger: a fresh string, f0 = 1/2048, 8 frames, trigger, no sustain, structure 0.5

abbrev low : Float
low = fin false 1 (negsuc 10)

abbrev calls : List Call
calls = record { slot = 0; act = opening 1 c48000 } ∷ block_of low 8 ∷ []

-- ratio 255/512, and it does not become 1
pub ratio_value : ratio low ≡ fin false 255 (negsuc 8)
unfolding ratio held_period div mul lt of_bits
ratio_value = refl

pub not_whole : whole low ≡ false
unfolding whole ratio held_period div mul lt le of_bits
not_whole = refl

-- steps at frames 3, 5, 7: how many there are after each of the 8
pub steps_value : map (λ n. steps n (ratio low) c0) (1 ∷ 2 ∷ 3 ∷ 4 ∷ 5 ∷ 6 ∷ 7 ∷ 8 ∷ []) ≡ 0 ∷ 0 ∷ 1 ∷ 1 ∷ 2 ∷ 2 ∷ 3 ∷ 3 ∷ []
unfolding steps next_phase ratio held_period add sub div mul lt le of_bits
steps_value = refl

-- burst 8, dust 0, dispersion 3, and left 2040
pub ledger_value : map {B = Result Counts Reason × ℕ} (λ l. (l.answer, (get_or l.slots 0 fresh_led).left)) (ledger 10240 calls)
    ≡ (Ok no_counts, 0) ∷ (Ok (record { burst = 8; dust = 0; dispersion = 3 }), 2040) ∷ []
unfolding ledger ledger_from line_of line_by verdict first checks in_range act_entry render_entry string_entry period steps
    phase_after next_phase whole ratio held_period add sub mul div lt le of_bits to_unsigned
ledger_value = refl

-- ---- the table of refusals

-- a call on a bank beside line memory of a length, and its number, which is 0 where it is accepted
pub record Row : Type 0 where
  pub bank : Bank
  pub memory : ℕ
  pub call : Call
  pub number : ℕ

abbrev table_number : Result (Unit {0}) Reason → ℕ
table_number (Ok u) = 0
table_number (Err r) = reason_number r

-- the number that the table gives
unfoldable pub given : Row → ℕ
given r = table_number (verdict (bad r.bank (zeros r.memory)) (slot_at r.bank r.call.slot).kind r.call)

-- a slot of a kind, and of these write places and this left
abbrev slot_with : ℕ → ℕ → ℕ → ℕ → Slot
slot_with kind string stretch left =
    let v = empty_slot.string in
    let s = record v.string { string = string; stretch = stretch } in
    record empty_slot { kind = kind; string = record v { string = s; remaining_noise_samples = left } }

-- a string in slot 0, a modal voice in slot 1, and slot 7 as it is asked
abbrev bank_with : Slot → Bank
bank_with x = with_slot (with_slot (with_slot fresh_bank 0 (slot_with 1 0 0 0)) 1 (slot_with 2 0 0 0)) 7 x

abbrev both : Bank
both = bank_with empty_slot

abbrev f32 : ℕ → Float
f32 w = of_bits binary32 w

-- a call on that bank, and its number
infix 80 ◌⟹◌
abbrev ◌⟹◌ : Call → ℕ → Row
c ⟹ n = record { bank = both; memory = 10240; call = c; number = n }

-- number 1: line memory of another length, and slot 7 at and past the last value of each number that is read, while slot 0 is called
abbrev memories : List Row
memories = map (λ (m : ℕ × ℕ). record { bank = both; memory = m.0; call = block_of c0·5 4; number = m.1 }) ((10239, 1) ∷ (10240, 0) ∷ (10241, 1) ∷ (0, 1) ∷ [])

abbrev slots : List Row
slots = map (λ (x : Slot × ℕ). record { bank = bank_with x.0; memory = 10240; call = block_of c0·5 4; number = x.1 }) (
    (slot_with 2 1023 255 1048576, 0)
    ∷ (slot_with 3 0 0 0, 1)
    ∷ (slot_with 0 1024 0 0, 1)
    ∷ (slot_with 0 0 256 0, 1)
    ∷ (slot_with 0 0 0 1048577, 1)
    ∷ []
    )

-- numbers 2 to 6: the slot, the kind, the sample rate, an empty slot, and a reset of a modal voice
abbrev open_call : ℕ → ℕ → Float → Call
open_call s kind rate = record { slot = s; act = opening kind rate }

abbrev openings : List Row
openings =
    open_call 7 1 c48000 ⟹ 0
    ∷ open_call 8 1 c48000 ⟹ 2
    ∷ open_call 0 0 c48000 ⟹ 3
    ∷ open_call 0 1 c48000 ⟹ 0
    ∷ open_call 0 2 c48000 ⟹ 0
    ∷ open_call 0 3 c48000 ⟹ 3
    ∷ open_call 0 1 (f32 0x45fa0000) ⟹ 0
    ∷ open_call 0 1 (f32 0x45f9ffff) ⟹ 4
    ∷ open_call 0 2 (f32 0x483b8000) ⟹ 0
    ∷ open_call 0 2 (f32 0x483b8001) ⟹ 4
    ∷ open_call 0 1 nan ⟹ 4
    ∷ open_call 8 3 nan ⟹ 2
    ∷ open_call 0 3 nan ⟹ 3
    ∷ []

abbrev resets : List Row
resets =
    record { slot = 0; act = reset } ⟹ 0
    ∷ record { slot = 1; act = reset } ⟹ 6
    ∷ record { slot = 7; act = reset } ⟹ 5
    ∷ record { slot = 8; act = reset } ⟹ 2
    ∷ []

-- numbers 2, 5, 7, 17, 18 and 8: the slot, an empty one, the lengths, and the longest block
abbrev half : Knobs
half = knobs c0·5 c0·5 c0·5 c0·5 c0·5

abbrev blocks : List Row
blocks =
    rendered 0 half 0 0 0 0 ⟹ 0
    ∷ rendered 1 half 4 4 4 4 ⟹ 0
    ∷ rendered 7 half 4 4 4 4 ⟹ 5
    ∷ rendered 8 half 4 4 4 4 ⟹ 2
    ∷ rendered 0 half 4096 4096 4096 4096 ⟹ 0
    ∷ rendered 0 half 4097 4097 4097 4097 ⟹ 8
    ∷ map (λ (x : Bufs × ℕ). record { slot = 0; act = render half x.0 } ⟹ x.1) lengths

-- numbers 9 to 13: each knob at its ends, at the next float beyond each, at -0 and at NaN
abbrev asked : Knobs → Call
asked k = rendered 0 k 4 4 4 4

abbrev fundamentals : List Row
fundamentals = map (λ (x : Float × ℕ). asked (knobs x.0 c0·5 c0·5 c0·5 c0·5) ⟹ x.1) (
    (f32 0x35800000, 0) ∷ (f32 0x357fffff, 9) ∷ (f32 0x3f000000, 0) ∷ (f32 0x3f000001, 9) ∷ (f32 0x80000000, 9) ∷ (nan, 9) ∷ []
    )

abbrev of_knob : (Float → Knobs) → ℕ → List Row
of_knob k n = map (λ (x : Float × ℕ). asked (k x.0) ⟹ x.1) (
    (f32 0, 0) ∷ (f32 0x80000000, 0) ∷ (f32 0x80000001, n) ∷ (f32 0x3f800000, 0) ∷ (f32 0x3f800001, n) ∷ (nan, n) ∷ []
    )

-- calls for which all of 2 to 13, 17 and 18 that can apply together do, and then all but those before each
abbrev firsts : List Row
firsts =
    rendered 8 (knobs nan nan nan nan nan) 4097 0 0 0 ⟹ 2
    ∷ rendered 7 (knobs nan nan nan nan nan) 4097 0 0 0 ⟹ 5
    ∷ rendered 0 (knobs nan nan nan nan nan) 4097 0 0 0 ⟹ 7
    ∷ rendered 0 (knobs nan nan nan nan nan) 4097 4097 0 0 ⟹ 17
    ∷ rendered 0 (knobs nan nan nan nan nan) 4097 4097 4097 0 ⟹ 18
    ∷ rendered 0 (knobs nan nan nan nan nan) 4097 4097 4097 4097 ⟹ 8
    ∷ asked (knobs nan nan nan nan nan) ⟹ 9
    ∷ asked (knobs c0·5 nan nan nan nan) ⟹ 10
    ∷ asked (knobs c0·5 c0·5 nan nan nan) ⟹ 11
    ∷ asked (knobs c0·5 c0·5 c0·5 nan nan) ⟹ 12
    ∷ asked (knobs c0·5 c0·5 c0·5 c0·5 nan) ⟹ 13
    ∷ record { bank = both; memory = 0; call = rendered 8 (knobs nan nan nan nan nan) 4097 0 0 0; number = 1 }
    ∷ []

abbrev pub rows : List Row
rows =
    memories ++ slots ++ openings ++ resets ++ blocks ++ fundamentals
    ++ of_knob (λ x. knobs c0·5 x c0·5 c0·5 c0·5) 10
    ++ of_knob (λ x. knobs c0·5 c0·5 x c0·5 c0·5) 11
    ++ of_knob (λ x. knobs c0·5 c0·5 c0·5 x c0·5) 12
    ++ of_knob (λ x. knobs c0·5 c0·5 c0·5 c0·5 x) 13
    ++ firsts

-- the table gives each row its number
pub rows_value : map given rows ≡ map (λ r. r.number) rows
unfolding given verdict first checks in_range bad bad_slots bad_slot fresh_bank empty_slot no_string string_voice.voice_new string_new lt le of_bits
rows_value = refl
