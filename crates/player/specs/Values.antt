-- Values of the table of a whole sheet, of an event's knobs and of its answer, each by computation. Assumes nothing.
use Rattle.std.specs.Prelude.{◌≡◌, refl, Bool, true, false, List, [], ◌∷◌, ◌++◌, map, ℕ, replicate, Float, Result, Ok, Err}
use Rattle.std.specs.Float.{binary32}
use Rattle.std.specs.Float.Ieee.{of_bits}
use Rattle.noise.specs.declared.excitation.Knobs.{Knobs}
use Rattle.slots.specs.declared.answers.Reason.{Reason}
use Rattle.slots.specs.declared.answers.Reason.TheVariants as R
use Rattle.slots.specs.Answers.{no_counts, reason_number}
use Rattle.slots.specs.Calls.{Bufs}
use Rattle.slots.specs.Table.{first}
use Rattle.slots.specs.Values.{lens, block, lengths}
use Rattle.player.specs.declared.sheet.Event.{Event}
use Rattle.player.specs.Sheet.{knobs_of, rises, until, cues_from, sheet_verdict, cues}
use Rattle.player.specs.Owners.{no_event}
use Rattle.player.specs.Play.{told, told_of, refused_answers}

-- a sheet of events on these frames, and one event with these flags
abbrev on : List ℕ → List Event
on fs = map (λ f. record no_event { frame = f }) fs

abbrev flagged : ℕ → ℕ → List Event
flagged trigger sustain = record no_event { trigger = trigger; sustain = sustain } ∷ []

-- a sheet with its answers and buffers, and its number, which is 0 where it is played; `bad` is number 1 of bank and line memory
pub record Row : Type 0 where
  pub bad : Bool
  pub sheet : List Event
  pub answers : ℕ
  pub bufs : Bufs
  pub number : ℕ

abbrev verdict_number : Result (Unit {0}) Reason → ℕ
verdict_number (Ok u) = 0
verdict_number (Err r) = reason_number r

unfoldable pub given : Row → ℕ
given r = verdict_number (sheet_verdict r.bad r.sheet r.answers r.bufs)

-- a sheet for a block of 8 frames, with 64 answers
abbrev row : List Event → ℕ → Row
row es n = record { bad = false; sheet = es; answers = 64; bufs = block 8; number = n }

abbrev lent : Bufs → List Event → ℕ → Row
lent b es n = record { bad = false; sheet = es; answers = 64; bufs = b; number = n }

-- number 1: bank or line memory, each flag at and past its last value, and other answers than 64
abbrev ones : List Row
ones =
    record (row [] 1) { bad = true }
    ∷ row (flagged 1 1) 0
    ∷ row (flagged 2 1) 1
    ∷ row (flagged 1 2) 1
    ∷ row (no_event ∷ flagged 0 2) 1
    ∷ record (row [] 1) { answers = 63 }
    ∷ record (row [] 0) { answers = 64 }
    ∷ record (row [] 1) { answers = 65 }
    ∷ record (row [] 1) { answers = 0 }
    ∷ []

-- 7, 17 and 18, also beside 8, and 8 at the longest block
abbrev blocks : List Row
blocks =
    map (λ (x : Bufs × ℕ). lent x.0 [] x.1) lengths
    ++ lent (block 4096) (on (4095 ∷ [])) 0
    ∷ lent (block 4097) (on (4095 ∷ [])) 8
    ∷ []

-- 14: as many events as a sheet has, and one more
abbrev many : List Row
many = row (replicate 64 no_event) 0 ∷ row (replicate 65 no_event) 14 ∷ []

-- 15: equal frames, one down, down behind a rise, and down from one slot to another
abbrev orders : List Row
orders =
    row (on (3 ∷ 3 ∷ [])) 0
    ∷ row (on (3 ∷ 4 ∷ [])) 0
    ∷ row (on (4 ∷ 3 ∷ [])) 15
    ∷ row (on (0 ∷ 5 ∷ 4 ∷ [])) 15
    ∷ row (record no_event { frame = 4; slot = 1 } ∷ record no_event { frame = 3; slot = 2 } ∷ []) 15
    ∷ []

-- 16: the last frame, the block's end, and a block of no frames with an event and with none
abbrev ends : List Row
ends =
    row (on (7 ∷ [])) 0
    ∷ row (on (8 ∷ [])) 16
    ∷ row (on (0 ∷ 9 ∷ [])) 16
    ∷ lent (block 0) (on (0 ∷ [])) 16
    ∷ lent (block 0) [] 0
    ∷ []

-- several at once: the first of them
abbrev firsts : List Row
firsts =
    record { bad = true; sheet = flagged 2 0 ++ replicate 65 no_event; answers = 0; bufs = lens 4097 0 0 0; number = 1 }
    ∷ lent (lens 4097 0 0 0) (flagged 2 0) 1
    ∷ row (replicate 65 no_event ++ flagged 2 0) 1
    ∷ lent (lens 4097 0 0 0) (replicate 65 no_event) 7
    ∷ lent (lens 4097 4097 0 0) (replicate 65 no_event) 17
    ∷ lent (lens 4097 4097 4097 0) (replicate 65 no_event) 18
    ∷ lent (block 4097) (replicate 65 no_event) 8
    ∷ lent (block 0) (on (9 ∷ []) ++ replicate 64 no_event) 14
    ∷ row (on (9 ∷ 8 ∷ [])) 15
    ∷ row (on (9 ∷ 0 ∷ [])) 15
    ∷ []

abbrev pub rows : List Row
rows = ones ++ blocks ++ many ++ orders ++ ends ++ firsts

-- the table gives each row its number
pub rows_value : map given rows ≡ map (λ r. r.number) rows
unfolding given sheet_verdict first rises
rows_value = refl

-- the frames of four events in a block of 8: slot 1, slot 2, slot 1 twice on one frame
abbrev four : List Event
four =
    record no_event { slot = 1 }
    ∷ record no_event { frame = 2; slot = 2 }
    ∷ record no_event { frame = 5; slot = 1 }
    ∷ record no_event { frame = 5; slot = 1 }
    ∷ []

pub four_value : map {B = ℕ × ℕ × ℕ × ℕ} (λ q. (q.place, q.slot, q.from, q.to)) (cues 8 four) ≡ (0, 1, 0, 5) ∷ (1, 2, 2, 8) ∷ (2, 1, 5, 5) ∷ (3, 1, 5, 8) ∷ []
unfolding cues_from until
four_value = refl

-- ---- an event's knobs, and its answer

abbrev f32 : ℕ → Float
f32 w = of_bits binary32 w

-- struck and not sustained, with a number of its own for each knob: 0.125, 0.25, 0.5, 0.75 and 1
abbrev struck : Event
struck =
    record no_event {
      trigger = 1;
      f0 = f32 0x3e000000;
      accent = f32 0x3e800000;
      structure = f32 0x3f000000;
      brightness = f32 0x3f400000;
      damping = f32 0x3f800000;
    }

pub knobs_value : knobs_of struck
    ≡ record {
      sustain = false;
      trigger = true;
      accent = f32 0x3e800000;
      f0 = f32 0x3e000000;
      structure = f32 0x3f000000;
      brightness = f32 0x3f400000;
      damping = f32 0x3f800000;
    }
knobs_value = refl

abbrev bowed : Knobs
bowed = knobs_of (record no_event { sustain = 1 })

pub sustained_value : bowed.sustain ∷ bowed.trigger ∷ [] ≡ true ∷ false ∷ []
sustained_value = refl

pub told_value : map told_of (Ok (record { burst = 1; dust = 2; dispersion = 3 }) ∷ Err R.Empty ∷ [])
    ≡ record { number = 0; burst = 1; dust = 2; dispersion = 3 } ∷ record { number = 5; burst = 0; dust = 0; dispersion = 0 } ∷ []
told_value = refl

-- a sheet refused whole tells its number in 64 answers, and leaves others
pub refused_value : map (λ n. refused_answers R.TooMany (replicate n (told 0 no_counts))) (64 ∷ 63 ∷ 65 ∷ [])
    ≡ replicate 64 (told 14 no_counts) ∷ replicate 63 (told 0 no_counts) ∷ replicate 65 (told 0 no_counts) ∷ []
refused_value = refl
