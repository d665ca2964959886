-- Whose the frames of a block are: what a composer may rely on. Assumes nothing.
use Rattle.std.specs.Prelude.{◌≡◌, Bool, List, ℕ, ◌≤◌, ◌<◌, length, get_or, Ok}
use Rattle.std.specs.Float.{nan}
use Rattle.slots.specs.Calls.{Bufs}
use Rattle.player.specs.declared.sheet.Event.{Event}
use Rattle.player.specs.Sheet.{knobs_of, sheet_verdict, Cue, cues}

-- an event's and a render's fields past the end of their lists, which nothing below reads
abbrev pub no_event : Event
no_event = record { frame = 0; slot = 0; trigger = 0; sustain = 0; f0 = nan; accent = nan; structure = nan; brightness = nan; damping = nan }

abbrev pub no_cue : Cue
no_cue = record { place = 0; slot = 0; knobs = knobs_of no_event; from = 0; to = 0 }

abbrev pub event_at : List Event → ℕ → Event
event_at es i = get_or es i no_event

abbrev pub cue_at : ℕ → List Event → ℕ → Cue
cue_at n es i = get_or (cues n es) i no_cue

-- the event i is of the slot s, and its render has the frame t
pub record Owns (n : ℕ) (es : List Event) (s t i : ℕ) : Type 0 where
  pub there : i < length (cues n es)
  pub slot : (cue_at n es i).slot ≡ s
  pub from : (cue_at n es i).from ≤ t
  pub to : t < (cue_at n es i).to

-- the event i is of the slot s, at or before the frame t, and no later event of the sheet is
pub record Latest (es : List Event) (s t i : ℕ) : Type 0 where
  pub there : i < length es
  pub slot : (event_at es i).slot ≡ s
  pub before : (event_at es i).frame ≤ t
  pub last : (j : ℕ) → i < j → j < length es → (event_at es j).slot ≡ s → t < (event_at es j).frame

pub record Shared (n : ℕ) (es : List Event) : Type 0 where
  -- exactly one render for each event, in the sheet's order, at most 64
  pub each : length (cues n es) ≡ length es
  pub place : (i : ℕ) → i < length es → (cue_at n es i).place ≡ i
  pub slot : (i : ℕ) → i < length es → (cue_at n es i).slot ≡ (event_at es i).slot
  pub knobs : (i : ℕ) → i < length es → (cue_at n es i).knobs ≡ knobs_of (event_at es i)
  pub from : (i : ℕ) → i < length es → (cue_at n es i).from ≡ (event_at es i).frame
  pub most : length (cues n es) ≤ 64
  -- a render is a part of the block
  pub part : (i : ℕ) → i < length es → ((cue_at n es i).from ≤ (cue_at n es i).to) × ((cue_at n es i).to ≤ n)
  -- a frame belongs to the latest event of its slot at or before it
  pub latest : (s t i : ℕ) → t < n → (Owns n es s t i → Latest es s t i) × (Latest es s t i → Owns n es s t i)
  -- from a slot's first event j on there is one, and no second
  pub owner : (s t j : ℕ) → t < n → j < length es → (event_at es j).slot ≡ s → (event_at es j).frame ≤ t → (i : ℕ) × Owns n es s t i
  pub single : (s t i j : ℕ) → Owns n es s t i → Owns n es s t j → i ≡ j
  -- an event whose slot has a later one on the same frame makes a render of no frames
  pub empty : (i j : ℕ) → i < j → j < length es → (event_at es j).slot ≡ (event_at es i).slot → (event_at es j).frame ≡ (event_at es i).frame
      → (cue_at n es i).to ≡ (cue_at n es i).from

-- over all sheets that are not refused whole
unfoldable pub EverySheet : Type 0
EverySheet = (bad : Bool) (es : List Event) (answers : ℕ) (b : Bufs) → sheet_verdict bad es answers b ≡ Ok tt → Shared (length b.temp) es
