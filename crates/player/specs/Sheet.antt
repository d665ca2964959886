-- A sheet: the events of one block, what the table says of it, and the renders that the player makes of it. Assumes nothing.
use Rattle.std.specs.Prelude.{Bool, true, not, ◌&&◌, ◌||◌, cond, List, [], ◌∷◌, ◌++◌, ℕ, suc, eqb, leb, ltb, length, T, Result}
use Rattle.std.specs.Float.{binary32}
use Rattle.std.specs.Float.Ieee.{fits}
use Rattle.std.specs.List.{list_any, list_all}
use Rattle.noise.specs.declared.excitation.Knobs.{Knobs}
use Rattle.slots.specs.declared.answers.Reason.{Reason}
use Rattle.slots.specs.declared.answers.Reason.TheVariants as R
use Rattle.slots.specs.Calls.{Bufs}
use Rattle.slots.specs.Table.{Check, ◌⇐◌, first, buffer_checks}
use Rattle.player.specs.declared.sheet.Event.{Event}

-- a render's knobs, of an event; a flag that is not 0 is set
abbrev pub knobs_of : Event → Knobs
knobs_of e =
    record {
      sustain = not (eqb e.sustain 0);
      trigger = not (eqb e.trigger 0);
      accent = e.accent;
      f0 = e.f0;
      structure = e.structure;
      brightness = e.brightness;
      damping = e.damping;
    }

-- a structure is an f32, as every knob is
abbrev pub AreF32 : Event → Type 0
AreF32 e = T (fits binary32 e.structure)

-- ---- the table

-- a flag that is neither 0 nor 1
abbrev pub bad_flag : Event → Bool
bad_flag e = ltb 1 e.trigger || ltb 1 e.sustain

-- no frame goes down, from the frame `last` on
unfoldable pub rises : ℕ → List Event → Bool
rises last [] = true
rises last (e ∷ es) = leb last e.frame && rises e.frame es

-- an event is before the block's end n
abbrev pub before_end : ℕ → Event → Bool
before_end n e = ltb e.frame n

-- the checks of the events, in a block of n frames
abbrev pub event_checks : ℕ → List Event → List Check
event_checks n es =
    R.TooMany ⇐ ltb 64 (length es)
    ∷ R.OutOfOrder ⇐ not (rises 0 es)
    ∷ R.PastEnd ⇐ not (list_all (before_end n) es)
    ∷ []

-- a whole sheet's checks, into buffers and as many answers: `bad` says whether number 1 applies to bank and line memory
unfoldable pub sheet_verdict : Bool → List Event → ℕ → Bufs → Result (Unit {0}) Reason
sheet_verdict bad es answers b =
    first (
    R.Memory ⇐ (bad || list_any bad_flag es || not (eqb answers 64))
    ∷ buffer_checks b ++ event_checks (length b.temp) es
    )

-- ---- the renders

-- where a render of the slot s ends: at the slot's first event among those that follow, or at the block's end n
unfoldable pub until : ℕ → ℕ → List Event → ℕ
until n s [] = n
until n s (e ∷ es) = cond (eqb e.slot s) e.frame (until n s es)

-- a render that the player makes: the place of its event in the sheet, its slot and knobs, and its frames from .. to, the last not counted
pub record Cue : Type 0 where
  pub place : ℕ
  pub slot : ℕ
  pub knobs : Knobs
  pub from : ℕ
  pub to : ℕ

-- the render of the event at a place, up to the frame `to`
abbrev pub cue_of : ℕ → Event → ℕ → Cue
cue_of place e to = record { place = place; slot = e.slot; knobs = knobs_of e; from = e.frame; to = to }

unfoldable pub cues_from : ℕ → ℕ → List Event → List Cue
cues_from n i [] = []
cues_from n i (e ∷ es) = cue_of i e (until n e.slot es) ∷ cues_from n (suc i) es

-- one for each event, in the sheet's order, in a block of n frames
abbrev pub cues : ℕ → List Event → List Cue
cues n es = cues_from n 0 es
