-- A slot: empty, and as it is opened. Assumes nothing.
use Rattle.std.specs.Prelude.{◌≡◌, List, ℕ, zero, suc, get_or, set, replicate, Float, Result, Ok, Err}
use Rattle.ground.specs.F32.{c0}
use Rattle.utils.specs.DelayLine.{line_reset}
use Rattle.string_voice.specs.declared.string_voice.StringVoice.{StringVoice}
use Rattle.string_voice.specs.StringVoice as string
use Rattle.modal_voice.specs.ModalVoice as modal
use Rattle.slots.specs.declared.slots.Slot.{Slot}
use Rattle.slots.specs.declared.slots.Bank.{Bank}
use Rattle.slots.specs.declared.slots.Kind.{Kind}
use Rattle.slots.specs.declared.slots.Kind.TheVariants as K
use Rattle.slots.specs.declared.answers.Reason.{Reason}
use Rattle.slots.specs.declared.answers.Reason.TheVariants as R

-- the kind that a number names: 1 a string, 2 a modal voice, and another number none
abbrev pub named : ℕ → Result Kind Reason
named zero = Err R.Kind
named (suc zero) = Ok K.String
named (suc (suc zero)) = Ok K.Modal
named (suc (suc (suc n))) = Err R.Kind

abbrev pub Names : ℕ → Result Kind Reason → Type 0
Names n k = k ≡ named n

-- a string whose every number is 0: of a new one the sample rate is not
unfoldable pub no_string : StringVoice
no_string =
    let v = string.voice_new in
    record v { string = record v.string { sample_rate_hz = c0 } }

-- an empty slot; `ModalVoice::new` has every number 0 and holds no strike
unfoldable pub empty_slot : Slot
empty_slot = record { kind = 0; string = no_string; modal = modal.voice_new }

-- a fresh bank
unfoldable pub fresh_bank : Bank
fresh_bank = record { slots = replicate 8 empty_slot }

abbrev pub slot_at : Bank → ℕ → Slot
slot_at b s = get_or b.slots s empty_slot

abbrev pub with_slot : Bank → ℕ → Slot → Bank
with_slot b s x = record { slots = set b.slots s x }

-- opening: `new` then `init` of the kind's voice, with the slot's lines, cleared for either kind; nothing stays of what the slot held
abbrev pub opened : ℕ → Float → List Float → Slot × List Float
opened zero rate lines = (empty_slot, (line_reset lines).1)
opened (suc zero) rate lines =
    let v = string.voice_init string.voice_new rate lines in
    (record { kind = 1; string = v.0; modal = modal.voice_new }, v.1)
opened (suc (suc k)) rate lines = (record { kind = 2; string = no_string; modal = modal.voice_init modal.voice_new }, (line_reset lines).1)
