-- A slot as 393 bytes: 98 words in the order of the records' fields, then the flag. A float is the word of its bits. A bank is eight slots. Assumes nothing.
use Rattle.std.specs.Prelude.{Bool, true, false, not, ◌&&◌, List, [], ◌∷◌, ◌++◌, map, ◌≡◌, ℕ, zero, suc, ◌+◌, ◌*◌, T, eqb, length, get_or, take, drop, Float}
use Rattle.std.specs.Float.{binary32}
use Rattle.std.specs.Float.Ieee.{fits, is_nan, of_bits, to_bits}
use lib.Ieee.Bits.{of_bits-to_bits}
use Rattle.ground.specs.Frames.{tab}
use Rattle.ground.specs.Part.{put}
use Rattle.utils.specs.declared.filter.Svf.{Svf}
use Rattle.utils.specs.declared.filter.DcBlocker.{DcBlocker}
use Rattle.waveguide.specs.declared.string.String.{String}
use Rattle.string_voice.specs.declared.string_voice.StringVoice.{StringVoice}
use Rattle.modes.specs.declared.resonator.ResonatorSvf.{ResonatorSvf}
use Rattle.modes.specs.declared.resonator.Batch.{Batch}
use Rattle.modal_voice.specs.declared.modal_voice.ModalVoice.{ModalVoice}
use Rattle.slots.specs.declared.slots.Slot.{Slot}
use Rattle.slots.specs.declared.slots.Bank.{Bank}
use Rattle.ground.specs.Each.{Each}
use Rattle.slot_bytes.specs.Words.{words_in, bytes, each}

-- ---- read: a thing whose words stand from the k-th on

abbrev pub float_in : List ℕ → ℕ → Float
float_in ws k = of_bits binary32 (get_or ws k 0)

-- n floats from the k-th word on
abbrev pub floats_in : List ℕ → ℕ → ℕ → List Float
floats_in ws k n = tab n (λ i. float_in ws (k + i))

unfoldable pub has_no_nan : List Float → Bool
has_no_nan [] = true
has_no_nan (x ∷ xs) = not (is_nan x) && has_no_nan xs

unfoldable pub svf_in : List ℕ → ℕ → Svf
svf_in ws k =
    record { g = float_in ws k; r = float_in ws (k + 1); h = float_in ws (k + 2); state_1 = float_in ws (k + 3); state_2 = float_in ws (k + 4) }

unfoldable pub dc_in : List ℕ → ℕ → DcBlocker
dc_in ws k = record { pole = float_in ws k; x = float_in ws (k + 1); y = float_in ws (k + 2) }

unfoldable pub string_in : List ℕ → String
string_in ws =
    record {
      string = get_or ws 6 0;
      stretch = get_or ws 7 0;
      iir_damping_filter = svf_in ws 8;
      dc_blocker = dc_in ws 13;
      delay = float_in ws 16;
      dispersion_noise = float_in ws 17;
      curved_bridge = float_in ws 18;
      src_phase = float_in ws 19;
      out_sample_0 = float_in ws 20;
      out_sample_1 = float_in ws 21;
      sample_rate_hz = float_in ws 22;
    }

unfoldable pub voice_in : List ℕ → StringVoice
voice_in ws = record { excitation_filter = svf_in ws 1; string = string_in ws; remaining_noise_samples = get_or ws 23 0 }

unfoldable pub mode_in : List ℕ → ℕ → ResonatorSvf
mode_in ws k = record { state_1 = float_in ws k; state_2 = float_in ws (k + 1) }

unfoldable pub batch_in : List ℕ → ℕ → Batch
batch_in ws k = record { mode_0 = mode_in ws k; mode_1 = mode_in ws (k + 2); mode_2 = mode_in ws (k + 4); mode_3 = mode_in ws (k + 6) }

unfoldable pub modal_in : List ℕ → Bool → ModalVoice
modal_in ws held =
    record {
      excitation_filter = mode_in ws 24;
      resonator = record { mode_amplitude = tab 24 (λ i. float_in ws (26 + i)); mode_filters = tab 6 (λ i. batch_in ws (50 + 8 * i)) };
      held = held;
    }

unfoldable pub slot_in : List ℕ → Bool → Slot
slot_in ws held = record { kind = get_or ws 0 0; string = voice_in ws; modal = modal_in ws held }

-- the flag is the byte behind the words
unfoldable pub decode_slot : List ℕ → Slot
decode_slot bs = slot_in (words_in bs) (eqb (get_or bs 392 0) 1)

-- ---- what is told of a thing whose floats are f32s and whose arrays have their lengths

abbrev pub F32 : Float → Type 0
F32 x = T (fits binary32 x)

-- such a float is what its bits are read as
pub float_again : (x : Float) → F32 x → of_bits binary32 (to_bits binary32 x) ≡ x
float_again x f = of_bits-to_bits binary32 x f

abbrev pub SvfF32 : Svf → Type 0
SvfF32 s = F32 s.g × F32 s.r × F32 s.h × F32 s.state_1 × F32 s.state_2

abbrev pub DcF32 : DcBlocker → Type 0
DcF32 d = F32 d.pole × F32 d.x × F32 d.y

abbrev pub StringF32 : String → Type 0
StringF32 s =
    SvfF32 s.iir_damping_filter
    × DcF32 s.dc_blocker
    × F32 s.delay
    × F32 s.dispersion_noise
    × F32 s.curved_bridge
    × F32 s.src_phase
    × F32 s.out_sample_0
    × F32 s.out_sample_1
    × F32 s.sample_rate_hz

abbrev pub VoiceF32 : StringVoice → Type 0
VoiceF32 v = SvfF32 v.excitation_filter × StringF32 v.string

abbrev pub ModeF32 : ResonatorSvf → Type 0
ModeF32 m = F32 m.state_1 × F32 m.state_2

unfoldable pub BatchF32 : Batch → Type 0
BatchF32 b = ModeF32 b.mode_0 × ModeF32 b.mode_1 × ModeF32 b.mode_2 × ModeF32 b.mode_3

-- n things, each of them so
pub record All {A : Type 0} (P : A → Type 0) (n : ℕ) (xs : List A) : Type 0 where
  pub many : length xs ≡ n
  pub all : Each P xs

abbrev pub ModalF32 : ModalVoice → Type 0
ModalF32 m = ModeF32 m.excitation_filter × All F32 24 m.resonator.mode_amplitude × All BatchF32 6 m.resonator.mode_filters

abbrev pub SlotF32 : Slot → Type 0
SlotF32 s = VoiceF32 s.string × ModalF32 s.modal

-- ---- written, in the same order

abbrev pub bits : Float → ℕ
bits x = to_bits binary32 x

unfoldable pub svf_words : Svf → List ℕ
svf_words s = bits s.g ∷ bits s.r ∷ bits s.h ∷ bits s.state_1 ∷ bits s.state_2 ∷ []

unfoldable pub dc_words : DcBlocker → List ℕ
dc_words d = bits d.pole ∷ bits d.x ∷ bits d.y ∷ []

unfoldable pub string_words : String → List ℕ
string_words s =
    s.string
    ∷ s.stretch
    ∷ svf_words s.iir_damping_filter
    ++ (dc_words s.dc_blocker
    ++ (bits s.delay
    ∷ bits s.dispersion_noise
    ∷ bits s.curved_bridge
    ∷ bits s.src_phase
    ∷ bits s.out_sample_0
    ∷ bits s.out_sample_1
    ∷ bits s.sample_rate_hz
    ∷ []))

unfoldable pub voice_words : StringVoice → List ℕ
voice_words v = svf_words v.excitation_filter ++ (string_words v.string ++ (v.remaining_noise_samples ∷ []))

unfoldable pub mode_words : ResonatorSvf → List ℕ
mode_words m = bits m.state_1 ∷ bits m.state_2 ∷ []

unfoldable pub batch_words : Batch → List ℕ
batch_words b = mode_words b.mode_0 ++ (mode_words b.mode_1 ++ (mode_words b.mode_2 ++ mode_words b.mode_3))

unfoldable pub float_words : Float → List ℕ
float_words x = bits x ∷ []

unfoldable pub modal_words : ModalVoice → List ℕ
modal_words m =
    mode_words m.excitation_filter ++ (each float_words m.resonator.mode_amplitude ++ each batch_words m.resonator.mode_filters)

unfoldable pub slot_words : Slot → List ℕ
slot_words s = s.kind ∷ voice_words s.string ++ modal_words s.modal

abbrev pub flag_of : Bool → ℕ
flag_of true = 1
flag_of false = 0

unfoldable pub encode_slot : Slot → List ℕ
encode_slot s = bytes (slot_words s) ++ (flag_of s.modal.held ∷ [])

-- ---- a bank: eight slots one after the other

-- the bytes of n slots
unfoldable pub parts : ℕ → List ℕ → List (List ℕ)
parts zero bs = []
parts (suc n) bs = take 393 bs ∷ parts n (drop 393 bs)

unfoldable pub decode_bank : List ℕ → Bank
decode_bank bs = record { slots = map decode_slot (parts 8 bs) }

unfoldable pub encode_bank : Bank → List ℕ
encode_bank b = each encode_slot b.slots

-- bytes with a slot's in their place
abbrev pub with_bytes : ℕ → List ℕ → List ℕ → List ℕ
with_bytes slot new bs = put (393 * slot) 393 new bs
