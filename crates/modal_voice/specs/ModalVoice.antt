-- modal_voice.rs: excitation -> filter -> resonator. A render is its two halves in order: `excite_of`, then `sound_of`. Assumes nothing.
use Rattle.std.specs.Prelude.{Bool, true, false, ◌&&◌, ◌||◌, not, cond, List, ℕ, length, set, ltb, Float}
use Rattle.ground.specs.F32.{◌⊕◌, ◌⊖◌, ◌⊗◌, ◌⊘◌, c0·015, c0·08, c0·12, c0·499, c0·5, c0·7, c1, c1·5, c2, c3, c4, c24, c36, c60}
use Rattle.ground.specs.Draw.{Draw, ret, counted, ◌>>=◌}
use Rattle.ground.specs.Floats.{min_f}
use Rattle.utils.specs.Units.{semitones_to_ratio}
use Rattle.noise.specs.declared.excitation.Knobs.{Knobs}
use Rattle.noise.specs.declared.excitation.Counts.{Counts}
use Rattle.noise.specs.Excitation.{raised, dust_frequency, dusted, silence, added}
use Rattle.modal_voice.specs.declared.modal_voice.ModalVoice.{ModalVoice}
use Rattle.modes.specs.Resonator.{svf_new, mode_of, svf_process_low, resonator_new, resonator_init, resonator_process}

-- ---- ModalVoice::new and init

unfoldable pub voice_new : ModalVoice
voice_new = record { excitation_filter = svf_new; resonator = resonator_new; held = false }

unfoldable pub voice_init : ModalVoice → ModalVoice
voice_init v = record { excitation_filter = svf_new; resonator = resonator_init v.resonator c0·015; held = false }

-- ---- the first half of render

-- the cutoff and the resonance of the excitation filter
unfoldable pub cutoff_for : Knobs → Float
cutoff_for k =
    let brightness = raised k.accent k.brightness in
    let range = cond k.sustain c36 c60 in
    let f = cond k.sustain (c4 ⊗ k.f0) (c2 ⊗ k.f0) in
    min_f (f ⊗ semitones_to_ratio ((brightness ⊗ (c2 ⊖ brightness) ⊖ c0·5) ⊗ range)) c0·499

abbrev pub resonance_for : Knobs → Float
resonance_for k = cond k.sustain c0·7 c1·5

-- the click of a strike, of the damping that the accent has raised
unfoldable pub strike_of : Float → Float → Float → Float
strike_of accent damping cutoff =
    let attenuation = c1 ⊖ damping ⊗ c0·5 in
    let amplitude = (c0·12 ⊕ c0·08 ⊗ accent) ⊗ attenuation in
    amplitude ⊗ semitones_to_ratio (cutoff ⊗ cutoff ⊗ c24) ⊘ cutoff

-- without sustain silence, and a click in its first frame where a trigger or a held strike sounds
unfoldable pub clicked : Knobs → Bool → Float → List Float → List Float
clicked k held cutoff temp =
    cond (k.trigger || held) (set (silence temp) 0 (strike_of k.accent (raised k.accent k.damping) cutoff)) (silence temp)

-- with sustain dust, of the brightness before it is raised
unfoldable pub excitation : Bool → Knobs → Bool → Float → List Float → Draw (List Float)
excitation true k held cutoff temp = let f = dust_frequency k.brightness in dusted f (c4 ⊖ f ⊗ c3) k.accent temp
excitation false k held cutoff temp = ret (clicked k held cutoff temp)

-- a block of n frames clears a held strike; on an empty block it stays, and a trigger without sustain is held (01 'Modal')
unfoldable pub held_after : Knobs → Bool → ℕ → Bool
held_after k held n = cond (ltb 0 n) false (held || (k.trigger && not k.sustain))

-- what the first half leaves
pub record Excited : Type 0 where
  pub voice : ModalVoice
  pub temp : List Float
  pub temp2 : List Float
  pub aux : List Float
  pub counts : Counts

-- the words of an excitation, all of them the dust's
abbrev pub excitation_words : Bool → ℕ → ℕ
excitation_words sustain n = cond sustain n 0

abbrev pub excitation_counts : ℕ → Counts
excitation_counts drawn = record { burst = 0; dust = drawn; dispersion = 0 }

unfoldable pub excite_of : Knobs → ModalVoice → List Float → List Float → List Float → Draw Excited
excite_of k v temp temp2 aux =
    let cutoff = cutoff_for k in
    counted (excitation k.sustain k v.held cutoff temp) >>= λ t.
    let f = svf_process_low (mode_of cutoff (resonance_for k) c1) v.excitation_filter t.0 temp2 in
    ret record {
      voice = record { excitation_filter = f.0; resonator = v.resonator; held = held_after k v.held (length temp) };
      temp = t.0;
      temp2 = f.1;
      aux = added f.1 aux;
      counts = excitation_counts t.1;
    }

-- ---- the second half

-- what the second half leaves; it draws no word
pub record Sounded : Type 0 where
  pub voice : ModalVoice
  pub out : List Float

unfoldable pub sound_of : Knobs → ModalVoice → List Float → List Float → Draw Sounded
sound_of k v temp2 out =
    let r = resonator_process v.resonator k.f0 k.structure (raised k.accent k.brightness) (raised k.accent k.damping) temp2 out in
    ret record { voice = record { excitation_filter = v.excitation_filter; resonator = r.0; held = v.held }; out = r.1 }

-- ---- ModalVoice::render: what it leaves, the voice and each buffer, and the words that it drew
pub record After : Type 0 where
  pub voice : ModalVoice
  pub temp : List Float
  pub temp2 : List Float
  pub out : List Float
  pub aux : List Float
  pub counts : Counts

unfoldable pub render_of : Knobs → ModalVoice → List Float → List Float → List Float → List Float → Draw After
render_of k v temp temp2 out aux =
    excite_of k v temp temp2 aux >>= λ e.
    sound_of k e.voice e.temp2 out >>= λ s.
    ret record { voice = s.voice; temp = e.temp; temp2 = e.temp2; out = s.out; aux = e.aux; counts = e.counts }
