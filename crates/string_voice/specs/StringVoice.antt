-- string_voice.rs: excitation -> filter -> string. A render is its two halves in order: `excite_of`, then `sound_of`. Assumes nothing.
use Rattle.std.specs.Prelude.{Bool, true, false, ◌||◌, cond, List, ℕ, ◌-◌, min, length, take, Float}
use Rattle.std.specs.Float.Ieee.{lt}
use Rattle.ground.specs.F32.{◌⊖◌, ◌⊗◌, ◌⊘◌, c0, c0·24, c0·26, c0·499, c0·5, c1, c1·35135, c2, c4, c4·166, c6, c8, c72}
use Rattle.ground.specs.Draw.{Draw, ret, ask, counted, ◌>>=◌}
use Rattle.ground.specs.Floats.{whole_part, min_f}
use Rattle.ground.specs.Random.{noise_of}
use Rattle.utils.specs.Units.{semitones_to_ratio}
use Rattle.utils.specs.Filter.{svf_new, svf_init, svf_set_f_q, svf_process_buffer}
use Rattle.utils.specs.declared.filter.FrequencyApproximation.TheVariants.{Dirty}
use Rattle.noise.specs.declared.excitation.Knobs.{Knobs}
use Rattle.noise.specs.declared.excitation.Counts.{Counts}
use Rattle.noise.specs.Excitation.{raised, dust_frequency, dusted, filled, silence, added}
use Rattle.string_voice.specs.declared.string_voice.StringVoice.{StringVoice}
use Rattle.waveguide.specs.String.{string_new, string_reset, string_init, non_linearity, process}

-- ---- StringVoice::new, init and reset: the voice, and its lines

unfoldable pub voice_new : StringVoice
voice_new = record { excitation_filter = svf_new; string = string_new; remaining_noise_samples = 0 }

unfoldable pub voice_init : StringVoice → Float → List Float → StringVoice × List Float
voice_init v rate lines =
    let s = string_init v.string rate lines in
    (record { excitation_filter = svf_init v.excitation_filter; string = s.0; remaining_noise_samples = 0 }, s.1)

-- reset leaves the excitation filter and what is left of the noise
unfoldable pub voice_reset : StringVoice → List Float → StringVoice × List Float
voice_reset v lines =
    let s = string_reset v.string lines in
    (record v { string = s.0 }, s.1)

-- ---- the first half of render

-- the semitones of the excitation's cutoff, and the cutoff
unfoldable pub exciter_semitones : Float → Float
exciter_semitones brightness = (brightness ⊗ (c2 ⊖ brightness) ⊖ c0·5) ⊗ c72

unfoldable pub cutoff_for : Knobs → Float
cutoff_for k = min_f (c4 ⊗ k.f0 ⊗ semitones_to_ratio (exciter_semitones (raised k.accent k.brightness))) c0·499

-- with trigger or sustain the noise begins anew and the filter is set
unfoldable pub strike : Knobs → StringVoice → StringVoice
strike k v =
    cond (k.trigger || k.sustain)
    (record v {
      excitation_filter = svf_set_f_q v.excitation_filter (cutoff_for k) (cond k.sustain c1 c0·5) Dirty;
      remaining_noise_samples = whole_part (c1 ⊘ k.f0);
    })
    v

-- a sample of noise
abbrev pub drawn_noise : Draw Float
drawn_noise = ask (λ w. ret (noise_of w))

-- without sustain silence, and noise in its first m frames
unfoldable pub burst : ℕ → List Float → Draw (List Float)
burst m temp = filled drawn_noise (take m temp) (silence temp)

-- with sustain dust, else what is left of the noise as far as the block has frames
unfoldable pub excitation : Bool → Knobs → ℕ → List Float → Draw (List Float)
excitation true k left temp = let f = dust_frequency k.brightness in dusted f (c8 ⊖ f ⊗ c6) k.accent temp
excitation false k left temp = burst (min left (length temp)) temp

-- what the first half leaves
pub record Excited : Type 0 where
  pub voice : StringVoice
  pub temp : List Float
  pub temp2 : List Float
  pub aux : List Float
  pub counts : Counts

-- the words of an excitation, by what they are drawn
abbrev pub excitation_words : Bool → ℕ → ℕ → ℕ
excitation_words sustain left n = cond sustain n (min left n)

abbrev pub excitation_counts : Bool → ℕ → Counts
excitation_counts sustain drawn = record { burst = cond sustain 0 drawn; dust = cond sustain drawn 0; dispersion = 0 }

unfoldable pub excite_of : Knobs → StringVoice → List Float → List Float → List Float → Draw Excited
excite_of k v temp temp2 aux =
    let s = strike k v in
    let left = s.remaining_noise_samples in
    counted (excitation k.sustain k left temp) >>= λ t.
    let f = svf_process_buffer s.excitation_filter t.0 temp2 in
    ret record {
      voice = record s { excitation_filter = f.0; remaining_noise_samples = cond k.sustain left (left - min left (length temp)) };
      temp = t.0;
      temp2 = f.1;
      aux = added f.1 aux;
      counts = excitation_counts k.sustain t.1;
    }

-- ---- the second half

-- the amount of the non-linearity: below 0.24 negative, above 0.26 positive, between them 0
unfoldable pub amount : Float → Float
amount structure = cond (lt structure c0·24) ((structure ⊖ c0·24) ⊗ c4·166) (cond (lt c0·26 structure) ((structure ⊖ c0·26) ⊗ c1·35135) c0)

-- what the second half leaves
pub record Sounded : Type 0 where
  pub voice : StringVoice
  pub lines : List Float
  pub out : List Float
  pub counts : Counts

unfoldable pub sound_of : Knobs → StringVoice → List Float → List Float → List Float → Draw Sounded
sound_of k v lines temp2 out =
    counted (process (non_linearity (amount k.structure)) k.f0 (raised k.accent k.brightness) (raised k.accent k.damping) (v.string, lines) temp2 out) >>= λ s.
    ret record {
      voice = record v { string = s.0.0.0 };
      lines = s.0.0.1;
      out = s.0.1;
      counts = record { burst = 0; dust = 0; dispersion = s.1 };
    }

-- ---- StringVoice::render: what it leaves, the voice, its lines and each buffer, and the words that it drew
pub record After : Type 0 where
  pub voice : StringVoice
  pub lines : List Float
  pub temp : List Float
  pub temp2 : List Float
  pub out : List Float
  pub aux : List Float
  pub counts : Counts

unfoldable pub render_of : Knobs → StringVoice → List Float → List Float → List Float → List Float → List Float → Draw After
render_of k v lines temp temp2 out aux =
    excite_of k v temp temp2 aux >>= λ e.
    sound_of k e.voice lines e.temp2 out >>= λ s.
    let counts = record e.counts { dispersion = s.counts.dispersion } in
    ret record { voice = s.voice; lines = s.lines; temp = e.temp; temp2 = e.temp2; out = s.out; aux = e.aux; counts = counts }
