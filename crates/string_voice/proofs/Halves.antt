-- What the calls of the voice's functions ensure, put together: laws over plain values. Assumes nothing.
use mathlib.Core.Path.{◌≡◌, refl, ◌∙◌, ap}
use mathlib.Core.Bool.{Bool, true, false, ◌||◌, cond}
use mathlib.Core.List.{List}
use Prim.Native.Nat.{ℕ, ◌-◌, min}
use lib.ListN.{length}
use lib.Ieee.{Float}
use Rattle.ground.specs.Draw.{run, counted}
use Rattle.utils.specs.Filter.{svf_process_buffer}
use Rattle.utils.specs.declared.filter.Svf.{Svf}
use Rattle.ground.proofs.Draw.{run_then, counted_then, always_run, always_bind}
use Rattle.ground.proofs.Frames.{Any, always_any}
use Rattle.waveguide.specs.declared.string.StringNonLinearity.{StringNonLinearity}
use Rattle.waveguide.specs.declared.string.String.{String}
use Rattle.noise.specs.declared.excitation.Knobs.{Knobs}
use Rattle.noise.specs.declared.excitation.Counts.{Counts}
use Rattle.noise.specs.Excitation.{raised, added}
use Rattle.string_voice.specs.declared.string_voice.StringVoice.{StringVoice}
use Rattle.waveguide.specs.String.{non_linearity, process}
use Rattle.waveguide.specs.Kept.{Good}
use Rattle.string_voice.specs.StringVoice.{strike, excitation, excitation_words, excitation_counts, Excited, excite_of, amount, sound_of, render_of}
use Rattle.string_voice.proofs.Excitations.{excitation_draws}

module _ (k : Knobs) (v s : StringVoice) (temp temp2 aux : List Float) (word : ℕ) where
  pub excited : {left w : ℕ} {filter : Svf} {temp' temp2' aux' : List Float} {counts : Counts}
      → s ≡ strike k v
      → left ≡ cond k.sustain s.remaining_noise_samples (s.remaining_noise_samples - min s.remaining_noise_samples (length temp))
      → run (excitation k.sustain k s.remaining_noise_samples temp) word ≡ record { value = temp'; word = w }
      → ◌≡◌ {A = Svf × List Float} (filter, temp2') (svf_process_buffer s.excitation_filter temp' temp2)
      → aux' ≡ added temp2' aux
      → counts ≡ excitation_counts k.sustain (excitation_words k.sustain s.remaining_noise_samples (length temp))
      → run (excite_of k v temp temp2 aux) word ≡ record {
        value = record {
          voice = record { excitation_filter = filter; string = s.string; remaining_noise_samples = left };
          temp = temp';
          temp2 = temp2';
          aux = aux';
          counts = counts;
        };
        word = w;
      }
  unfolding excite_of
  excited es el et ef ea ec =
      let m = excitation k.sustain k s.remaining_noise_samples temp in
      let n = excitation_words k.sustain s.remaining_noise_samples (length temp) in
      let e = counted_then n (λ t. length t ≡ length temp) m word (excitation_draws k.sustain k s.remaining_noise_samples (length temp) temp refl) et in
      rw (← es) (run_then (counted m) _ word e ∙ rw (ec, ea, ap (λ q. q.0) ef, ap (λ q. q.1) ef, el))

module _ (k : Knobs) (v : StringVoice) (lines temp2 out : List Float) (word : ℕ) where
  pub sounded : {x b d : Float} {shape : StringNonLinearity} {string : String} {lines' out' : List Float} {w n : ℕ}
      → x ≡ amount k.structure → shape ≡ non_linearity x → b ≡ raised k.accent k.brightness → d ≡ raised k.accent k.damping
      → run (counted (process shape k.f0 b d (v.string, lines) temp2 out)) word ≡ record { value = (((string, lines'), out'), n); word = w }
      → run (sound_of k v lines temp2 out) word ≡ record {
        value = record {
          voice = record { excitation_filter = v.excitation_filter; string = string; remaining_noise_samples = v.remaining_noise_samples };
          lines = lines';
          out = out';
          counts = record { burst = 0; dust = 0; dispersion = n };
        };
        word = w;
      }
  unfolding sound_of
  sounded {x} {b} {d} {shape} ex eh eb ed es =
      rw (← ex, ← eh, ← eb, ← ed) (run_then (counted (process shape k.f0 b d (v.string, lines) temp2 out)) _ word es)

module _ (k : Knobs) (v : StringVoice) (lines temp temp2 out aux : List Float) (word : ℕ) where
  pub rendered : {e r : StringVoice} {temp' temp2' aux' lines' out' : List Float} {w w' : ℕ} {n m : Counts}
      → run (excite_of k v temp temp2 aux) word ≡ record { value = record { voice = e; temp = temp'; temp2 = temp2'; aux = aux'; counts = n }; word = w }
      → run (sound_of k e lines temp2' out) w ≡ record { value = record { voice = r; lines = lines'; out = out'; counts = m }; word = w' }
      → run (render_of k v lines temp temp2 out aux) word ≡ record {
        value = record { voice = r; lines = lines'; temp = temp'; temp2 = temp2'; out = out'; aux = aux'; counts = record n { dispersion = m.dispersion } };
        word = w';
      }
  unfolding render_of
  rendered {e} {temp2' = temp2'} {w = w} ee es =
      run_then (excite_of k v temp temp2 aux) _ word ee ∙ run_then (sound_of k e lines temp2' out) _ w es

-- ---- the first half leaves the string as it was
one_of : (b : Bool) (x y : StringVoice) (s : String) → x.string ≡ s → y.string ≡ s → (cond b x y).string ≡ s
one_of true x y s e f = e
one_of false x y s e f = f

pub struck_string : (k : Knobs) (v : StringVoice) → (strike k v).string ≡ v.string
unfolding strike
struck_string k v = one_of (k.trigger || k.sustain) _ v v.string refl refl

pub struck_good : (k : Knobs) (v s : StringVoice) (lines : List Float) → s ≡ strike k v → Good (v.string, lines) → Good (s.string, lines)
struck_good k v s lines e g = rw (e, struck_string k v) g

pub excited_string : (k : Knobs) (v : StringVoice) (temp temp2 aux : List Float) (word : ℕ) {e : Excited} {w : ℕ}
    → run (excite_of k v temp temp2 aux) word ≡ record { value = e; word = w } → e.voice.string ≡ v.string
unfolding excite_of
excited_string k v temp temp2 aux word e =
    let m = counted (excitation k.sustain k (strike k v).remaining_noise_samples temp) in
    always_run (λ e. e.voice.string ≡ v.string) (excite_of k v temp temp2 aux) word (always_bind Any _ m _ (always_any m) (λ t h. struck_string k v)) e
