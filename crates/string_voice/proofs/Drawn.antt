-- How many words a render draws, by what, and what it leaves: what a whole list of calls needs of the voice. The sound does not enter. Assumes nothing.
use mathlib.Core.Path.{◌≡◌, refl, ◌∙◌, ap, subst, subst⁻¹}
use mathlib.Core.Bool.{Bool, true, false, ◌||◌, cond}
use mathlib.Core.List.{List}
use Prim.Native.Nat.{ℕ, ◌+◌, ◌-◌, ◌≤◌, min}
use native.Mathlib.Nat.{le_trans, sub-le}
use native.Mathlib.Omega.{arith}
use lib.ListN.{length}
use lib.Ieee.{Float}
use Rattle.ground.specs.F32.{◌⊘◌, c0·5, c1}
use Rattle.ground.specs.Floats.{whole_part}
use Rattle.utils.specs.Filter.{svf_step, svf_set_f_q}
use Rattle.utils.specs.declared.filter.FrequencyApproximation.TheVariants.{Dirty}
use Rattle.ground.specs.Draw.{ret, counted, ◌>>=◌}
use Rattle.ground.proofs.Draw.{Draws, draws_bind, draws_then, counted_draws}
use Rattle.ground.proofs.Frames.{after, drawn, length_scan}
use Rattle.noise.specs.declared.excitation.Counts.{Counts}
use Rattle.noise.specs.Excitation.{raised, add_step}
use Rattle.noise.proofs.Ranges.{Fundamental}
use Rattle.waveguide.specs.declared.string.StringNonLinearity.{StringNonLinearity}
use Rattle.waveguide.specs.declared.string.String.{String}
use Rattle.noise.specs.declared.excitation.Knobs.{Knobs}
use Rattle.string_voice.specs.declared.string_voice.StringVoice.{StringVoice}
use Rattle.waveguide.specs.String.{ratio_of, snap, non_linearity, process}
use Rattle.waveguide.specs.Kept.{Good, words_at}
use Rattle.string_voice.specs.StringVoice.{cutoff_for, strike, excitation, excitation_words, Excited, excite_of, amount, Sounded, sound_of, After, render_of}
use Rattle.waveguide.proofs.Steps.{wrap, At}
use Rattle.waveguide.proofs.Blocks.{ratio_for, strung_draws}
use Rattle.string_voice.proofs.Excitations.{excitation_draws}
use Rattle.string_voice.proofs.Halves.{struck_string}
use Rattle.string_voice.proofs.Ranges.{left_in}

-- ---- the first half

-- the words of the burst, and those of the dust
abbrev pub burst_words : Bool → ℕ → ℕ → ℕ
burst_words sustain left n = cond sustain 0 (min left n)

abbrev pub dust_words : Bool → ℕ → ℕ
dust_words sustain n = cond sustain n 0

-- what is left of the noise when a block begins, and behind n frames of it
abbrev pub left_at : Knobs → StringVoice → ℕ
left_at k v = (strike k v).remaining_noise_samples

abbrev pub left_after : Knobs → StringVoice → ℕ → ℕ
left_after k v n = cond k.sustain (left_at k v) (left_at k v - min (left_at k v) n)

pub record FirstHalf (k : Knobs) (v : StringVoice) (n : ℕ) (x : Excited) : Type 0 where
  pub left : x.voice.remaining_noise_samples ≡ left_after k v n
  pub string : x.voice.string ≡ v.string
  pub temp : length x.temp ≡ n
  pub temp2 : length x.temp2 ≡ n
  pub aux : length x.aux ≡ n
  pub burst : x.counts.burst ≡ burst_words k.sustain (left_at k v) n
  pub dust : x.counts.dust ≡ dust_words k.sustain n

by_burst : (b : Bool) (l n drawn : ℕ) → drawn ≡ excitation_words b l n → cond b 0 drawn ≡ burst_words b l n
by_burst true l n drawn e = refl
by_burst false l n drawn e = e

by_dust : (b : Bool) (l n drawn : ℕ) → drawn ≡ excitation_words b l n → cond b drawn 0 ≡ dust_words b n
by_dust true l n drawn e = e
by_dust false l n drawn e = refl

pub excite_draws : (k : Knobs) (v : StringVoice) (n : ℕ) (temp temp2 aux : List Float) → length temp ≡ n → length temp2 ≡ n → length aux ≡ n
    → Draws (excitation_words k.sustain (left_at k v) n) (FirstHalf k v n) (excite_of k v temp temp2 aux)
unfolding excite_of
excite_draws k v n temp temp2 aux lt l2 la =
    let s = strike k v in
    let m = excitation_words k.sustain (left_at k v) n in
    draws_then m (λ t. (length t.0 ≡ n) × (t.1 ≡ m)) (FirstHalf k v n)
    (counted (excitation k.sustain k (left_at k v) temp)) _
    (counted_draws m (λ t. length t ≡ n) (excitation k.sustain k (left_at k v) temp) (excitation_draws k.sustain k (left_at k v) n temp lt))
    (λ t h. record {
      left = ap (λ (m : ℕ). cond k.sustain (left_at k v) (left_at k v - min (left_at k v) m)) lt;
      string = struck_string k v;
      temp = h.0;
      temp2 = length_scan svf_step s.excitation_filter t.0 temp2 ∙ l2;
      aux = length_scan add_step tt _ aux ∙ la;
      burst = by_burst k.sustain (left_at k v) n t.1 h.1;
      dust = by_dust k.sustain (left_at k v) n t.1 h.1;
    })

-- ---- the second half, and both

abbrev pub shape_of : Knobs → StringNonLinearity
shape_of k = non_linearity (amount k.structure)

-- the phase where a block begins, and the words of its string steps
abbrev pub phase_at : Knobs → String → Float
phase_at k s = snap (ratio_of k.f0) s.src_phase

abbrev pub dispersion_words : Knobs → String → ℕ → ℕ
dispersion_words k s n = drawn (wrap (ratio_for k.f0)) (words_at (shape_of k) (ratio_for k.f0)) n (phase_at k s)

abbrev pub phase_after : Knobs → String → ℕ → Float
phase_after k s n = after (wrap (ratio_for k.f0)) n (phase_at k s)

pub record SecondHalf (k : Knobs) (v : StringVoice) (n : ℕ) (x : Sounded) : Type 0 where
  pub left : x.voice.remaining_noise_samples ≡ v.remaining_noise_samples
  pub string : At (phase_after k v.string n) (x.voice.string, x.lines)
  pub out : length x.out ≡ n
  pub dispersion : x.counts.dispersion ≡ dispersion_words k v.string n

pub sound_draws : (k : Knobs) (v : StringVoice) (n : ℕ) (lines temp2 out : List Float) → Good (v.string, lines) → length temp2 ≡ n → length out ≡ n
    → Draws (dispersion_words k v.string n) (SecondHalf k v n) (sound_of k v lines temp2 out)
unfolding sound_of
sound_draws k v n lines temp2 out g l2 lo =
    let m = dispersion_words k v.string n in
    let s = process (shape_of k) k.f0 (raised k.accent k.brightness) (raised k.accent k.damping) (v.string, lines) temp2 out in
    let P : (String × List Float) × List Float → Type 0 = λ q. At (phase_after k v.string n) q.0 × (length q.1 ≡ length out) in
    draws_then m (λ q. P q.0 × (q.1 ≡ m)) (SecondHalf k v n) (counted s) _
    (counted_draws m P s (strung_draws (shape_of k) k.f0 (raised k.accent k.brightness) (raised k.accent k.damping) n (v.string, lines) temp2 out (omega arith)
    g))
    (λ q r. record { left = refl; string = r.0.0; out = r.0.1 ∙ lo; dispersion = r.1 })

-- the words of a render of n frames
abbrev pub counts_of : Knobs → StringVoice → ℕ → Counts
counts_of k v n =
    record {
      burst = burst_words k.sustain (left_at k v) n;
      dust = dust_words k.sustain n;
      dispersion = dispersion_words k v.string n;
    }

-- what a render of n frames leaves: what is left of the noise, the phase, every length, and the words that it drew
pub record Left (k : Knobs) (v : StringVoice) (n : ℕ) (a : After) : Type 0 where
  pub left : a.voice.remaining_noise_samples ≡ left_after k v n
  pub string : At (phase_after k v.string n) (a.voice.string, a.lines)
  pub temp : length a.temp ≡ n
  pub temp2 : length a.temp2 ≡ n
  pub out : length a.out ≡ n
  pub aux : length a.aux ≡ n
  pub counts : a.counts ≡ counts_of k v n

-- burst or dust words first, dispersion words behind them
pub render_draws : (k : Knobs) (v : StringVoice) (n : ℕ) (lines temp temp2 out aux : List Float)
    → Good (v.string, lines) → length temp ≡ n → length temp2 ≡ n → length out ≡ n → length aux ≡ n
    → Draws (excitation_words k.sustain (left_at k v) n + dispersion_words k v.string n) (Left k v n) (render_of k v lines temp temp2 out aux)
unfolding render_of
render_draws k v n lines temp temp2 out aux g lt l2 lo la =
    draws_bind (excitation_words k.sustain (left_at k v) n) (dispersion_words k v.string n) (FirstHalf k v n) (Left k v n)
    (excite_of k v temp temp2 aux) _ (excite_draws k v n temp temp2 aux lt l2 la)
    (λ e h.
    let m = sound_of k e.voice lines e.temp2 out in
    subst
    (λ (t : String). Draws (dispersion_words k t n) (Left k v n) (m >>= λ s. ret record {
      voice = s.voice;
      lines = s.lines;
      temp = e.temp;
      temp2 = e.temp2;
      out = s.out;
      aux = e.aux;
      counts = record e.counts
          { dispersion = s.counts.dispersion };
    }))
    h.string
    (draws_then (dispersion_words k e.voice.string n) (SecondHalf k e.voice n) (Left k v n) m _
    (sound_draws k e.voice n lines e.temp2 out (subst⁻¹ (λ (t : String). Good (t, lines)) h.string g) h.temp2 lo)
    (λ s r. record {
      left = r.left ∙ h.left;
      string = subst (λ (t : String). At (phase_after k t n) (s.voice.string, s.lines)) h.string r.string;
      temp = h.temp;
      temp2 = h.temp2;
      out = r.out;
      aux = h.aux;
      counts = λ i. record {
        burst = h.burst i;
        dust = h.dust i;
        dispersion = (r.dispersion ∙ ap (λ (t : String). dispersion_words k t n) h.string) i;
      };
    })))

-- ---- left stays at most 1,048,576 for an f0 of 2^-20 or more
begun_at_most : (k : Knobs) (v : StringVoice) → Fundamental k.f0 → v.remaining_noise_samples ≤ 1048576 → left_at k v ≤ 1048576
unfolding strike
begun_at_most k v f h = go (k.trigger || k.sustain)
  where
    go : (b : Bool) → (cond b (record {
      excitation_filter = svf_set_f_q v.excitation_filter (cutoff_for k) (cond k.sustain c1 c0·5) Dirty;
      string = v.string;
      remaining_noise_samples = whole_part (c1 ⊘ k.f0);
    }) v).remaining_noise_samples ≤ 1048576
    go true = left_in k.f0 f
    go false = h

rest_at_most : (b : Bool) (l n : ℕ) → l ≤ 1048576 → cond b l (l - min l n) ≤ 1048576
rest_at_most true l n e = e
rest_at_most false l n e = le_trans (sub-le l (min l n)) e

pub left_at_most : (k : Knobs) (v : StringVoice) (n : ℕ) → Fundamental k.f0 → v.remaining_noise_samples ≤ 1048576 → left_after k v n ≤ 1048576
left_at_most k v n f h = rest_at_most k.sustain (left_at k v) n (begun_at_most k v f h)
