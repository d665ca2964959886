-- How many words a render draws, by what, and what it leaves: what a whole list of calls needs of the voice. The sound does not enter. Assumes nothing.
use mathlib.Core.Path.{◌≡◌, refl, ◌∙◌, ap}
use mathlib.Core.List.{List}
use Prim.Native.Nat.{ℕ}
use lib.ListN.{length}
use lib.Ieee.{Float}
use Rattle.ground.specs.F32.{c1}
use Rattle.ground.specs.Draw.{counted}
use Rattle.ground.proofs.Draw.{Draws, draws_then, counted_draws}
use Rattle.ground.proofs.Frames.{scan_keeps, length_scan}
use Rattle.noise.specs.declared.excitation.Knobs.{Knobs}
use Rattle.noise.specs.Excitation.{raised, add_step}
use Rattle.modes.specs.declared.resonator.Batch.{Batch}
use Rattle.modes.specs.declared.resonator.Partial.{Partial}
use Rattle.modes.specs.declared.resonator.Resonator.{Resonator}
use Rattle.modal_voice.specs.declared.modal_voice.ModalVoice.{ModalVoice}
use Rattle.modes.specs.Resonator.{mode_of, low_step, svf_process_low, band_step, modes_from, batch_step, in_batches, batches, resonator_process}
use Rattle.modal_voice.specs.ModalVoice.{cutoff_for, resonance_for, excitation, held_after, excitation_words, excitation_counts, Excited, excite_of, sound_of}
use Rattle.modal_voice.specs.ModalVoice.{After, render_of}
use Rattle.modal_voice.proofs.Excitations.{excitation_draws}

-- ---- the first half

pub record FirstHalf (k : Knobs) (v : ModalVoice) (n : ℕ) (x : Excited) : Type 0 where
  pub held : x.voice.held ≡ held_after k v.held n
  pub temp : length x.temp ≡ n
  pub temp2 : length x.temp2 ≡ n
  pub aux : length x.aux ≡ n
  pub counts : x.counts ≡ excitation_counts (excitation_words k.sustain n)

pub excite_draws : (k : Knobs) (v : ModalVoice) (n : ℕ) (temp temp2 aux : List Float) → length temp ≡ n → length temp2 ≡ n → length aux ≡ n
    → Draws (excitation_words k.sustain n) (FirstHalf k v n) (excite_of k v temp temp2 aux)
unfolding excite_of svf_process_low
excite_draws k v n temp temp2 aux lt l2 la =
    let m = excitation_words k.sustain n in
    let x = excitation k.sustain k v.held (cutoff_for k) temp in
    draws_then m (λ t. (length t.0 ≡ n) × (t.1 ≡ m)) (FirstHalf k v n) (counted x) _
    (counted_draws m (λ t. length t ≡ n) x (excitation_draws k.sustain k v.held (cutoff_for k) n temp lt))
    (λ t h. record {
      held = ap (λ (j : ℕ). held_after k v.held j) lt;
      temp = h.0;
      temp2 = length_scan (low_step (mode_of (cutoff_for k) (resonance_for k) c1)) v.excitation_filter t.0 temp2 ∙ l2;
      aux = length_scan add_step tt _ aux ∙ la;
      counts = ap excitation_counts h.1;
    })

-- ---- the second half, and both

-- the batches leave the output's length
batch_length : (f0 loss : Float) (xs : List Float) (n : ℕ) (s : Partial × List Float) (amps : List Float) (b : Batch) → length s.1 ≡ n
    → length (batch_step f0 loss xs s amps b).0.1 ≡ n
unfolding batch_step
batch_length f0 loss xs n s amps b e = length_scan (band_step (modes_from f0 loss s.0 amps).1) b xs s.1 ∙ e

batches_length : (f0 loss : Float) (p : Partial) (amps : List Float) (fs : List Batch) (xs ys : List Float)
    → length (batches f0 loss p amps fs xs ys).1 ≡ length ys
unfolding batches
batches_length f0 loss p amps fs xs ys =
    (scan_keeps (batch_step f0 loss xs) (λ s. length s.1 ≡ length ys) (batch_length f0 loss xs (length ys)) (p, ys) (in_batches amps) fs refl).0

process_length : (r : Resonator) (f0 structure brightness damping : Float) (xs ys : List Float)
    → length (resonator_process r f0 structure brightness damping xs ys).1 ≡ length ys
unfolding resonator_process
process_length r f0 structure brightness damping xs ys = batches_length _ _ _ r.mode_amplitude r.mode_filters xs ys

-- what a render of n frames leaves: whether a strike is held, every length, and the words that it drew
pub record Left (k : Knobs) (v : ModalVoice) (n : ℕ) (a : After) : Type 0 where
  pub held : a.voice.held ≡ held_after k v.held n
  pub temp : length a.temp ≡ n
  pub temp2 : length a.temp2 ≡ n
  pub out : length a.out ≡ n
  pub aux : length a.aux ≡ n
  pub counts : a.counts ≡ excitation_counts (excitation_words k.sustain n)

pub render_draws : (k : Knobs) (v : ModalVoice) (n : ℕ) (temp temp2 out aux : List Float) → length temp ≡ n → length temp2 ≡ n → length out ≡ n → length aux ≡ n
    → Draws (excitation_words k.sustain n) (Left k v n) (render_of k v temp temp2 out aux)
unfolding render_of sound_of
render_draws k v n temp temp2 out aux lt l2 lo la =
    draws_then (excitation_words k.sustain n) (FirstHalf k v n) (Left k v n) (excite_of k v temp temp2 aux) _ (excite_draws k v n temp temp2 aux lt l2 la)
    (λ e h. record {
      held = h.held;
      temp = h.temp;
      temp2 = h.temp2;
      out = process_length e.voice.resonator k.f0 k.structure (raised k.accent k.brightness) (raised k.accent k.damping) e.temp2 out ∙ lo;
      aux = h.aux;
      counts = h.counts;
    })
