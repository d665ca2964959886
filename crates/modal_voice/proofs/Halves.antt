-- What the calls of the voice's functions ensure, put together: laws over plain values. Assumes nothing.
use mathlib.Core.Path.{◌≡◌, refl, sym, ◌∙◌, ap}
use mathlib.Core.Bool.{Bool, true, false, ◌||◌}
use mathlib.Core.List.{List, [], ◌∷◌}
use Prim.Native.Nat.{ℕ}
use native.Mathlib.Omega.{arith}
use lib.ListN.{length, set}
use lib.Ieee.{Float}
use Rattle.ground.specs.Draw.{Draw, ret, run, counted}
use Rattle.ground.proofs.Draw.{run_then, counted_then}
use Rattle.noise.specs.declared.excitation.Knobs.{Knobs}
use Rattle.noise.specs.declared.excitation.Counts.{Counts}
use Rattle.noise.specs.Excitation.{raised, silence, added}
use Rattle.modes.specs.declared.resonator.ResonatorSvf.{ResonatorSvf}
use Rattle.modes.specs.declared.resonator.Batch.{Batch}
use Rattle.modes.specs.declared.resonator.Modes.{Modes}
use Rattle.modes.specs.declared.resonator.Resonator.{Resonator}
use Rattle.modes.specs.OnePass.{modes_for, one_pass}
use Rattle.modes.proofs.OnePass.{processed}
use Rattle.modal_voice.specs.declared.modal_voice.ModalVoice.{ModalVoice}
use Rattle.modal_voice.specs.declared.modal_voice.LowPass.{LowPass}
use Rattle.modal_voice.specs.OneLoop.{low_pass_for}
use Rattle.modes.specs.Resonator.{svf_process_low, resonator_process}
use Rattle.modal_voice.specs.ModalVoice.{cutoff_for, strike_of, clicked, excitation, held_after, excitation_words, excitation_counts, excite_of, Sounded}
use Rattle.modal_voice.specs.ModalVoice.{sound_of, render_of}
use Rattle.modal_voice.proofs.Excitations.{excitation_draws}

-- ---- the click
module _ (k : Knobs) (held : Bool) (cutoff : Float) (temp : List Float) {quiet : List Float} (e : quiet ≡ silence temp) where
  pub no_strike : (k.trigger || held) ≡ false → quiet ≡ clicked k held cutoff temp
  unfolding clicked
  no_strike h = rw h e

  pub no_frames : (k.trigger || held) ≡ true → length temp ≡ 0 → quiet ≡ clicked k held cutoff temp
  unfolding clicked
  no_frames h z = rw h (e ∙ empty temp z)
    where
      empty : (ys : List Float) → length ys ≡ 0 → silence ys ≡ set (silence ys) 0 (strike_of k.accent (raised k.accent k.damping) cutoff)
      empty [] z = refl
      empty (y ∷ ys) z = absurd (omega arith)

  pub struck : {d s : Float} → (k.trigger || held) ≡ true → d ≡ raised k.accent k.damping → s ≡ strike_of k.accent d cutoff
      → set quiet 0 s ≡ clicked k held cutoff temp
  unfolding clicked
  struck h ed es = rw (h, e, es, ed)

-- ---- the halves
module _ (k : Knobs) (v : ModalVoice) (temp temp2 aux : List Float) (word : ℕ) where
  pub excited : {cutoff : Float} {f : LowPass 0} {held : Bool} {w : ℕ} {filter : ResonatorSvf} {temp' temp2' aux' : List Float} {counts : Counts}
      → cutoff ≡ cutoff_for k → f ≡ low_pass_for k cutoff v → held ≡ held_after k v.held (length temp)
      → run (excitation k.sustain k v.held cutoff temp) word ≡ record { value = temp'; word = w }
      → ◌≡◌ {A = ResonatorSvf × List Float} (filter, temp2') (svf_process_low f.mode f.svf temp' temp2)
      → aux' ≡ added temp2' aux
      → counts ≡ excitation_counts (excitation_words k.sustain (length temp))
      → run (excite_of k v temp temp2 aux) word ≡ record {
        value = record {
          voice = record { excitation_filter = filter; resonator = v.resonator; held = held };
          temp = temp';
          temp2 = temp2';
          aux = aux';
          counts = counts;
        };
        word = w;
      }
  unfolding excite_of
  excited {cutoff} {temp' = temp'} ec ef eh et el ea en =
      let m = excitation k.sustain k v.held cutoff temp in
      let n = excitation_words k.sustain (length temp) in
      let e = counted_then n (λ t. length t ≡ length temp) m word (excitation_draws k.sustain k v.held cutoff (length temp) temp refl) et in
      let q = el ∙ ap (λ (f : LowPass 0). svf_process_low f.mode f.svf temp' temp2) ef in
      rw (← ec) (run_then (counted m) _ word e ∙ rw (en, ea, ap (λ q. q.0) q, ap (λ q. q.1) q, eh))

module _ (k : Knobs) (v : ModalVoice) (temp2 out : List Float) where
  pub sounded : {b d : Float} {r : Resonator} {out' : List Float}
      → b ≡ raised k.accent k.brightness → d ≡ raised k.accent k.damping
      → ◌≡◌ {A = Resonator × List Float} (r, out') (resonator_process v.resonator k.f0 k.structure b d temp2 out)
      → sound_of k v temp2 out ≡ ret record { voice = record { excitation_filter = v.excitation_filter; resonator = r; held = v.held }; out = out' }
  unfolding sound_of
  sounded eb ed e =
      rw (← eb, ← ed)
      (ap (λ (u : Resonator × List Float). ret record
      { voice = record { excitation_filter = v.excitation_filter; resonator = u.0; held = v.held }; out = u.1 }) (sym e))

module _ (k : Knobs) (v : ModalVoice) (temp temp2 out aux : List Float) (word : ℕ) where
  pub rendered : {e r : ModalVoice} {temp' temp2' aux' out' : List Float} {w : ℕ} {n : Counts}
      → run (excite_of k v temp temp2 aux) word ≡ record { value = record { voice = e; temp = temp'; temp2 = temp2'; aux = aux'; counts = n }; word = w }
      → sound_of k e temp2' out ≡ ret record { voice = r; out = out' }
      → run (render_of k v temp temp2 out aux) word ≡ record {
        value = record { voice = r; temp = temp'; temp2 = temp2'; out = out'; aux = aux'; counts = n };
        word = w;
      }
  unfolding render_of
  rendered {e} {temp2' = temp2'} {w = w} ee es =
      run_then (excite_of k v temp temp2 aux) _ word ee ∙ run_then (sound_of k e temp2' out) _ w (ap (λ (m : Draw Sounded). run m w) es)

  -- the two halves, where their loops were one
  pub together : {cutoff b d : Float} {f : LowPass 0} {held : Bool} {w : ℕ} {modes : Modes} {filter : ResonatorSvf} {gs : List Batch}
      {temp' temp2' aux' out' : List Float} {counts : Counts}
      → length v.resonator.mode_filters ≡ 6
      → cutoff ≡ cutoff_for k → f ≡ low_pass_for k cutoff v → held ≡ held_after k v.held (length temp)
      → run (excitation k.sustain k v.held cutoff temp) word ≡ record { value = temp'; word = w }
      → b ≡ raised k.accent k.brightness → d ≡ raised k.accent k.damping
      → modes ≡ modes_for v.resonator.mode_amplitude k.f0 k.structure b d
      → ◌≡◌ {A = ResonatorSvf × List Float} (filter, temp2') (svf_process_low f.mode f.svf temp' temp2)
      → aux' ≡ added temp2' aux
      → ◌≡◌ {A = List Batch × List Float} (gs, out') (one_pass modes v.resonator.mode_filters temp2' out)
      → counts ≡ excitation_counts (excitation_words k.sustain (length temp))
      → run (render_of k v temp temp2 out aux) word ≡ record {
        value = record {
          voice = record {
            excitation_filter = filter;
            resonator = record { mode_amplitude = v.resonator.mode_amplitude; mode_filters = gs };
            held = held;
          };
          temp = temp';
          temp2 = temp2';
          out = out';
          aux = aux';
          counts = counts;
        };
        word = w;
      }
  together {b = b} {d = d} {held = held} {filter = filter} {temp' = temp'} {temp2' = temp2'} h ec ef eh et eb ed es el ea ep en =
      let e : ModalVoice = record { excitation_filter = filter; resonator = v.resonator; held = held } in
      rendered (excited k v temp temp2 aux word ec ef eh et el ea en)
      (sounded k e temp2' out eb ed (processed v.resonator k.f0 k.structure b d temp2' out h es ep))
