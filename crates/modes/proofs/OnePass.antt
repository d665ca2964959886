-- The one_pass_lem form is the batches one after the other, and what the calls of `process` ensure, put together. Assumes nothing.
use mathlib.Core.Path.{◌≡◌, refl, sym, ◌∙◌, ap, subst}
use mathlib.Core.List.{List, map}
use Prim.Native.Nat.{ℕ, zero, suc, ◌+◌, ◌*◌}
use lib.ListN.{get_or, length, length-map, replicate}
use lib.Ieee.{Float, nan}
use Rattle.ground.specs.F32.{◌⊗◌, c0, c79·7}
use Rattle.ground.specs.Frames.{scan, over, tab}
use Rattle.utils.specs.Utils.{interpolate}
use Rattle.utils.specs.Units.{semitones_to_ratio}
use Rattle.ground.proofs.Frames.{scan_alike}
use Rattle.ground.proofs.Exchange.{block, frame, exchange}
use Rattle.ground.proofs.Tab.{tab_get_d}
use Rattle.modes.specs.declared.resonator.Batch.{Batch}
use Rattle.modes.specs.declared.resonator.Mode.{Mode}
use Rattle.modes.specs.declared.resonator.Modes.{Modes}
use Rattle.modes.specs.declared.resonator.Partial.{Partial}
use Rattle.modes.specs.declared.resonator.Resonator.{Resonator}
use Rattle.modes.specs.declared.resonator.States.{States}
use Rattle.modes.specs.declared.resonator.Tuned.{Tuned}
use Rattle.modes.specs.Resonator.{band_step, mode_at, modes_from, batch_step, in_batches, batches, nth_harmonic_compensation, q_loss_of, first_of}
use Rattle.modes.specs.Resonator.{resonator_process}
use Rattle.modes.specs.OnePass.{partial_at, tuned, modes_of, modes_for, put_batch, no_batch, states_of, batch_at, filters_of, batch_sum, add_batches, frame_of}
use Rattle.modes.specs.OnePass.{one_pass}
use Rattle.modes.proofs.Frame.{FullStates, states_tab, states_written}

-- ---- what the modes keep, in batches and side by side

-- the first n batches put to their places
abbrev pub put_first : List Batch → ℕ → States → States
put_first fs zero s = s
put_first fs (suc n) s = put_batch (get_or fs n no_batch) (4 * n) (put_first fs n s)

pub all_put : (fs : List Batch) → put_first fs 6 (record { state_1 = replicate 24 c0; state_2 = replicate 24 c0 }) ≡ states_of fs
unfolding states_of put_batch tab
all_put fs = refl

-- and taken up again
filters_states : (fs : List Batch) → length fs ≡ 6 → filters_of (states_of fs) ≡ fs
unfolding filters_of batch_at states_of tab
filters_states fs e = tab_get_d fs 6 no_batch e

states_full : (fs : List Batch) → FullStates (states_of fs)
unfolding states_of tab
states_full fs = (refl, refl)

-- ---- all frames through all modes, and all frames through each batch in turn

-- modes by number: in six batches of four, and each at its place
unfoldable batched : (ℕ → Mode) → List (List Mode)
batched m = tab 6 (λ b. tab 4 (λ k. m (4 * b + k)))

unfoldable placed : (ℕ → Mode) → Modes
placed m =
    record {
      g = tab 24 (λ t. (m t).g);
      r_plus_g = tab 24 (λ t. (m t).r_plus_g);
      h = tab 24 (λ t. (m t).h);
      gain = tab 24 (λ t. (m t).gain);
    }

module _ (m : ℕ → Mode) where
  -- states side by side that are the batches', all of them there
  abbrev Alike : States → List Batch → Type 0
  Alike s fs = (fs ≡ filters_of s) × FullStates s

  -- a frame through each batch in turn gives what a frame through all modes does
  abbrev Same : States → Type 0
  Same s = (x y : Float)
      → Alike (frame_of (placed m) s x y).0 (frame band_step (batched m) (filters_of s) x y).0
      × ((frame_of (placed m) s x y).1 ≡ (frame band_step (batched m) (filters_of s) x y).1)

  same_frame : (f g : ℕ → Float) → Same (states_tab f g)
  unfolding batched placed filters_of batch_at frame_of over add_batches batch_sum tab scan
  same_frame f g x y = ((refl, (refl, refl)), refl)

  alike_frame : (s : States) (fs : List Batch) (x y : Float) → Alike s fs
      → Alike (frame_of (placed m) s x y).0 (frame band_step (batched m) fs x y).0
      × ((frame_of (placed m) s x y).1 ≡ (frame band_step (batched m) fs x y).1)
  alike_frame s fs x y a =
      subst
      (λ (gs : List Batch). Alike (frame_of (placed m) s x y).0 (frame band_step (batched m) gs x y).0
      × ((frame_of (placed m) s x y).1 ≡ (frame band_step (batched m) gs x y).1))
      (sym a.0) (states_written Same same_frame s a.1 x y)

  in_turn : (fs : List Batch) (xs ys : List Float) → length fs ≡ 6
      → one_pass (placed m) fs xs ys ≡ (let q = scan (block band_step xs) ys (batched m) fs in (q.1, q.0))
  unfolding one_pass
  in_turn fs xs ys h =
      let a = scan_alike Alike (frame_of (placed m)) (frame band_step (batched m)) alike_frame (states_of fs) fs xs ys
      (sym (filters_states fs h), states_full fs) in
      (λ i. (sym a.0.0 i, a.1 i)) ∙ sym (ap (λ (q : List Float × List Batch). (q.1, q.0)) (exchange band_step (batched m) fs xs ys))

module _ (f0 loss : Float) (p : Partial) (amps : List Float) where
  -- the mode of a number
  abbrev mode : ℕ → Mode
  mode i = mode_at (get_or amps i nan) (partial_at f0 loss p i)

  same_modes : modes_of (tuned amps f0 loss p) ≡ placed mode
  unfolding modes_of tuned placed mode_at tab
  same_modes = refl

  same_batches : (s : States) (xs ys : List Float)
      → batches f0 loss p amps (filters_of s) xs ys ≡ (let q = scan (block band_step xs) ys (batched mode) (filters_of s) in (q.1, q.0))
  unfolding batches in_batches batch_step modes_from batched filters_of tab scan
  same_batches s xs ys = refl

  pub one_pass_lem : (fs : List Batch) (xs ys : List Float) → length fs ≡ 6
      → one_pass (modes_of (tuned amps f0 loss p)) fs xs ys ≡ batches f0 loss p amps fs xs ys
  one_pass_lem fs xs ys h =
      ap (λ (k : Modes). one_pass k fs xs ys) same_modes ∙ in_turn mode fs xs ys h
      ∙ sym (subst (λ (gs : List Batch). batches f0 loss p amps gs xs ys ≡ (let q = scan (block band_step xs) ys (batched mode) gs in (q.1, q.0)))
      (filters_states fs h) (same_batches (states_of fs) xs ys))

-- ---- the calls put together

-- what owning an array of structs tells of its length
pub mapped_length : {X Y : Type 0} (f : X → Y) (xs : List X) (n : ℕ) → length (map f xs) ≡ n → length xs ≡ n
mapped_length f xs n e = sym (length-map xs f) ∙ e

pub made : (amps : List Float) (f0 structure brightness damping : Float) {stiffness v q-sqrt loss : Float} {p : Partial} {t : Tuned} {k : Modes}
    → stiffness ≡ interpolate structure → v ≡ nth_harmonic_compensation 3 stiffness → q-sqrt ≡ semitones_to_ratio (damping ⊗ c79·7)
    → p ≡ first_of (f0 ⊗ v) stiffness q-sqrt → loss ≡ q_loss_of structure brightness damping → t ≡ tuned amps (f0 ⊗ v) loss p → k ≡ modes_of t
    → k ≡ modes_for amps f0 structure brightness damping
unfolding modes_for
made amps f0 structure brightness damping es ev eq ep el et ek = rw (ek, et, ep, el, eq, ev, es)

-- all frames through all modes, from batches and back to batches
pub ran : (k : Modes) (fs : List Batch) (xs ys : List Float) {s s' : States} {zs : List Float} {gs : List Batch}
    → s ≡ states_of fs → ◌≡◌ {A = States × List Float} (s', zs) (scan (frame_of k) s xs ys)
    → gs ≡ filters_of s' → ◌≡◌ {A = List Batch × List Float} (gs, zs) (one_pass k fs xs ys)
unfolding one_pass
ran k fs xs ys es eu eg =
    rw eg
    (ap (λ (u : States × List Float). (filters_of u.0, u.1)) (eu ∙ ap (λ (s : States). scan (frame_of k) s xs ys) es))

pub processed : (r : Resonator) (f0 structure brightness damping : Float) (xs ys : List Float) {k : Modes} {fs : List Batch} {zs : List Float}
    → length r.mode_filters ≡ 6 → k ≡ modes_for r.mode_amplitude f0 structure brightness damping
    → ◌≡◌ {A = List Batch × List Float} (fs, zs) (one_pass k r.mode_filters xs ys)
    → ◌≡◌ {A = Resonator × List Float} (record { mode_amplitude = r.mode_amplitude; mode_filters = fs }, zs)
    (resonator_process r f0 structure brightness damping xs ys)
unfolding modes_for resonator_process
processed r f0 structure brightness damping xs ys h ek e =
    let f = f0 ⊗ nth_harmonic_compensation 3 (interpolate structure) in
    let first = first_of f (interpolate structure) (semitones_to_ratio (damping ⊗ c79·7)) in
    ap (λ (u : List Batch × List Float). (record { mode_amplitude = r.mode_amplitude; mode_filters = u.0 }, u.1))
    (e ∙ ap (λ (k : Modes). one_pass k r.mode_filters xs ys) ek
    ∙ one_pass_lem f (q_loss_of structure brightness damping) first r.mode_amplitude r.mode_filters xs ys h)
