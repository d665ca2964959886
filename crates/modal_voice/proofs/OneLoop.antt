-- One loop over the frames is the excitation filter, then aux, then the modes: laws over plain values. Assumes nothing.
use mathlib.Core.Path.{◌≡◌, refl, sym, ◌∙◌, ap}
use mathlib.Core.Bool.{Bool, false}
use mathlib.Core.List.{List, [], ◌∷◌}
use Prim.Native.Nat.{ℕ, ◌+◌, ◌≤◌, ◌<◌, min}
use native.Mathlib.Omega.{arith}
use lib.ListN.{get_or, length, set}
use lib.Ieee.{Float, nan}
use Rattle.ground.specs.F32.{◌⊕◌}
use Rattle.ground.specs.Frames.{scan}
use Rattle.ground.proofs.Frames.{Scan, frames_begin, length_scan, scan_turn, scan_end}
use Rattle.ground.proofs.Lead.{fill, Lead, lead_begin, lead_turn, lead_puts, lead_end}
use Rattle.noise.specs.Excitation.{Alike, add_step, added}
use Rattle.modes.specs.declared.resonator.ResonatorSvf.{ResonatorSvf}
use Rattle.modes.specs.declared.resonator.Batch.{Batch}
use Rattle.modes.specs.declared.resonator.Modes.{Modes}
use Rattle.modes.specs.declared.resonator.States.{States}
use Rattle.noise.specs.declared.ahead.Passed.{Passed}
use Rattle.noise.specs.Ahead.{Stays, ahead_of, ahead_compared_of}
use Rattle.noise.specs.Settling.{filtered}
use Rattle.noise.proofs.OneAhead.{ahead_compared_step, ahead_compared_end}
use Rattle.modal_voice.specs.declared.modal_voice.LowPass.{LowPass}
use Rattle.modes.specs.Resonator.{svf_process_low}
use Rattle.modes.specs.OnePass.{states_of, filters_of, frame_of, one_pass}
use Rattle.modes.proofs.OnePass.{ran}
use Rattle.modal_voice.specs.OneLoop.{filter_of, low_same}

-- the excitation filter over all frames is its memory's loop
low_scan : {A : ℕ} (f : LowPass A) (xs ys : List Float)
    → scan (fill filter_of) f xs ys ≡ (let q = svf_process_low f.mode f.svf xs ys in (record { mode = f.mode; svf = q.0 }, q.1))
unfolding svf_process_low scan
low_scan f [] ys = refl
low_scan f (x ∷ xs) [] = refl
low_scan {A} f (x ∷ xs) (y ∷ ys) = ap (λ (q : LowPass A × List Float). (q.0, (filter_of f x).1 ∷ q.1)) (low_scan (filter_of f x).0 xs ys)

pub settled : {A : ℕ} (f : LowPass A) (xs ys : List Float) {g : LowPass A} {zs : List Float} → ◌≡◌ {A = LowPass A × List Float} (g, zs) (filtered filter_of f xs ys)
    → ◌≡◌ {A = ResonatorSvf × List Float} (g.svf, zs) (svf_process_low f.mode f.svf xs ys)
settled {A} f xs ys e = ap (λ (q : LowPass A × List Float). (q.0.svf, q.1)) (e ∙ low_scan f xs ys)

-- ---- a loop over the frames of a block; m is what the modes' coefficients are, states what they keep before it
module _ {A : ℕ} (f : LowPass A) (m : Modes) (states : States) (temp temp2 out aux : List Float) where
  -- what the filter leaves in temp_2
  abbrev filled : List Float
  filled = (scan (fill filter_of) f temp temp2).1

  -- i frames are done
  pub record Underway (i : ℕ) (ts os us : List Float) (now : States) (o : Passed (LowPass A)) : Type 0 where
    pub lead : Lead filter_of nan f temp temp2 i ts (o.filter, o.out)
    pub mixed : Scan add_step tt filled aux i tt us
    pub sung : Scan (frame_of m) states filled out i now os
    pub sizes : Alike temp temp2 out aux
    pub filled_is : length filled ≡ length temp

  -- and where the filter stands, it makes the same of the same sample
  abbrev pub UnderwayCompared : ℕ → List Float → List Float → List Float → States → Passed (LowPass A) → Type 0
  UnderwayCompared i ts os us now o = Underway i ts os us now o × Stays filter_of low_same o (get_or temp i nan)

  -- whatever it is by which two filters are found the same
  module _ (same : LowPass A → LowPass A → Bool) where
    begins : {o : Passed (LowPass A)} → Alike temp temp2 out aux → o ≡ ahead_compared_of filter_of same f temp 0 → Underway 0 temp2 out aux states o
    begins a e =
        record {
          lead = lead_begin (ahead_compared_step filter_of same f temp 0 e) (ahead_compared_end filter_of same f temp 0 e);
          mixed = frames_begin;
          sung = frames_begin;
          sizes = a;
          filled_is = length_scan (fill filter_of) f temp temp2 ∙ a.temp2_is;
        }

    turns : {i : ℕ} {ts os us : List Float} {now now' : States} {o p : Passed (LowPass A)} {y : Float} → Underway i ts os us now o → i < length temp
        → p ≡ ahead_compared_of filter_of same o.filter temp (i + 1)
        → ◌≡◌ {A = States × Float} (now', y) (frame_of m now o.out (get_or os i nan))
        → Underway (i + 1) (set ts i o.out) (set os i y) (set us i (get_or us i nan ⊕ o.out)) now' p
    turns {i = i} {os = os} {us = us} {now = now} {o = o} v l e h =
        let z = v.sizes in
        let n = v.filled_is in
        let within : i < min (length temp) (length temp2) = omega (arith, z, l) in
        let x : o.out ≡ get_or filled i nan = lead_puts nan v.lead within in
        record {
          lead = lead_turn nan v.lead within (ahead_compared_step filter_of same o.filter temp (i + 1) e)
              (ahead_compared_end filter_of same o.filter temp (i + 1) e);
          mixed = scan_turn nan nan v.mixed (omega (arith, z, n, l)) (ap (λ (x : Float). (tt, get_or us i nan ⊕ x)) x);
          sung = scan_turn nan nan v.sung (omega (arith, z, n, l)) (h ∙ ap (λ (x : Float). frame_of m now x (get_or os i nan)) x);
          sizes = z;
          filled_is = n;
        }

  pub underway_begin : {o : Passed (LowPass A)} → Alike temp temp2 out aux → o ≡ ahead_of filter_of f temp 0 → Underway 0 temp2 out aux states o
  unfolding ahead_of ahead_compared_of
  underway_begin = begins (λ _ _. false)

  pub underway_turn : {i : ℕ} {ts os us : List Float} {now now' : States} {o p : Passed (LowPass A)} {y : Float} → Underway i ts os us now o → i < length temp
      → p ≡ ahead_of filter_of o.filter temp (i + 1)
      → ◌≡◌ {A = States × Float} (now', y) (frame_of m now o.out (get_or os i nan))
      → Underway (i + 1) (set ts i o.out) (set os i y) (set us i (get_or us i nan ⊕ o.out)) now' p
  unfolding ahead_of ahead_compared_of
  underway_turn = turns (λ _ _. false)

  pub underway_begin_compared : {o : Passed (LowPass A)} → Alike temp temp2 out aux → o ≡ ahead_compared_of filter_of low_same f temp 0
      → Stays filter_of low_same o (get_or temp 0 nan) → UnderwayCompared 0 temp2 out aux states o
  underway_begin_compared a e t = (begins low_same a e, t)

  pub underway_turn_compared : {i : ℕ} {ts os us : List Float} {now now' : States} {o p : Passed (LowPass A)} {y : Float}
      → UnderwayCompared i ts os us now o → i < length temp
      → p ≡ ahead_compared_of filter_of low_same o.filter temp (i + 1) → Stays filter_of low_same p (get_or temp (i + 1) nan)
      → ◌≡◌ {A = States × Float} (now', y) (frame_of m now o.out (get_or os i nan))
      → UnderwayCompared (i + 1) (set ts i o.out) (set os i y) (set us i (get_or us i nan ⊕ o.out)) now' p
  underway_turn_compared v l e t h = (turns low_same v.0 l e h, t)

  module _ {i : ℕ} {ts os us : List Float} {now : States} {o : Passed (LowPass A)} (v : Underway i ts os us now o) (l : length temp ≤ i) where
    filled_whole : ◌≡◌ {A = LowPass A × List Float} (o.filter, ts) (scan (fill filter_of) f temp temp2)
    filled_whole = lead_end v.lead l

    filled_back : filled ≡ ts
    filled_back = sym (ap (λ (q : LowPass A × List Float). q.1) filled_whole)

    pub underway_filtered : ◌≡◌ {A = ResonatorSvf × List Float} (o.filter.svf, ts) (svf_process_low f.mode f.svf temp temp2)
    underway_filtered = settled f temp temp2 filled_whole

    pub underway_mixed : us ≡ added ts aux
    underway_mixed =
        let z = v.sizes in
        ap (λ (q : Unit {0} × List Float). q.1) (scan_end v.mixed (omega (arith, z, v.filled_is, l))) ∙ ap (λ (xs : List Float). added xs aux) filled_back

    pub underway_passed : (fs : List Batch) {gs : List Batch} → states ≡ states_of fs → gs ≡ filters_of now
        → ◌≡◌ {A = List Batch × List Float} (gs, os) (one_pass m fs ts out)
    underway_passed fs es eg =
        let z = v.sizes in
        ran m fs ts out es
        (scan_end v.sung (omega (arith, z, v.filled_is, l)) ∙ ap (λ (xs : List Float). scan (frame_of m) states xs out) filled_back) eg
