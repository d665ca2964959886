-- resonator.rs: ResonatorSvf of any number of modes, and Resonator, batch after batch. Assumes nothing.
use Rattle.std.specs.Prelude.{cond, List, [], ◌∷◌, ℕ, ◌+◌, ◌-◌, ◌*◌, get_or, replicate, Float}
use Rattle.std.specs.Float.{nan}
use Rattle.std.specs.Float.Ieee.{lt, le}
use Rattle.ground.specs.F32.{◌⊕◌, ◌⊖◌, ◌⊗◌, ◌⊘◌, c0, c0·15, c0·3, c0·499, c0·85, c0·93, c0·98, c1, c2, c79·7, c500}
use Rattle.ground.specs.Frames.{scan, after, tab}
use Rattle.utils.specs.Filter.{tan_fast}
use Rattle.utils.specs.Utils.{interpolate}
use Rattle.utils.specs.Units.{semitones_to_ratio}
use Rattle.utils.specs.Amplitudes.{amplitudes_of}
use Rattle.modes.specs.declared.resonator.ResonatorSvf.{ResonatorSvf}
use Rattle.modes.specs.declared.resonator.Batch.{Batch}
use Rattle.modes.specs.declared.resonator.Resonator.{Resonator}
use Rattle.modes.specs.declared.resonator.Mode.{Mode}
use Rattle.modes.specs.declared.resonator.Ticked.{Ticked}
use Rattle.modes.specs.declared.resonator.Partial.{Partial}

-- ---- ResonatorSvf

-- new and init
unfoldable pub svf_new : ResonatorSvf
svf_new = record { state_1 = c0; state_2 = c0 }

-- the coefficients of a mode
unfoldable pub mode_of : Float → Float → Float → Mode
mode_of f q gain =
    let g = tan_fast f in
    let r = c1 ⊘ q in
    record { g = g; r_plus_g = r ⊕ g; h = c1 ⊘ (c1 ⊕ r ⊗ g ⊕ g ⊗ g); gain = gain }

-- a sample through a mode
unfoldable pub tick_of : Mode → ResonatorSvf → Float → Ticked
tick_of k s x =
    let hp = (x ⊖ k.r_plus_g ⊗ s.state_1 ⊖ s.state_2) ⊗ k.h in
    let bp = k.g ⊗ hp ⊕ s.state_1 in
    let lp = k.g ⊗ bp ⊕ s.state_2 in
    record { svf = record { state_1 = k.g ⊗ hp ⊕ bp; state_2 = k.g ⊗ bp ⊕ lp }; bp = bp; lp = lp }

-- a sample through the modes of a filter, one after the other: s_out and their states; what is heard of a mode is its band pass or its low pass
abbrev pub mode_step : (Ticked → Float) → Float → Float → Mode → ResonatorSvf → Float × ResonatorSvf
mode_step heard x sum k s = let t = tick_of k s x in (sum ⊕ k.gain ⊗ heard t, t.svf)

abbrev pub through : (Ticked → Float) → List Mode → List ResonatorSvf → Float → Float × List ResonatorSvf
through heard ks ss x = scan (mode_step heard x) c0 ks ss

-- what stands past the end of a list of states
abbrev pub absent : ResonatorSvf
absent = record { state_1 = nan; state_2 = nan }

-- ResonatorSvf<1>::process at LowPass, not added
abbrev pub low_step : Mode → ResonatorSvf → Float → Float → ResonatorSvf × Float
low_step k s x y = let u = through (λ t. t.lp) (k ∷ []) (s ∷ []) x in (get_or u.1 0 absent, u.0)

unfoldable pub svf_process_low : Mode → ResonatorSvf → List Float → List Float → ResonatorSvf × List Float
svf_process_low k = scan (low_step k)

-- the modes of ResonatorSvf<4>
abbrev pub modes_in : Batch → List ResonatorSvf
modes_in b = b.mode_0 ∷ b.mode_1 ∷ b.mode_2 ∷ b.mode_3 ∷ []

abbrev pub batch_of : List ResonatorSvf → Batch
batch_of ss = record { mode_0 = get_or ss 0 absent; mode_1 = get_or ss 1 absent; mode_2 = get_or ss 2 absent; mode_3 = get_or ss 3 absent }

-- ResonatorSvf<4>::process at BandPass, added
abbrev pub band_step : List Mode → Batch → Float → Float → Batch × Float
band_step ks b x y = let u = through (λ t. t.bp) ks (modes_in b) x in (batch_of u.1, y ⊕ u.0)

-- ---- Resonator::new and init

unfoldable pub filters_new : List Batch
filters_new = replicate 6 (record { mode_0 = svf_new; mode_1 = svf_new; mode_2 = svf_new; mode_3 = svf_new })

unfoldable pub resonator_new : Resonator
resonator_new = record { mode_amplitude = replicate 24 c0; mode_filters = filters_new }

-- init(position, 24), which leaves nothing of what was
unfoldable pub resonator_init : Resonator → Float → Resonator
resonator_init r position = record { mode_amplitude = amplitudes_of position; mode_filters = filters_new }

-- ---- Resonator::process

-- mode_frequency, at most 0.499
unfoldable pub cap_of : Float → Float
cap_of f = cond (le c0·499 f) c0·499 f

-- the stiffness at the next mode
unfoldable pub shrunk : Float → Float
shrunk s = cond (lt s c0) (s ⊗ c0·93) (s ⊗ c0·98)

-- nth_harmonic_compensation: stretch_factor and stiffness
abbrev pub compensation_step : Float × Float → Float × Float
compensation_step u = (u.0 ⊕ u.1, shrunk u.1)

unfoldable pub nth_harmonic_compensation : ℕ → Float → Float
nth_harmonic_compensation n stiffness = c1 ⊘ (after compensation_step (n - 1) (c1, stiffness)).0

-- where the loop over the modes begins, and from a mode to the next
unfoldable pub first_of : Float → Float → Float → Partial
first_of f0 stiffness q_sqrt =
    record { harmonic = f0; stretch_factor = c1; stiffness = stiffness; q = c500 ⊗ q_sqrt ⊗ q_sqrt }

unfoldable pub next_of : Float → Float → Partial → Partial
next_of f0 loss p =
    record {
      harmonic = p.harmonic ⊕ f0;
      stretch_factor = p.stretch_factor ⊕ p.stiffness;
      stiffness = shrunk p.stiffness;
      q = p.q ⊗ loss;
    }

-- q_loss, of the brightness that structure and damping lessen
unfoldable pub q_loss_of : Float → Float → Float → Float
q_loss_of structure brightness damping =
    let b = brightness ⊗ (c1 ⊖ structure ⊗ c0·3) ⊗ (c1 ⊖ damping ⊗ c0·3) in
    b ⊗ (c2 ⊖ b) ⊗ c0·85 ⊕ c0·15

-- mode_f, mode_q and mode_a
unfoldable pub frequency : Partial → Float
frequency p = cap_of (p.harmonic ⊗ p.stretch_factor)

unfoldable pub resonance : Partial → Float
resonance p = c1 ⊕ frequency p ⊗ p.q

unfoldable pub amplitude : Float → Partial → Float
amplitude a p = a ⊗ (c1 ⊖ frequency p ⊗ c2)

unfoldable pub mode_at : Float → Partial → Mode
mode_at a p = mode_of (frequency p) (resonance p) (amplitude a p)

-- the modes of these amplitudes, one after the other, and where the loop stands after them
unfoldable pub modes_from : Float → Float → Partial → List Float → Partial × List Mode
modes_from f0 loss p [] = (p, [])
modes_from f0 loss p (a ∷ amps) = let u = modes_from f0 loss (next_of f0 loss p) amps in (u.0, mode_at a p ∷ u.1)

-- every fourth mode: the batch runs over the block
unfoldable pub batch_step : Float → Float → List Float → Partial × List Float → List Float → Batch → (Partial × List Float) × Batch
batch_step f0 loss xs s amps b =
    let m = modes_from f0 loss s.0 amps in
    let r = scan (band_step m.1) b xs s.1 in
    ((m.0, r.1), r.0)

-- the amplitudes of six batches of four
unfoldable pub in_batches : List Float → List (List Float)
in_batches amps = tab 6 (λ b. tab 4 (λ k. get_or amps (4 * b + k) nan))

-- all batches in turn
unfoldable pub batches : Float → Float → Partial → List Float → List Batch → List Float → List Float → List Batch × List Float
batches f0 loss p amps fs xs ys = let u = scan (batch_step f0 loss xs) (p, ys) (in_batches amps) fs in (u.1, u.0.1)

unfoldable pub resonator_process : Resonator → Float → Float → Float → Float → List Float → List Float → Resonator × List Float
resonator_process r f0 structure brightness damping xs ys =
    let stiffness = interpolate structure in
    let f = f0 ⊗ nth_harmonic_compensation 3 stiffness in
    let first = first_of f stiffness (semitones_to_ratio (damping ⊗ c79·7)) in
    let u = batches f (q_loss_of structure brightness damping) first r.mode_amplitude r.mode_filters xs ys in
    (record { mode_amplitude = r.mode_amplitude; mode_filters = u.0 }, u.1)
