-- The one-pass form of Resonator::process: the coefficients of all modes first, then each frame through all modes. Assumes nothing.
use Rattle.std.specs.Prelude.{List, ℕ, ◌+◌, ◌*◌, ◌/◌, ◌%◌, get_or, set, replicate, Float}
use Rattle.std.specs.Float.{nan}
use Rattle.ground.specs.F32.{◌⊕◌, ◌⊗◌, c0, c79·7}
use Rattle.ground.specs.Frames.{scan, over, up_to, after, tab}
use Rattle.utils.specs.Utils.{interpolate}
use Rattle.utils.specs.Units.{semitones_to_ratio}
use Rattle.modes.specs.declared.resonator.ResonatorSvf.{ResonatorSvf}
use Rattle.modes.specs.declared.resonator.Batch.{Batch}
use Rattle.modes.specs.declared.resonator.Mode.{Mode}
use Rattle.modes.specs.declared.resonator.Partial.{Partial}
use Rattle.modes.specs.declared.resonator.Tuned.{Tuned}
use Rattle.modes.specs.declared.resonator.Modes.{Modes}
use Rattle.modes.specs.declared.resonator.States.{States}
use Rattle.modes.specs.Resonator.{mode_of, tick_of, absent, modes_in, next_of, frequency, resonance, amplitude, nth_harmonic_compensation, q_loss_of, first_of}

-- ---- the coefficients

-- where the loop over the modes stands at the mode m
abbrev pub partial_at : Float → Float → Partial → ℕ → Partial
partial_at f0 loss p m = after (next_of f0 loss) m p

unfoldable pub tuned : List Float → Float → Float → Partial → Tuned
tuned amps f0 loss p =
    record {
      f = tab 24 (λ m. frequency (partial_at f0 loss p m));
      q = tab 24 (λ m. resonance (partial_at f0 loss p m));
      a = tab 24 (λ m. amplitude (get_or amps m nan) (partial_at f0 loss p m));
    }

abbrev pub mode_there : Tuned → ℕ → Mode
mode_there u t = mode_of (get_or u.f t nan) (get_or u.q t nan) (get_or u.a t nan)

unfoldable pub modes_of : Tuned → Modes
modes_of u =
    record {
      g = tab 24 (λ t. (mode_there u t).g);
      r_plus_g = tab 24 (λ t. (mode_there u t).r_plus_g);
      h = tab 24 (λ t. (mode_there u t).h);
      gain = tab 24 (λ t. (mode_there u t).gain);
    }

-- the coefficients for a block
unfoldable pub modes_for : List Float → Float → Float → Float → Float → Modes
modes_for amps f0 structure brightness damping =
    let stiffness = interpolate structure in
    let f = f0 ⊗ nth_harmonic_compensation 3 stiffness in
    let first = first_of f stiffness (semitones_to_ratio (damping ⊗ c79·7)) in
    modes_of (tuned amps f (q_loss_of structure brightness damping) first)

-- ---- what the modes keep

-- a batch's states put to their places, a the first
abbrev pub put_four : Float → Float → Float → Float → ℕ → List Float → List Float
put_four p q r s a xs = set (set (set (set xs a p) (a + 1) q) (a + 2) r) (a + 3) s

unfoldable pub put_batch : Batch → ℕ → States → States
put_batch f a s =
    record {
      state_1 = put_four f.mode_0.state_1 f.mode_1.state_1 f.mode_2.state_1 f.mode_3.state_1 a s.state_1;
      state_2 = put_four f.mode_0.state_2 f.mode_1.state_2 f.mode_2.state_2 f.mode_3.state_2 a s.state_2;
    }

-- what stands past the end of a list of batches
abbrev pub no_batch : Batch
no_batch = record { mode_0 = absent; mode_1 = absent; mode_2 = absent; mode_3 = absent }

-- all batches' states at their places
unfoldable pub states_of : List Batch → States
states_of fs =
    record {
      state_1 = tab 24 (λ t. (get_or (modes_in (get_or fs (t / 4) no_batch)) (t % 4) absent).state_1);
      state_2 = tab 24 (λ t. (get_or (modes_in (get_or fs (t / 4) no_batch)) (t % 4) absent).state_2);
    }

-- and back
abbrev pub state_at : States → ℕ → ResonatorSvf
state_at s t = record { state_1 = get_or s.state_1 t nan; state_2 = get_or s.state_2 t nan }

unfoldable pub batch_at : States → ℕ → Batch
batch_at s a = record { mode_0 = state_at s a; mode_1 = state_at s (a + 1); mode_2 = state_at s (a + 2); mode_3 = state_at s (a + 3) }

unfoldable pub filters_of : States → List Batch
filters_of s = tab 6 (λ b. batch_at s (4 * b))

-- what a mode keeps, put to its place
abbrev pub put_state : ResonatorSvf → ℕ → States → States
put_state m t s = record { state_1 = set s.state_1 t m.state_1; state_2 = set s.state_2 t m.state_2 }

-- ---- a frame

pub record Bands : Type 0 where
  pub states : States
  pub bands : List Float

abbrev pub mode_in : Modes → ℕ → Mode
mode_in k t = record { g = get_or k.g t nan; r_plus_g = get_or k.r_plus_g t nan; h = get_or k.h t nan; gain = get_or k.gain t nan }

-- the sample through the mode at a place, and what is heard of it
abbrev pub place_of : Modes → Float → Bands → ℕ → Bands
place_of k x b t =
    let m = mode_in k t in
    let o = tick_of m (state_at b.states t) x in
    record { states = put_state o.svf t b.states; bands = set b.bands t (m.gain ⊗ o.bp) }

-- through the four modes of a batch, a the place of its first
abbrev pub four_of : Modes → Float → Bands → ℕ → Bands
four_of k x b a = place_of k x (place_of k x (place_of k x (place_of k x b a) (a + 1)) (a + 2)) (a + 3)

-- the sum of the batch that stands at a, and all sums added to y in turn
unfoldable pub batch_sum : List Float → ℕ → Float
batch_sum p a = c0 ⊕ get_or p a nan ⊕ get_or p (a + 1) nan ⊕ get_or p (a + 2) nan ⊕ get_or p (a + 3) nan

unfoldable pub add_batches : Float → List Float → Float
add_batches y p = y ⊕ batch_sum p 0 ⊕ batch_sum p 4 ⊕ batch_sum p 8 ⊕ batch_sum p 12 ⊕ batch_sum p 16 ⊕ batch_sum p 20

unfoldable pub frame_of : Modes → States → Float → Float → States × Float
frame_of k s x y =
    let b = over (λ (b : Bands) (j : ℕ). four_of k x b (4 * j)) (record { states = s; bands = replicate 24 c0 }) (up_to 6) in
    (b.states, add_batches y b.bands)

unfoldable pub one_pass : Modes → List Batch → List Float → List Float → List Batch × List Float
one_pass k fs xs ys = let u = scan (frame_of k) (states_of fs) xs ys in (filters_of u.0, u.1)
