-- On accepted knobs the modal voice reaches no table index without a meaning. Assumes nothing.
use mathlib.Core.Path.{◌≡◌, refl}
use mathlib.Core.Bool.{Bool, true, not, ◌&&◌, cond}
use mathlib.Core.List.{List, [], ◌∷◌}
use Prim.Native.Nat.{ℕ, zero, suc, ◌≤◌}
use native.Mathlib.Omega.{arith}
use lib.Dec.{T}
use lib.Ieee.{Float, binary32, of_bits, fits, lt, le, mul, to_unsigned}
use Rattle.resources.specs.Table.{entry}
use Rattle.resources.specs.Pitch.{pitch_ratio_high, pitch_ratio_low}
use Rattle.ground.specs.F32.{◌⊗◌, c0, c0·499, c1, c2, c4, c24, c36, c60, c64, c72, c79·7}
use Rattle.ground.specs.Floats.{whole_part, min_f, clamp_f}
use Rattle.utils.specs.Units.{high_index, low_index, semitones_to_ratio}
use Rattle.utils.specs.Utils.{interpolate}
use Rattle.bounds.proofs.Order.{and_true, finite_not_lt, finite_not_nan, lt_of_le}
use Rattle.bounds.proofs.Bounds.{int, minus, part, Between, encloses, inside, is_in, const_in, in_test, mul_in, min_in, clamp_in, clamp_most, cond_in}
use Rattle.bounds.proofs.Bounds.{finite_in}
use Rattle.bounds.proofs.Indices.{float_under_one, lt_one, is_one, whole_below, high_in, low_in}
use Rattle.noise.specs.declared.excitation.Knobs.{Knobs}
use Rattle.noise.specs.Excitation.{raised}
use Rattle.noise.proofs.Ranges.{Knob, Fundamental, Accepted, raised_in, exciter_in}
use Rattle.modal_voice.specs.ModalVoice.{cutoff_for}
use Rattle.modal_voice.specs.Tables.{exciter_semitones, strike_semitones, decay_semitones, stiffness_index, InTables}

-- ---- what the tables are read at
pub cutoff_reads : (k : Knobs) → cutoff_for k ≡ min_f (cond k.sustain (c4 ⊗ k.f0) (c2 ⊗ k.f0) ⊗ semitones_to_ratio (exciter_semitones k)) c0·499
unfolding cutoff_for
cutoff_reads k = refl

-- ---- the ratio of any semitones, by one test over each table
unfoldable all_inside : (l h : Float) → List Float → Bool
unfolding inside
all_inside l h [] = true
all_inside l h (x ∷ xs) = inside l x h && all_inside l h xs

entry_in : (l h : Float) (table : List Float) (i : ℕ) → T (inside l c0 h) → T (all_inside l h table) → Between l (entry table i) h
unfolding all_inside
entry_in l h [] i z t = in_test l c0 h z
entry_in l h (x ∷ xs) zero z t = in_test l x h (and_true (inside l x h) (all_inside l h xs) t).0
entry_in l h (x ∷ xs) (suc i) z t = entry_in l h xs i z (and_true (inside l x h) (all_inside l h xs) t).1

high_entry : (i : ℕ) → Between c0 (entry pitch_ratio_high i) (int 1535)
unfolding all_inside inside pitch_ratio_high of_bits
high_entry i = entry_in c0 (int 1535) pitch_ratio_high i tt tt

low_entry : (i : ℕ) → Between c0 (entry pitch_ratio_low i) c2
unfolding all_inside inside pitch_ratio_low of_bits
low_entry i = entry_in c0 c2 pitch_ratio_low i tt tt

pub ratio_in : (semitones : Float) → Between c0 (semitones_to_ratio semitones) (int 3070)
unfolding semitones_to_ratio encloses of_bits
ratio_in semitones = mul_in (high_entry (high_index semitones)) (low_entry (low_index semitones)) c0 (int 3070) tt

-- ---- the semitones of all three calls of semitones_to_ratio
range_in : (sustain : Bool) → Between c36 (cond sustain c36 c60) c72
unfolding inside of_bits
range_in sustain = cond_in sustain (λ t. in_test c36 c36 c72 tt) (λ t. in_test c36 c60 c72 tt)

pub cutoff_in : (k : Knobs) → Fundamental k.f0 → Between c0 (cutoff_for k) c0·499
unfolding cutoff_for encloses inside of_bits
cutoff_in k f =
    let p₁ = cond_in k.sustain (λ t. mul_in (const_in c4 tt) f c0 c2 tt) (λ t. mul_in (const_in c2 tt) f c0 c2 tt) in
    let p₂ = mul_in p₁ (ratio_in (exciter_semitones k)) c0 (int 6140) tt in
    min_in p₂ (in_test c0 c0·499 c0·499 tt)

pub strike_in : {cutoff : Float} → Between c0 cutoff c0·499 → Between (minus 36) (strike_semitones cutoff) (int 108)
unfolding encloses of_bits
strike_in p = mul_in (mul_in p p c0 (part 1 1) tt) (const_in c24 tt) (minus 36) (int 108) tt

pub decay_in : {damping : Float} → Knob damping → Between (minus 36) (decay_semitones damping) (int 108)
unfolding encloses of_bits
decay_in d = mul_in d (const_in c79·7 tt) (minus 36) (int 108) tt

-- ---- the stiffness table
module _ (structure : Float) (f : T (fits binary32 structure)) (p : Knob structure) where
  pub stiffness_below : T (lt structure c1) → stiffness_index structure ≤ 63
  unfolding encloses inside of_bits lt
  stiffness_below h =
      let q = clamp_in structure c0 c1 (finite_not_nan structure (finite_in p)) tt in
      let r = is_in c0 (clamp_f structure c0 c1) float_under_one tt tt q.least (clamp_most structure c0 c1 float_under_one (lt_one structure f h) tt) in
      let s = mul_in r (const_in c64 tt) c0 (part 16777215 17) tt in
      whole_below 63 (clamp_f structure c0 c1 ⊗ c64) (lt_of_le (clamp_f structure c0 c1 ⊗ c64) (part 16777215 17) (int 64) s.most tt)

  pub stiffness_one : T (not (lt structure c1)) → interpolate structure ≡ c2
  unfolding interpolate clamp_f whole_part mul le lt of_bits to_unsigned
  stiffness_one h = rw (is_one structure f (finite_not_lt structure c1 (finite_in p) tt h) p.most)

-- ---- all of it, of knobs k
pub in_tables : (k : Knobs) → Accepted k → T (fits binary32 k.structure) → InTables k
in_tables k a f = record {
  exciter = high_in (exciter_semitones k) (exciter_in (raised_in a.accent a.brightness) (range_in k.sustain));
  strike = high_in (strike_semitones (cutoff_for k)) (strike_in (cutoff_in k a.f0));
  decay = high_in (decay_semitones (raised k.accent k.damping)) (decay_in (raised_in a.accent a.damping));
  low = low_in;
  stiffness = λ h. omega (arith, stiffness_below k.structure f a.structure h);
  departure = stiffness_one k.structure f a.structure;
}
