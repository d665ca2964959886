-- The ledger's numbers are the string voice's: the period, the ratio, the phase and the steps. Assumes nothing.
use mathlib.Core.Path.{◌≡◌, refl, ap, ◌∙◌}
use mathlib.Core.Bool.{Bool, true, false, ◌&&◌, ◌||◌, cond}
use Prim.Native.Nat.{ℕ, zero, suc, ◌+◌}
use lib.Dec.{T}
use lib.Ieee.{Float, binary32, of_bits, fits, lt, le, to_unsigned}
use denote.Floats.{is_true}
use Rattle.ground.specs.F32.{◌⊕◌, ◌⊗◌, ◌⊘◌, c0·26, c0·5, c0·9999, c1, c2, c4, c1020, two_to64}
use Rattle.ground.specs.Floats.{whole_part, clamp_f}
use Rattle.utils.specs.Filter.{svf_set_f_q}
use Rattle.utils.specs.declared.filter.FrequencyApproximation.TheVariants.{Dirty}
use Rattle.ground.proofs.Frames.{after, drawn}
use Rattle.bounds.proofs.Order.{le_trans_float, lt_of_le}
use Rattle.bounds.proofs.Monotone.{mul_comm_float}
use Rattle.bounds.proofs.Bounds.{int, encloses, const_in, div_in}
use Rattle.noise.specs.declared.excitation.Knobs.{Knobs}
use Rattle.waveguide.specs.declared.string.String.{String}
use Rattle.string_voice.specs.declared.string_voice.StringVoice.{StringVoice}
use Rattle.waveguide.specs.String.{delay_of, ratio_of, snap}
use Rattle.waveguide.specs.Kept.{words_of}
use Rattle.string_voice.specs.StringVoice.{cutoff_for, strike}
use Rattle.waveguide.proofs.Steps.{wrap}
use Rattle.waveguide.proofs.Blocks.{ratio_for}
use Rattle.noise.proofs.Ranges.{Knob, Fundamental}
use Rattle.string_voice.proofs.Amounts.{step_words}
use Rattle.string_voice.proofs.Drawn as voice
use Rattle.claims.specs.Ledger.{period, held_period, ratio, whole, next_phase, phase_after, steps}

-- ---- left

-- 1/f0 lies between 2 and 2^20, where the whole part is the truncation
period_is : (f0 : Float) → Fundamental f0 → whole_part (c1 ⊘ f0) ≡ period f0
unfolding whole_part period encloses of_bits le lt
period_is f0 f =
    let x = c1 ⊘ f0 in
    let p = div_in (const_in c1 tt) f c2 (int 1048576) tt in
    go (le c1 x) (lt x two_to64) (is_true (le c1 x) (le_trans_float c1 c2 x tt p.least)) (is_true (lt x two_to64) (lt_of_le x (int 1048576) two_to64 p.most tt))
  where
    go : (a b : Bool) → a ≡ true → b ≡ true → cond (a && b) (to_unsigned 64 (c1 ⊘ f0)) 0 ≡ to_unsigned 64 (c1 ⊘ f0)
    go a b x y = rw (x, y)

-- with trigger or sustain the noise begins anew
abbrev pub begun : Knobs → ℕ → ℕ
begun k left = cond (k.trigger || k.sustain) (period k.f0) left

pub left_is : (k : Knobs) (v : StringVoice) → Fundamental k.f0 → voice.left_at k v ≡ begun k v.remaining_noise_samples
unfolding strike
left_is k v f = go (k.trigger || k.sustain)
  where
    go : (b : Bool)
        → (cond b (record {
          excitation_filter = svf_set_f_q v.excitation_filter (cutoff_for k) (cond k.sustain c1 c0·5) Dirty;
          string = v.string;
          remaining_noise_samples = whole_part (c1 ⊘ k.f0);
        }) v).remaining_noise_samples
        ≡ cond b (period k.f0) v.remaining_noise_samples
    go true = period_is k.f0 f
    go false = refl

-- ---- ratio and phase

-- the voice tests the upper end after the lower one, the ledger instead of it: 4 is not above 1020
held_is : (f0 : Float) → held_period f0 ≡ delay_of f0
unfolding held_period delay_of clamp_f
held_is f0 = go (lt (c1 ⊘ f0) c4)
  where
    go : (b : Bool) → cond b c4 (cond (lt c1020 (c1 ⊘ f0)) c1020 (c1 ⊘ f0)) ≡ cond (lt c1020 (cond b c4 (c1 ⊘ f0))) c1020 (cond b c4 (c1 ⊘ f0))
    go true = unfold lt of_bits in refl
    go false = refl

pub ratio_is : (f0 : Float) → ratio f0 ≡ ratio_of f0
unfolding ratio ratio_of
ratio_is f0 = ap (λ (p : Float). f0 ⊗ p) (held_is f0) ∙ mul_comm_float f0 (delay_of f0)

pub whole_is : (f0 : Float) → whole f0 ≡ le c0·9999 (ratio_of f0)
unfolding whole
whole_is f0 = ap (λ (r : Float). le c0·9999 r) (ratio_is f0)

-- the ratio and the phase of a block
abbrev pub block_ratio : Float → Float
block_ratio f0 = cond (whole f0) c1 (ratio f0)

abbrev pub block_phase : Float → Float → Float
block_phase f0 phase = cond (whole f0) c1 phase

block_ratio_is : (f0 : Float) → ratio_for f0 ≡ block_ratio f0
block_ratio_is f0 = rw (whole_is f0, ratio_is f0)

block_phase_is : (f0 phase : Float) → snap (ratio_of f0) phase ≡ block_phase f0 phase
block_phase_is f0 phase = rw (whole_is f0)

after_is : (n : ℕ) (r p : Float) → after (wrap r) n p ≡ phase_after n r p
unfolding phase_after next_phase
after_is zero r p = refl
after_is (suc n) r p = after_is n r (wrap r p)

pub phase_is : (k : Knobs) (s : String) (n : ℕ) → voice.phase_after k s n ≡ phase_after n (block_ratio k.f0) (block_phase k.f0 s.src_phase)
phase_is k s n =
    ap (λ (r : Float). after (wrap r) n (voice.phase_at k s)) (block_ratio_is k.f0)
    ∙ ap (after (wrap (block_ratio k.f0)) n) (block_phase_is k.f0 s.src_phase)
    ∙ after_is n (block_ratio k.f0) (block_phase k.f0 s.src_phase)

-- ---- dispersion: a word a step where structure > 0.26

drawn_is : (b : Bool) (n : ℕ) (r p : Float) → drawn (wrap r) (λ (p : Float). cond (lt c1 (p ⊕ r)) (cond b 1 0) 0) n p ≡ cond b (steps n r p) 0
unfolding steps next_phase
drawn_is true zero r p = refl
drawn_is false zero r p = refl
drawn_is true (suc n) r p = ap (λ (m : ℕ). cond (lt c1 (p ⊕ r)) 1 0 + m) (drawn_is true n r (wrap r p))
drawn_is false (suc n) r p = go (lt c1 (p ⊕ r)) (drawn_is false n r (wrap r p))
  where
    go : (c : Bool) {m : ℕ} → m ≡ 0 → cond c 0 0 + m ≡ 0
    go true e = rw e
    go false e = rw e

pub dispersion_is : (k : Knobs) (s : String) (n : ℕ) → T (fits binary32 k.structure) → Knob k.structure
    → voice.dispersion_words k s n ≡ cond (lt c0·26 k.structure) (steps n (block_ratio k.f0) (block_phase k.f0 s.src_phase)) 0
dispersion_is k s n f p =
    let r = block_ratio k.f0 in
    ap (λ (r : Float). drawn (wrap r) (λ (p : Float). cond (lt c1 (p ⊕ r)) (words_of (voice.shape_of k)) 0) n (voice.phase_at k s)) (block_ratio_is k.f0)
    ∙ ap (λ (x : Float). drawn (wrap r) (λ (p : Float). cond (lt c1 (p ⊕ r)) (words_of (voice.shape_of k)) 0) n x) (block_phase_is k.f0 s.src_phase)
    ∙ ap (λ (m : ℕ). drawn (wrap r) (λ (p : Float). cond (lt c1 (p ⊕ r)) m 0) n (block_phase k.f0 s.src_phase)) (step_words k.structure f p)
    ∙ drawn_is (lt c0·26 k.structure) n r (block_phase k.f0 s.src_phase)
