-- The kind of a string's non-linearity: chosen by the sign of the Rust's amount, or by structure, is the same choice. Assumes nothing.
use mathlib.Core.Path.{◌≡◌, refl, sym, ap, ◌∙◌}
use mathlib.Core.Bool.{Bool, true, false, not, cond}
use lib.Dec.{T, not_T}
use denote.Floats.{passes, is_true}
use borrow.Author.Tests.{not-true}
use lib.IntN.{pos}
use lib.Ieee.{Float, fin, binary32, of_bits, fits, neg, le, lt, mul}
use Rattle.ground.specs.F32.{◌⊖◌, ◌⊗◌, c0, c0·24, c0·26, c1, c1·35135, c4·166}
use Rattle.bounds.proofs.Order.{lt→le, lt→not-le, finite_not_lt, lt_of_le, lt_then_le}
use Rattle.bounds.proofs.Monotone.{mul_le}
use Rattle.bounds.proofs.Bounds.{Between, encloses, is_in, const_in, sub_in, mul_in, finite_in}
use Rattle.bounds.proofs.Gaps.{tiny, above_gap, below_gap}
use Rattle.waveguide.specs.declared.string.StringNonLinearity.TheVariants.{CurvedBridge, Dispersion}
use Rattle.waveguide.specs.String.{non_linearity}
use Rattle.waveguide.specs.Kept.{words_of}
use Rattle.string_voice.specs.StringVoice.{amount}

-- two tests that pass together
same : (a b : Bool) → (T a → T b) → (T (not a) → T (not b)) → a ≡ b
same true true f g = refl
same true false f g = absurd (f tt)
same false true f g = absurd (g tt)
same false false f g = refl

abbrev pub bridge_amount : Float → Float
bridge_amount s = (s ⊖ c0·24) ⊗ c4·166

abbrev pub dispersion_amount : Float → Float
dispersion_amount s = (s ⊖ c0·26) ⊗ c1·35135

module _ (s : Float) (f : T (fits binary32 s)) (p : Between c0 s c1) where
  -- `structure > 0.26` and `(structure - 0.26) * 1.35135 > 0`
  pub dispersion_test : lt c0·26 s ≡ lt c0 (dispersion_amount s)
  unfolding encloses fits lt le of_bits mul
  dispersion_test = same (lt c0·26 s) (lt c0 (dispersion_amount s)) up down
    where
      up : T (lt c0·26 s) → T (lt c0 (dispersion_amount s))
      up h =
          let q = sub_in p (const_in c0·26 tt) (fin true 1 (pos 0)) c1 tt in
          lt_then_le c0 (tiny ⊗ c1·35135) (dispersion_amount s) tt
          (mul_le tiny (s ⊖ c0·26) c1·35135 tt (finite_in q) tt tt (above_gap s c0·26 (finite_in p) tt f tt h))

      down : T (not (lt c0·26 s)) → T (not (lt c0 (dispersion_amount s)))
      down h =
          let k = finite_not_lt c0·26 s tt (finite_in p) h in
          let q = sub_in (is_in c0 s c0·26 tt tt p.least k) (const_in c0·26 tt) (fin true 1 (pos 0)) c0 tt in
          let r = mul_in q (const_in c1·35135 tt) (fin true 2 (pos 0)) c0 tt in
          not_T (lt c0 (dispersion_amount s)) (λ t. lt→not-le c0 (dispersion_amount s) t r.most)

  -- `structure < 0.24` and `(structure - 0.24) * 4.166 < 0`
  pub bridge_test : lt s c0·24 ≡ lt (bridge_amount s) c0
  unfolding encloses fits lt le of_bits mul neg
  bridge_test = same (lt s c0·24) (lt (bridge_amount s) c0) up down
    where
      up : T (lt s c0·24) → T (lt (bridge_amount s) c0)
      up h =
          let q = sub_in p (const_in c0·24 tt) (fin true 1 (pos 0)) c1 tt in
          lt_of_le (bridge_amount s) (neg tiny ⊗ c4·166) c0
          (mul_le (s ⊖ c0·24) (neg tiny) c4·166 (finite_in q) tt tt tt (below_gap s c0·24 (finite_in p) tt f tt h)) tt

      down : T (not (lt s c0·24)) → T (not (lt (bridge_amount s) c0))
      down h =
          let k = finite_not_lt s c0·24 (finite_in p) tt h in
          let q = sub_in (is_in c0·24 s c1 tt tt k p.most) (const_in c0·24 tt) c0 c1 tt in
          let r = mul_in q (const_in c4·166 tt) c0 (fin false 5 (pos 0)) tt in
          not_T (lt (bridge_amount s) c0) (λ t. lt→not-le (bridge_amount s) c0 t r.least)

  -- a bridge for an amount at or below 0, with its sign turned, and a dispersion above: the same by structure
  pub choice : {A : Type 0} (bridge dispersion : Float → A)
      → cond (le (amount s) c0) (bridge (neg (amount s))) (dispersion (amount s))
      ≡ cond (lt s c0·24) (bridge (neg (bridge_amount s))) (cond (lt c0·26 s) (dispersion (dispersion_amount s)) (bridge (neg c0)))
  unfolding amount
  choice {A} bridge dispersion =
      go (lt s c0·24) (lt c0·26 s) (λ t. passes (lt (bridge_amount s) c0) (sym bridge_test ∙ is_true (lt s c0·24) t))
      (λ t. passes (lt c0 (dispersion_amount s)) (sym dispersion_test ∙ is_true (lt c0·26 s) t))
    where
      below : (z : Float) → T (lt z c0) → le z c0 ≡ true
      below z h = is_true (le z c0) (lt→le z c0 h)

      above : (z : Float) → T (lt c0 z) → le z c0 ≡ false
      above z h = not-true (le z c0) (is_true (not (le z c0)) (not_T (le z c0) (lt→not-le c0 z h)))

      go : (a b : Bool) → (T a → T (lt (bridge_amount s) c0)) → (T b → T (lt c0 (dispersion_amount s)))
          → cond (le (cond a (bridge_amount s) (cond b (dispersion_amount s) c0)) c0)
          (bridge (neg (cond a (bridge_amount s) (cond b (dispersion_amount s) c0))))
          (dispersion (cond a (bridge_amount s) (cond b (dispersion_amount s) c0)))
          ≡ cond a (bridge (neg (bridge_amount s))) (cond b (dispersion (dispersion_amount s)) (bridge (neg c0)))
      go true b f g = ap (λ (t : Bool). cond t (bridge (neg (bridge_amount s))) (dispersion (bridge_amount s))) (below (bridge_amount s) (f tt))
      go false true f g = ap (λ (t : Bool). cond t (bridge (neg (dispersion_amount s))) (dispersion (dispersion_amount s))) (above (dispersion_amount s) (g tt))
      go false false f g = unfold le of_bits in refl

  -- so the shape is chosen by structure, and a step draws a word where structure > 0.26 and only there
  pub chosen : non_linearity (amount s) ≡ cond (lt s c0·24) (CurvedBridge (neg (bridge_amount s)))
      (cond (lt c0·26 s) (Dispersion (dispersion_amount s)) (CurvedBridge (neg c0)))
  unfolding non_linearity
  chosen = choice CurvedBridge Dispersion

  pub step_words : words_of (non_linearity (amount s)) ≡ cond (lt c0·26 s) 1 0
  step_words = ap words_of chosen ∙ go (lt s c0·24) (lt c0·26 s)
      (λ t u. lt→not-le c0·26 s u (lt→le s c0·26 (lt_then_le s c0·24 c0·26 t (unfold le of_bits in tt))))
    where
      go : (a b : Bool) → (T a → T b → ⊥) → words_of (cond a (CurvedBridge (neg (bridge_amount s)))
          (cond b (Dispersion (dispersion_amount s)) (CurvedBridge (neg c0)))) ≡ cond b 1 0
      go true true f = absurd (f tt tt)
      go true false f = refl
      go false true f = refl
      go false false f = refl
