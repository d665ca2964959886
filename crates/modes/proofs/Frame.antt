-- What the loops over the modes store, as laws over plain values. Assumes nothing.
use mathlib.Core.Path.{◌≡◌, ◌∙◌, ap, ap₂, subst}
use mathlib.Core.List.{List}
use Prim.Native.Nat.{ℕ}
use lib.ListN.{get_or, length}
use lib.Ieee.{Float, nan}
use Rattle.ground.specs.F32.{◌⊕◌, ◌⊖◌, ◌⊗◌, c1, c2}
use Rattle.ground.specs.Frames.{tab}
use Rattle.ground.proofs.Tab.{tab_get_d}
use Rattle.modes.specs.declared.resonator.Partial.{Partial}
use Rattle.modes.specs.declared.resonator.States.{States}
use Rattle.modes.specs.Resonator.{cap_of, frequency, resonance, amplitude}

-- what the loop over the modes stores at a mode, where it stands at p as at p'
module _ {p p' : Partial} {v : Float} (e : v ≡ cap_of (p.harmonic ⊗ p.stretch_factor)) (s : p ≡ p') where
  pub stored_f : v ≡ frequency p'
  unfolding frequency
  stored_f = e ∙ ap (λ (z : Partial). cap_of (z.harmonic ⊗ z.stretch_factor)) s

  pub stored_q : c1 ⊕ v ⊗ p.q ≡ resonance p'
  unfolding resonance
  stored_q = ap₂ (λ (f : Float) (z : Partial). c1 ⊕ f ⊗ z.q) stored_f s

  pub stored_a : (a : Float) → a ⊗ (c1 ⊖ v ⊗ c2) ≡ amplitude a p'
  unfolding amplitude
  stored_a a = ap (λ (f : Float). a ⊗ (c1 ⊖ f ⊗ c2)) stored_f

-- all 24 modes have states
abbrev pub FullStates : States → Type 0
FullStates s = (length s.state_1 ≡ 24) × (length s.state_2 ≡ 24)

-- what holds of states that are written out holds of all
abbrev pub states_tab : (ℕ → Float) → (ℕ → Float) → States
states_tab f g = record { state_1 = tab 24 f; state_2 = tab 24 g }

pub states_written : (P : States → Type 0) → ((f g : ℕ → Float) → P (states_tab f g)) → (s : States) → FullStates s → P s
states_written P h s z =
    subst (λ (a : List Float). P (record { state_1 = a; state_2 = s.state_2 })) (tab_get_d s.state_1 24 nan z.0)
    (subst (λ (b : List Float). P (record { state_1 = tab 24 (λ t. get_or s.state_1 t nan); state_2 = b })) (tab_get_d s.state_2 24 nan z.1)
    (h (λ t. get_or s.state_1 t nan) (λ t. get_or s.state_2 t nan)))
