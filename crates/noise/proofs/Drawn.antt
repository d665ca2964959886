-- How many words dust draws: one, whatever it is. Assumes nothing.
use mathlib.Core.Path.{◌≡◌, refl, ◌∙◌}
use mathlib.Core.List.{List}
use Prim.Native.Nat.{ℕ}
use native.Mathlib.Omega.{arith}
use lib.ListN.{length}
use lib.Ieee.{Float}
use Rattle.ground.specs.Frames.{frames}
use Rattle.ground.proofs.Draw.{Draws, draws_then}
use Rattle.ground.proofs.Frames.{Any, frames_draws_each}
use Rattle.noise.specs.Dust.{dust}
use Rattle.noise.specs.Excitation.{fill_step, dust_sample, dusted}

pub dust_draws : (frequency : Float) → Draws 1 Any (dust frequency)
unfolding dust
dust_draws frequency = (0, refl, λ w. (refl, tt))

-- and a buffer of it a word a frame
pub dusted_draws : (f gain accent : Float) (n : ℕ) (temp : List Float) → length temp ≡ n → Draws n (λ t. length t ≡ n) (dusted f gain accent temp)
unfolding dusted dust
dusted_draws f gain accent n temp e =
    draws_then n (λ q. Any q.0 × (length q.1 ≡ length temp)) (λ t. length t ≡ n) (frames (fill_step (dust_sample f gain accent)) tt temp temp) _
    (frames_draws_each (fill_step (dust_sample f gain accent)) Any (λ s x y h. (0, refl, λ w. (refl, tt))) n tt temp temp (omega arith) tt) (λ q p. p.1 ∙ e)
