-- How many words an excitation draws, whatever they are. Assumes nothing.
use mathlib.Core.Path.{◌≡◌, refl, ◌∙◌}
use mathlib.Core.Bool.{Bool, true, false, ◌||◌, cond}
use mathlib.Core.List.{List}
use Prim.Native.Nat.{ℕ}
use lib.ListN.{length, length-set, length-replicate}
use lib.Ieee.{Float}
use Rattle.ground.specs.F32.{c0}
use Rattle.ground.proofs.Draw.{Draws}
use Rattle.noise.specs.declared.excitation.Knobs.{Knobs}
use Rattle.noise.specs.Excitation.{dust_frequency, silence}
use Rattle.noise.proofs.Drawn.{dusted_draws}
use Rattle.modal_voice.specs.ModalVoice.{clicked, excitation, excitation_words}

either : (b : Bool) (xs ys : List Float) (n : ℕ) → length xs ≡ n → length ys ≡ n → length (cond b xs ys) ≡ n
either true xs ys n e f = e
either false xs ys n e f = f

clicked_length : (k : Knobs) (held : Bool) (cutoff : Float) (temp : List Float) → length (clicked k held cutoff temp) ≡ length temp
unfolding clicked
clicked_length k held cutoff temp =
    let e = length-replicate (length temp) c0 in
    either (k.trigger || held) _ (silence temp) (length temp) (length-set (silence temp) 0 _ ∙ e) e

pub excitation_draws : (sustain : Bool) (k : Knobs) (held : Bool) (cutoff : Float) (n : ℕ) (temp : List Float) → length temp ≡ n
    → Draws (excitation_words sustain n) (λ t. length t ≡ n) (excitation sustain k held cutoff temp)
unfolding excitation
excitation_draws true k held cutoff n temp e = dusted_draws (dust_frequency k.brightness) _ k.accent n temp e
excitation_draws false k held cutoff n temp e = (refl, clicked_length k held cutoff temp ∙ e)
