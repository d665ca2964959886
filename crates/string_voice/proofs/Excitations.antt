-- How many words an excitation draws, whatever they are, and that it is silent behind them. Assumes nothing.
use mathlib.Core.Path.{◌≡◌, refl, ap, ◌∙◌}
use mathlib.Core.Bool.{Bool, true, false}
use mathlib.Core.List.{List, [], ◌∷◌}
use Prim.Native.Nat.{ℕ, zero, suc, ◌+◌, ◌≤◌, min}
use native.Mathlib.Nat.{le_of_suc-le-suc, not-suc-le-zero}
use native.Mathlib.Omega.{arith}
use lib.ListN.{length, get_or, take, length-take, length-replicate}
use lib.Ieee.{Float, nan}
use Rattle.std.proofs.lemmas.List.{get_or-replicate}
use Rattle.ground.specs.Draw.{run}
use Rattle.ground.specs.F32.{c0}
use Rattle.ground.specs.Frames.{frames}
use Rattle.ground.proofs.Draw.{Draws, draws_then, draws_always, Always, always_run, always_bind}
use Rattle.ground.proofs.Frames.{Any, frames_draws_each}
use Rattle.noise.specs.declared.excitation.Knobs.{Knobs}
use Rattle.noise.specs.declared.excitation.Counts.{Counts}
use Rattle.noise.specs.Excitation.{dust_frequency, fill_step, silence}
use Rattle.noise.specs.Settling.{SilentFrom}
use Rattle.noise.proofs.Drawn.{dusted_draws}
use Rattle.string_voice.specs.StringVoice.{drawn_noise, burst, excitation, excitation_words, excitation_counts}

burst_draws : (m n : ℕ) (temp : List Float) → length temp ≡ n → m ≤ n → Draws m (λ t. length t ≡ n) (burst m temp)
unfolding burst
burst_draws m n temp e l =
    let quiet = silence temp in
    draws_then m (λ q. Any q.0 × (length q.1 ≡ length quiet)) (λ t. length t ≡ n) (frames (fill_step drawn_noise) tt (take m temp) quiet) _
    (frames_draws_each (fill_step drawn_noise) Any (λ s x y h. (0, refl, λ w. (refl, tt))) m tt (take m temp) quiet
    (simp (length-take, length-replicate) (omega arith)) tt)
    (λ q p. p.1 ∙ length-replicate (length temp) c0 ∙ e)

pub excitation_draws : (sustain : Bool) (k : Knobs) (left n : ℕ) (temp : List Float) → length temp ≡ n
    → Draws (excitation_words sustain left n) (λ t. length t ≡ n) (excitation sustain k left temp)
unfolding excitation
excitation_draws true k left n temp e = dusted_draws (dust_frequency k.brightness) _ k.accent n temp e
excitation_draws false k left n temp e = rw e (burst_draws (min left n) n temp e (omega arith))

-- ---- behind the noise stands what stood there
noise_beyond : (xs ys : List Float) (k : ℕ) → length xs ≤ k → Always (λ q. get_or q.1 k nan ≡ get_or ys k nan) (frames (fill_step drawn_noise) tt xs ys)
unfolding frames
noise_beyond [] ys k l = refl
noise_beyond (x ∷ xs) [] k l = refl
noise_beyond (x ∷ xs) (y ∷ ys) zero l = absurd (not-suc-le-zero l)
noise_beyond (x ∷ xs) (y ∷ ys) (suc k) l =
    λ w. always_bind (λ q. get_or q.1 k nan ≡ get_or ys k nan) _ (frames (fill_step drawn_noise) tt xs ys) _ (noise_beyond xs ys k (le_of_suc-le-suc l))
    (λ q p. p)

burst_beyond : (m k : ℕ) (temp : List Float) → m ≤ k → Always (λ t. get_or t k nan ≡ get_or (silence temp) k nan) (burst m temp)
unfolding burst
burst_beyond m k temp l =
    let quiet = silence temp in
    always_bind (λ q. get_or q.1 k nan ≡ get_or quiet k nan) _ (frames (fill_step drawn_noise) tt (take m temp) quiet) _
    (noise_beyond (take m temp) quiet k (simp length-take (omega arith))) (λ q p. p)

pub excitation_silent : (sustain : Bool) (k : Knobs) (left : ℕ) (temp : List Float) (word : ℕ) {t : List Float} {w : ℕ}
    → run (excitation sustain k left temp) word ≡ record { value = t; word = w } → SilentFrom (excitation_words sustain left (length temp)) t
unfolding excitation
excitation_silent sustain k left temp word {t} e =
    go sustain e (always_run (λ t. length t ≡ length temp) (excitation sustain k left temp) word
    (draws_always _ _ _ (excitation_draws sustain k left (length temp) temp refl)) e)
  where
    go : (sustain : Bool) {w : ℕ} → run (excitation sustain k left temp) word ≡ record { value = t; word = w } → length t ≡ length temp
        → SilentFrom (excitation_words sustain left (length temp)) t
    go true e n = λ i l h. absurd (omega arith)
    go false e n =
        λ i l h. always_run (λ t. get_or t i nan ≡ get_or (silence temp) i nan) (burst (min left (length temp)) temp) word
        (burst_beyond (min left (length temp)) i temp l) e
        ∙ get_or-replicate (length temp) i c0 nan (omega arith)

-- the words of an excitation by its counts
pub counted_words : (sustain : Bool) (n : ℕ) {c : Counts} → c ≡ excitation_counts sustain n → n ≡ c.burst + c.dust
counted_words true n {c} e = let p : c.burst + c.dust ≡ 0 + n = ap (λ (c : Counts). c.burst + c.dust) e in omega (arith, p)
counted_words false n {c} e = let p : c.burst + c.dust ≡ n + 0 = ap (λ (c : Counts). c.burst + c.dust) e in omega (arith, p)
