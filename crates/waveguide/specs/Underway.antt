-- What a string has at hand within its loop, so that a step need not wait for it: the next step's noise, and a guess at its delay. Assumes nothing.
use Rattle.std.specs.Prelude.{◌≡◌, cond, ℕ, Float}
use Rattle.std.specs.Float.Ieee.{lt}
use Rattle.ground.specs.F32.{◌⊕◌, ◌⊖◌, c0·5, c1}
use Rattle.ground.specs.Draw.{value}
use Rattle.ground.specs.Random.{get_word, get_float}
use Rattle.ground.specs.Floats.{whole_part}
use Rattle.utils.specs.Utils.{one_pole}
use Rattle.waveguide.specs.declared.string.StringNonLinearity.{StringNonLinearity}
use Rattle.waveguide.specs.declared.string.StringNonLinearity.TheVariants.{CurvedBridge, Dispersion}
use Rattle.waveguide.specs.declared.string.String.{String}
use Rattle.waveguide.specs.declared.string.Params.{Params}
use Rattle.waveguide.specs.declared.string.Underway.{Underway}
use Rattle.waveguide.specs.String.{bend}

-- the dispersion noise after the word that is drawn next, and a string that has it at hand
unfoldable pub noise_after : Params → Float → ℕ → Float
noise_after p noise w = one_pole noise (get_float (get_word w) ⊖ c0·5) p.noise_filter

abbrev pub Ahead : Params → Underway → Type 0
Ahead p v = v.next_noise ≡ noise_after p v.string.dispersion_noise v.word

-- a guess at the next delay's whole part: the bridge's is this step's, the dispersion makes none. It moves no number, only the time that a step takes.
unfoldable pub guess_of : StringNonLinearity → Float → ℕ
guess_of (CurvedBridge a) delay = whole_part delay
guess_of (Dispersion a) delay = 0

abbrev pub guess_after : StringNonLinearity → Params → Underway → ℕ
guess_after shape p v =
    let t = v.string in
    guess_of shape (value (bend shape p (t.delay ⊕ p.increment) t.dispersion_noise t.curved_bridge) v.word).0

abbrev pub guess_at : StringNonLinearity → Params → Underway → ℕ
guess_at shape p v = cond (lt c1 (v.string.src_phase ⊕ p.src_ratio)) (guess_after shape p v) v.guess

-- a string as its loop begins
unfoldable pub begin : Params → String → ℕ → Underway
begin p s word =
    record {
      string = s;
      word = word;
      next_noise = noise_after p s.dispersion_noise word;
      guess = whole_part s.delay;
      drawn = 0;
    }
