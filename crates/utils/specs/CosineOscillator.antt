-- cosine_oscillator.rs at the approximate mode. Assumes nothing.
use Rattle.std.specs.Prelude.{cond, Float}
use Rattle.std.specs.Float.Ieee.{neg, lt}
use Rattle.utils.specs.declared.cosine_oscillator.CosineOscillator.{CosineOscillator}
use Rattle.ground.specs.F32.{◌⊕◌, ◌⊖◌, ◌⊗◌, c0, c0·25, c0·5, c1, c2, c16}

-- the end of init_approximate: the coefficient of a sign and a frequency
unfoldable pub with_coefficient : CosineOscillator → Float → Float → CosineOscillator
with_coefficient o sign f =
    let k = sign ⊗ f ⊗ (c1 ⊖ c2 ⊗ f) in
    record o { iir_coefficient = k; initial_amplitude = k ⊗ c0·25 }

-- init_approximate
unfoldable pub init_approximate : CosineOscillator → Float → CosineOscillator
init_approximate o frequency =
    let f = frequency ⊖ c0·25 in
    cond (lt f c0) (with_coefficient o c16 (neg f)) (cond (lt c0·5 f) (with_coefficient o c16 (f ⊖ c0·5)) (with_coefficient o (neg c16) f))

-- start
unfoldable pub osc_start : CosineOscillator → CosineOscillator
osc_start o = record o { y1 = o.initial_amplitude; y0 = c0·5 }

-- new, then init(frequency, Approximate)
unfoldable pub osc_init : Float → CosineOscillator
osc_init frequency = osc_start (init_approximate (record { y1 = c0; y0 = c0; iir_coefficient = c0; initial_amplitude = c0 }) frequency)

-- next
unfoldable pub osc_next : CosineOscillator → CosineOscillator × Float
osc_next o = (record o { y1 = o.y0; y0 = o.iir_coefficient ⊗ o.y0 ⊖ o.y1 }, o.y0 ⊕ c0·5)
