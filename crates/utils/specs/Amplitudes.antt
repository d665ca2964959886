-- The amplitudes that Resonator::init makes with the oscillator: one a mode, 24 of them. Assumes nothing.
use Rattle.std.specs.Prelude.{List, replicate, Float}
use Rattle.utils.specs.declared.cosine_oscillator.CosineOscillator.{CosineOscillator}
use Rattle.ground.specs.F32.{◌⊗◌, c0, c0·25}
use Rattle.ground.specs.Frames.{scan}
use Rattle.utils.specs.CosineOscillator.{osc_init, osc_next}

abbrev pub amplitude_step : CosineOscillator → Float → Float → CosineOscillator × Float
amplitude_step o x y = let n = osc_next o in (n.0, n.1 ⊗ c0·25)

unfoldable pub amplitudes_of : Float → List Float
amplitudes_of position = (scan amplitude_step (osc_init position) (replicate 24 c0) (replicate 24 c0)).1
