-- `cosine_oscillator::amplitudes` meets its contract, by the law of loops over frames, at an array.
use Rattle.utils.specs.Amplitudes.{amplitude_step}
use Rattle.ground.proofs.Frames.{Scan}
use Rattle.utils.proofs.cosine_oscillator.amplitudes.Given as goal

abbrev pub invariant-loop-amplitude : goal.invariant-loop-amplitude
invariant-loop-amplitude l = Scan amplitude_step l.initial.oscillator l.initial.amplitude-items l.initial.amplitude-items l.amplitude-index l.oscillator
    l.amplitude-items
