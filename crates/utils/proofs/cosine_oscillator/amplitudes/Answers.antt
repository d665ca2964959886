-- `cosine_oscillator::amplitudes` meets its contract, by the law of loops over frames, at an array.
use mathlib.Core.Path.{ap, ◌∙◌}
use native.Mathlib.Omega.{arith}
use lib.Ieee.{Float, nan}
use lib.ListN.{replicate}
use Rattle.ground.specs.F32.{◌⊗◌, c0, c0·25}
use Rattle.utils.specs.declared.cosine_oscillator.CosineOscillator.{CosineOscillator}
use Rattle.utils.specs.Amplitudes.{amplitude_step, amplitudes_of}
use Rattle.ground.specs.Frames.{scan}
use Rattle.ground.proofs.Frames.{frames_begin, scan_turn, scan_end}
use Rattle.utils.proofs.cosine_oscillator.amplitudes.Goals as goal

pub loop-amplitude-init : goal.loop-amplitude-init
loop-amplitude-init c = frames_begin

pub loop-amplitude-preserved : goal.loop-amplitude-preserved
loop-amplitude-preserved c = scan_turn nan nan c.loop-amplitude.invariant (omega arith)
    (ap (λ (o : CosineOscillator × Float). (o.0, o.1 ⊗ c0·25)) c.next-out.ensures)

pub returns : goal.returns
unfolding amplitudes_of
returns c =
    ap (λ q. q.1) (scan_end c.loop-amplitude.invariant (omega arith))
    ∙ ap (λ (o : CosineOscillator). (scan amplitude_step o (replicate 24 c0) (replicate 24 c0)).1) c.init-oscillator.ensures
