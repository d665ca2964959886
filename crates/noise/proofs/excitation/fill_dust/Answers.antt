-- `excitation::fill_dust` meets its contract, by the law of loops over frames: a word a frame.
use native.Mathlib.Omega.{arith}
use lib.Ieee.{nan}
use Rattle.ground.specs.Draw.{ret}
use Rattle.ground.proofs.Draw.{run_then}
use Rattle.ground.proofs.Frames.{frames_begin, frames_turn, frames_then}
use Rattle.noise.specs.Dust.{dust}
use Rattle.noise.specs.Excitation.{dust_sample, dusted}
use Rattle.noise.proofs.excitation.fill_dust.Goals as goal

pub loop-sample-init : goal.loop-sample-init
loop-sample-init c = frames_begin

pub loop-sample-preserved : goal.loop-sample-preserved
loop-sample-preserved c =
    let l = c.loop-sample in
    frames_turn nan nan l.invariant (omega arith) (run_then (dust_sample c.args.f c.args.gain c.args.accent) _ l.w
    (run_then (dust c.args.f) _ l.w c.dust-u.ensures))

pub returns : goal.returns
unfolding dusted
returns c = frames_then (λ q. ret q.1) c.loop-sample.invariant (omega arith)
