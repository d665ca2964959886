-- `string_voice::fill_noise` meets its contract, by the law of loops over frames: a word a frame, as far as the noise goes.
use mathlib.Core.Path.{ap}
use native.Mathlib.Omega.{arith}
use lib.Ieee.{nan}
use lib.ListN.{length-take}
use Rattle.ground.specs.Draw.{ret}
use Rattle.ground.proofs.Frames.{frames_begin, frames_turn, frames_then}
use Rattle.string_voice.specs.StringVoice.{burst}
use Rattle.string_voice.proofs.string_voice.fill_noise.Goals as goal

pub loop-i-init : goal.loop-i-init
loop-i-init c = frames_begin

pub loop-i-preserved : goal.loop-i-preserved
loop-i-preserved c = frames_turn nan nan c.loop-i.invariant (simp length-take (omega arith)) (rw (c.noise.ensures, c.get_word-w.ensures))

pub returns : goal.returns
unfolding burst
returns c = rw (← (ap (λ q. q.1) c.reset.ensures)) (frames_then (λ q. ret q.1) c.loop-i.invariant (simp length-take (omega arith)))
