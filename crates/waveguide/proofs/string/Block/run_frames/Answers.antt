-- `string::Block::run_frames` meets its contract, by the law of loops over frames.
use native.Mathlib.Omega.{arith}
use lib.Ieee.{nan}
use Rattle.ground.specs.Draw.{counted}
use Rattle.ground.specs.Frames.{frames}
use Rattle.ground.proofs.Draw.{run_then}
use Rattle.ground.proofs.Frames.{frames_begin, frames_turn, frames_good}
use Rattle.waveguide.specs.declared.string.String.{String}
use Rattle.waveguide.specs.String.{advance, frame}
use Rattle.waveguide.specs.Kept.{Good}
use Rattle.waveguide.proofs.Steps.{begun_ahead, begun_drawn, begun_good, begun_run, frame_good, words_to_few, words_turn, words_end}
use Rattle.waveguide.proofs.string.Block.run_frames.Goals as goal

pub loop-i-init : goal.loop-i-init
loop-i-init c =
    let a = c.args in
    let p = a.self.params in
    let e = c.begin-u.ensures in
    (frames_begin, begun_ahead p a.s a.word _ e, begun_drawn p a.s a.word _ e)

pub advance-u-requires : goal.advance-u-requires
advance-u-requires c =
    let a = c.args in
    let p = a.self.params in
    let b = c.begin-u in
    let l = c.loop-i in (
      frames_good Good (frame_good a.self.shape p) (begun_good p a.s a.word _ b.ensures a.lines.now c.requires.0) l.invariant.0,
      l.invariant.1,
      omega (arith, l.invariant.2, words_to_few a.self.shape p b.result.string.src_phase l.i, l.invariant.0.within, c.requires.1),
    )

pub loop-i-preserved : goal.loop-i-preserved
loop-i-preserved c =
    let a = c.args in
    let p = a.self.params in
    let b = c.begin-u in
    let l = c.loop-i in
    let m = c.advance-u.ensures in (
      frames_turn nan nan l.invariant.0 (omega (arith, c.loop-i-test, c.min-i-end.ensures))
          (rw c.mix.ensures (run_then (advance a.self.shape p _ (l.u.string, l.lines)) _ l.u.word m.0)),
      m.1,
      words_turn a.self.shape p (b.result.string, a.lines.now) a.in_.now a.out.now b.result.word (begun_good p a.s a.word _ b.ensures a.lines.now c.requires.0)
          l.i l.u.drawn _ l.invariant.0 (omega (arith, l.invariant.0.within)) l.invariant.2 m.2,
    )

pub returns : goal.returns
returns c =
    let a = c.args in
    let p = a.self.params in
    let b = c.begin-u in
    let l = c.loop-i in
    begun_run p a.s a.word b.result b.ensures (λ (t : String). counted (frames (frame a.self.shape p) (t, a.lines.now) a.in_.now a.out.now))
    (words_end a.self.shape p (b.result.string, a.lines.now) a.in_.now a.out.now b.result.word (begun_good p a.s a.word _ b.ensures a.lines.now c.requires.0)
    l.i l.u.drawn l.invariant.0 (omega arith) l.invariant.2)
