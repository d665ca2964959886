-- `string_voice::sound_frames` meets its contract: the loops that it joins, each by the law of loops over frames.
use mathlib.Core.Path.{refl, ◌∙◌, ap}
use mathlib.Core.List.{List}
use Prim.Native.Nat.{◌+◌, ◌≤◌, ◌<◌, min}
use native.Mathlib.Omega.{arith}
use lib.ListN.{length, get_or}
use lib.Ieee.{Float, nan}
use Rattle.ground.specs.F32.{◌⊕◌}
use Rattle.ground.specs.Draw.{counted}
use Rattle.ground.specs.Frames.{frames}
use Rattle.ground.proofs.Draw.{run_then}
use Rattle.ground.proofs.Frames.{frames_begin, frames_turn, frames_good, length_scan, scan_turn, scan_end}
use Rattle.ground.proofs.Lead.{lead_begin, lead_turn, lead_puts, lead_end}
use Rattle.utils.specs.Filter.{svf_step, svf_process_buffer}
use Rattle.noise.specs.SvfAhead.{svf_same}
use Rattle.noise.proofs.OneAhead.{ahead_compared_step, ahead_compared_end}
use Rattle.waveguide.specs.declared.string.String.{String}
use Rattle.waveguide.specs.String.{advance, frame}
use Rattle.waveguide.specs.Kept.{Good}
use Rattle.waveguide.proofs.Steps.{begun_ahead, begun_drawn, begun_good, begun_run, frame_good, words_to_few, words_turn, words_end}
use Rattle.string_voice.proofs.OneLoop.{filter_of, all_frames}
use Rattle.string_voice.proofs.string_voice.sound_frames.Goals as goal

pub loop-i-init : goal.loop-i-init
loop-i-init c =
    let a = c.args in
    let q = c.requires.2 in
    let e = c.begin-u.ensures in
    let h = c.first_compared-ahead.ensures in (
      lead_begin (ahead_compared_step filter_of svf_same a.f a.b.now.temp.now 0 h.0) (ahead_compared_end filter_of svf_same a.f a.b.now.temp.now 0 h.0),
      frames_begin,
      frames_begin,
      begun_ahead a.block.params a.s a.word _ e,
      begun_drawn a.block.params a.s a.word _ e,
      h.1,
      record {
        all = refl;
        temp2_size = q.temp2_is;
        out_size = q.out_is;
        aux_size = q.aux_is;
        filtered_size = length_scan svf_step a.f a.b.now.temp.now a.b.now.temp_2.now ∙ q.temp2_is;
        few = omega (arith, q.out_is, c.requires.1);
      },
    )

pub advance-u-requires : goal.advance-u-requires
advance-u-requires c =
    let a = c.args in
    let b = c.begin-u in
    let l = c.loop-i in (
      frames_good Good (frame_good a.block.shape a.block.params) (begun_good a.block.params a.s a.word _ b.ensures a.lines.now c.requires.0) l.invariant.2,
      l.invariant.3,
      omega (
        arith,
        l.invariant.4,
        words_to_few a.block.shape a.block.params b.result.string.src_phase l.i,
        l.invariant.2.within,
        l.invariant.6.few,
        l.invariant.6.out_size,
      ),
    )

pub loop-i-preserved : goal.loop-i-preserved
loop-i-preserved c =
    let a = c.args in
    let b = c.begin-u in
    let l = c.loop-i in
    let v = l.invariant in
    let z = v.6 in
    let xs = (svf_process_buffer a.f a.b.now.temp.now a.b.now.temp_2.now).1 in
    let lt : l.i < length a.b.now.temp.now = omega (arith, z.all, c.loop-i-test) in
    let within : l.i < min (length a.b.now.temp.now) (length a.b.now.temp_2.now) = omega (arith, z, lt) in
    let x = lead_puts nan v.0 within in
    let q = c.on_compared-ahead.ensures in
    let m = c.advance-u.ensures in
    let good = begun_good a.block.params a.s a.word _ b.ensures a.lines.now c.requires.0 in (
      lead_turn nan v.0 within (ahead_compared_step filter_of svf_same l.ahead.filter a.b.now.temp.now (l.i + 1) q.0)
          (ahead_compared_end filter_of svf_same l.ahead.filter a.b.now.temp.now (l.i + 1) q.0),
      scan_turn nan nan v.1 (omega (arith, z, lt)) (ap (λ (x : Float). (tt, get_or l.aux l.i nan ⊕ x)) x),
      frames_turn nan nan v.2 (omega (arith, z, lt)) (rw (← x, c.mix.ensures)
          (run_then (advance a.block.shape a.block.params _ (l.u.string, l.lines)) _ l.u.word m.0)),
      m.1,
      words_turn a.block.shape a.block.params (b.result.string, a.lines.now) xs a.b.now.out.now b.result.word good l.i l.u.drawn _ v.2 (omega (arith, z, lt))
          v.4 m.2,
      q.1,
      z,
    )

pub returns-clause-all : goal.returns-clause-all
returns-clause-all c =
    let a = c.args in
    let b = c.begin-u in
    let l = c.loop-i in
    let v = l.invariant in
    let z = v.6 in
    let xs = (svf_process_buffer a.f a.b.now.temp.now a.b.now.temp_2.now).1 in
    let good = begun_good a.block.params a.s a.word _ b.ensures a.lines.now c.requires.0 in
    let past : length a.b.now.temp.now ≤ l.i = omega (arith, z.all, c.loop-i-test) in
    all_frames a.block.shape a.block.params a.f (a.s, a.lines.now) a.b.now.temp.now a.b.now.temp_2.now a.b.now.out.now a.b.now.aux.now a.word
    (lead_end v.0 past)
    (ap (λ (q : Unit {0} × List Float). q.1) (scan_end v.1 (omega (arith, z, c.loop-i-test))))
    (begun_run a.block.params a.s a.word b.result b.ensures (λ (t : String). counted
    (frames (frame a.block.shape a.block.params) (t, a.lines.now) xs a.b.now.out.now))
    (words_end a.block.shape a.block.params (b.result.string, a.lines.now) xs a.b.now.out.now b.result.word good l.i l.u.drawn v.2
    (omega (arith, z, c.loop-i-test)) v.4))
