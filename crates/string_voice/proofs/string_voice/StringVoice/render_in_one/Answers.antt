-- `string_voice::StringVoice::render_in_one` meets its contract: one loop is its two halves in order.
use native.Mathlib.Omega.{arith}
use lib.ListN.{length}
use Rattle.waveguide.proofs.Blocks.{prepared_good}
use Rattle.string_voice.proofs.Halves.{struck_good}
use Rattle.string_voice.proofs.OneLoop.{together}
use Rattle.string_voice.proofs.string_voice.StringVoice.render_in_one.Goals as goal

pub sound_frames-word-requires : goal.sound_frames-word-requires
sound_frames-word-requires c =
    let a = c.args in
    let q = c.requires.2 in
    let v = c.strike-struck in (
      prepared_good c.non_linearity-shape.result a.k.f0 c.raise-bright.result c.raise-damped.result (length a.b.now.out.now) v.result.string a.lines.now _
          c.prepare-p.ensures
          (struck_good a.k a.self v.result a.lines.now v.ensures c.requires.0),
      c.requires.1,
      record { temp2_is = omega (arith, q.temp2_is); out_is = omega (arith, q.out_is); aux_is = omega (arith, q.aux_is) },
    )

pub returns : goal.returns
returns c =
    let a = c.args in
    let v = c.strike-struck in
    let f = c.sound_frames-word.ensures in
    record {
      all = rw f.temp (together a.k a.self v.result a.lines.now a.b.now.temp.now a.b.now.temp_2.now a.b.now.out.now a.b.now.aux.now a.word v.ensures
          c.noise_left-left_after.ensures c.counts_of-e.ensures c.fill_excitation-excited.ensures c.amount_for-amount.ensures c.non_linearity-shape.ensures
          c.raise-bright.ensures c.raise-damped.ensures c.prepare-p.ensures f.all);
      same = record { temp = f.same.temp; temp2 = f.same.temp2; out = f.same.out; aux = f.same.aux };
    }
