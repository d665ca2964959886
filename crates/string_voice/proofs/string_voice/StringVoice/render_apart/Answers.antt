-- `string_voice::StringVoice::render_apart` meets its contract: its two halves in order.
use mathlib.Core.Path.{refl}
use Rattle.string_voice.proofs.Halves.{excited_string, rendered}
use Rattle.string_voice.proofs.string_voice.StringVoice.render_apart.Goals as goal

pub sound-s-requires : goal.sound-s-requires
sound-s-requires c =
    let a = c.args in
    let b = a.b.now in
    (rw (excited_string a.k a.self b.temp.now b.temp_2.now b.aux.now a.word c.excite-e.ensures) c.requires.0, c.requires.1)

pub returns : goal.returns
returns c =
    let a = c.args in
    let b = a.b.now in
    record {
      all = rendered a.k a.self a.lines.now b.temp.now b.temp_2.now b.out.now b.aux.now a.word c.excite-e.ensures c.sound-s.ensures;
      same = record { temp = refl; temp2 = refl; out = refl; aux = refl };
    }
