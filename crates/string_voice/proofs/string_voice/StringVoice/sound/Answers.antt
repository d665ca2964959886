-- `string_voice::StringVoice::sound` meets its contract.
use Rattle.string_voice.proofs.Halves.{sounded}
use Rattle.string_voice.proofs.string_voice.StringVoice.sound.Goals as goal

pub returns : goal.returns
returns c =
    let a = c.args in
    sounded a.k a.self a.lines.now a.temp_2.now a.out.now a.word c.amount_for.ensures c.non_linearity-shape.ensures c.raise-brightness.ensures
    c.raise-damping.ensures
    c.process-word.ensures
