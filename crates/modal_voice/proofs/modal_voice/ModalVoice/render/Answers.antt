-- `modal_voice::ModalVoice::render` meets its contract: it is its two halves in order.
use Rattle.modal_voice.proofs.Halves.{rendered}
use Rattle.modal_voice.proofs.modal_voice.ModalVoice.render.Goals as goal

pub returns-else-k-clause-all : goal.returns-else-k-clause-all
returns-else-k-clause-all c =
    let a = c.args in
    let b = a.b.now in
    rendered a.k a.self b.temp.now b.temp_2.now b.out.now b.aux.now a.word c.excite_at-e.ensures c.sound-voice.ensures
