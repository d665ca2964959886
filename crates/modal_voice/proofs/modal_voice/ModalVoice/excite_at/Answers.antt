-- `modal_voice::ModalVoice::excite_at` meets its contract, by the law that puts its calls together.
use Rattle.modal_voice.proofs.Halves.{excited}
use Rattle.modal_voice.proofs.modal_voice.ModalVoice.excite_at.Goals as goal

pub returns : goal.returns
returns c =
    let a = c.args in
    excited a.k a.self a.temp.now a.temp_2.now a.aux.now a.word c.cutoff_for-cutoff.ensures c.low_pass.ensures c.held_after-held.ensures
    c.fill_excitation-drawn.ensures c.filter_frames-filtered.ensures c.add_into.ensures c.counts_of-counts.ensures
