-- `modal_voice::ModalVoice::render_in_one` meets its contract: one loop is its two halves in order.
use Rattle.modes.proofs.OnePass.{mapped_length}
use Rattle.modal_voice.proofs.Halves.{together}
use borrow.Author.Rules.{rules}
use Rattle.modal_voice.proofs.modal_voice.ModalVoice.render_in_one.Goals as goal

pub returns : goal.returns
returns c =
    let a = c.args in
    let b = a.b.now in
    let f = c.frames_at.ensures in
    record {
      all = rw f.temp
          (together a.k a.self b.temp.now b.temp_2.now b.out.now b.aux.now a.word (search (mapped_length, rules, c)) c.cutoff_for-cutoff.ensures
          c.low_pass-filter.ensures c.held_after-held.ensures c.fill_excitation-drawn.ensures
          c.raise-brightness.ensures c.raise-damping.ensures c.modes_for-modes.ensures f.filtered f.mixed f.passed c.counts_of-counts.ensures);
      same = record { temp = f.same.temp; temp2 = f.same.temp2; out = f.same.out; aux = f.same.aux };
    }
