-- `string_voice::StringVoice::excite` meets its contract, by the law that puts its calls together.
use mathlib.Core.Path.{subst}
use Prim.Native.Nat.{ℕ}
use lib.ListN.{length}
use Rattle.noise.specs.Settling.{SilentFrom}
use Rattle.string_voice.specs.StringVoice.{excitation_words}
use Rattle.string_voice.proofs.Halves.{excited}
use Rattle.string_voice.proofs.Excitations.{excitation_silent, counted_words}
use Rattle.string_voice.proofs.string_voice.StringVoice.excite.Goals as goal

pub settle-excitation_filter-requires : goal.settle-excitation_filter-requires
settle-excitation_filter-requires c =
    let a = c.args in
    let left = c.strike-struck.result.remaining_noise_samples in
    subst (λ (n : ℕ). SilentFrom n c.fill_excitation-drawn.new.temp)
    (counted_words a.k.sustain (excitation_words a.k.sustain left (length a.temp.now)) c.counts_of-counts.ensures)
    (excitation_silent a.k.sustain a.k left a.temp.now a.word c.fill_excitation-drawn.ensures)

pub returns : goal.returns
returns c =
    let a = c.args in
    let s = c.strike-struck in
    excited a.k a.self s.result a.temp.now a.temp_2.now a.aux.now a.word s.ensures c.noise_left-left.ensures c.fill_excitation-drawn.ensures
    c.settle-excitation_filter.ensures c.add_into.ensures c.counts_of-counts.ensures
