-- `string_voice::sound_frames` meets its contract: the loops that it joins, each by the law of loops over frames.
use mathlib.Core.Path.{◌≡◌}
use lib.ListN.{length, get_or}
use lib.Ieee.{nan}
use Rattle.ground.proofs.Frames.{Scan, Frames}
use Rattle.ground.proofs.Lead.{Lead}
use Rattle.utils.specs.Filter.{svf_process_buffer}
use Rattle.noise.specs.Ahead.{Stays}
use Rattle.noise.specs.SvfAhead.{svf_same}
use Rattle.noise.specs.Excitation.{add_step}
use Rattle.waveguide.specs.String.{frame}
use Rattle.waveguide.specs.Underway.{Ahead}
use Rattle.waveguide.proofs.Steps.{words_to}
use Rattle.string_voice.proofs.OneLoop.{Block, filter_of}
use Rattle.string_voice.proofs.string_voice.sound_frames.Given as goal

abbrev pub invariant-loop-i : goal.invariant-loop-i
invariant-loop-i l =
    let b = l.block in
    let xs = (svf_process_buffer l.fn.f l.temp l.initial.temp_2).1 in
    Lead filter_of nan l.fn.f l.temp l.initial.temp_2 l.i l.temp_2 (l.ahead.filter, l.ahead.out)
    × Scan add_step tt xs l.initial.aux l.i tt l.aux
    × Frames (frame b.shape b.params) (l.initial.u.string, l.initial.lines) xs l.initial.out l.initial.u.word l.i (l.u.string, l.lines) l.out l.u.word
    × Ahead b.params l.u
    × (l.u.drawn ≡ words_to b.shape b.params l.initial.u.string.src_phase l.i)
    × Stays filter_of svf_same l.ahead (get_or l.temp l.i nan)
    × Block l.temp l.initial.temp_2 l.initial.out l.initial.aux xs (length l.temp)
