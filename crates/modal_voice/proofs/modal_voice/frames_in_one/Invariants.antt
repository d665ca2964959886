-- `modal_voice::frames_in_one` meets its contract: the loops that it joins, each by the law of loops over frames.
use Rattle.modal_voice.proofs.OneLoop.{UnderwayCompared}
use Rattle.modal_voice.proofs.modal_voice.frames_in_one.Given as goal

abbrev pub invariant-loop-i : goal.invariant-loop-i
invariant-loop-i g l =
    UnderwayCompared l.fn.filter l.m l.initial.states l.temp l.initial.temp_2 l.initial.out l.initial.aux l.i l.temp_2 l.out l.aux l.states l.ahead
