-- `string_voice::fill_noise` meets its contract, by the law of loops over frames: a word a frame, as far as the noise goes.
use lib.ListN.{take}
use Rattle.ground.proofs.Frames.{Frames}
use Rattle.noise.specs.Excitation.{fill_step}
use Rattle.string_voice.specs.StringVoice.{drawn_noise}
use Rattle.string_voice.proofs.string_voice.fill_noise.Given as goal

abbrev pub invariant-loop-i : goal.invariant-loop-i
invariant-loop-i l = Frames (fill_step drawn_noise) tt (take l.m l.fn.temp) l.initial.temp l.word l.i tt l.temp l.w
