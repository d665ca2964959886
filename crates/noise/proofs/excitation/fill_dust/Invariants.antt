-- `excitation::fill_dust` meets its contract, by the law of loops over frames: a word a frame.
use Rattle.ground.proofs.Frames.{Frames}
use Rattle.noise.specs.Excitation.{fill_step, dust_sample}
use Rattle.noise.proofs.excitation.fill_dust.Given as goal

abbrev pub invariant-loop-sample : goal.invariant-loop-sample
invariant-loop-sample l = Frames (fill_step (dust_sample l.f l.gain l.accent)) tt l.initial.temp l.initial.temp l.word l.sample-index tt l.temp l.w
