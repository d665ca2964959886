-- `units::semitones_to_ratio` meets its contract: one cut gives both indices.
use Rattle.utils.specs.Units.{high_index, low_index, semitones_to_ratio}
use Rattle.utils.proofs.Pitches.{pitch_indices}
use Rattle.utils.proofs.units.semitones_to_ratio.Goals as goal

pub returns-then-pitch-2 : goal.returns-then-pitch-2
unfolding semitones_to_ratio high_index low_index
returns-then-pitch-2 c =
    let k = pitch_indices c.args.semitones c.if-pitch.true c.if-pitch-2.true in
    rw (c.lut_pitch_ratio_high.ensures, c.lut_pitch_ratio_low.ensures, c.cut-c.ensures.whole, k.high, k.low)
