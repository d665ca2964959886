-- units.rs. Assumes nothing.
use Rattle.std.specs.Prelude.{ℕ, Float}
use Rattle.resources.specs.Table.{entry}
use Rattle.resources.specs.Pitch.{pitch_ratio_high, pitch_ratio_low}
use Rattle.ground.specs.F32.{◌⊕◌, ◌⊗◌, c128, c256}
use Rattle.ground.specs.Floats.{whole_part, fraction_of}

-- the indices that semitones_to_ratio reads at: of a negative pitch both are 0
unfoldable pub high_index : Float → ℕ
high_index semitones = whole_part (semitones ⊕ c128)

unfoldable pub low_index : Float → ℕ
low_index semitones = whole_part (fraction_of (semitones ⊕ c128) ⊗ c256)

-- semitones_to_ratio
unfoldable pub semitones_to_ratio : Float → Float
semitones_to_ratio semitones = entry pitch_ratio_high (high_index semitones) ⊗ entry pitch_ratio_low (low_index semitones)
