-- The values that 01, 'Values to reach', marks and that concern the functions of this crate, each by computation. `fin s m e` is m * 2 ^ e, negative
-- where s is true, and `negsuc k` is -(k + 1). Assumes nothing.
use Rattle.std.specs.Prelude.{◌≡◌, refl, true, false, List, [], ◌∷◌, map, ℕ, replicate, pos, negsuc, Float}
use Rattle.std.specs.Float.{nan, fin}
use Rattle.std.specs.Float.Ieee.{of_bits, of_int, add, sub, mul, div, neg, lt, le, to_unsigned}
use Rattle.resources.specs.Stiffness.{stiffness}
use Rattle.resources.specs.Pitch.{pitch_ratio_high, pitch_ratio_low}
use Rattle.ground.specs.F32.{c0, c0·25, c0·5, c1, c2}
use Rattle.ground.specs.Random.{get_word, word_float, get_float, noise_of}
use Rattle.ground.specs.Floats.{whole_part, fraction_of, clamp_f}
use Rattle.utils.specs.DelayLine.{tap, line_write, cubic_of, read_hermite, allpass}
use Rattle.utils.specs.Units.{high_index, low_index, semitones_to_ratio}
use Rattle.utils.specs.Utils.{crossfade, interpolate}

-- Word after 33 (0x21): 1068833548; its noise value 2u - 1 is -4213477/8388608.
pub word_after_33 : get_word 33 ≡ 1068833548
unfolding get_word
word_after_33 = refl

pub noise_after_33 : noise_of (get_word 33) ≡ fin true 4213477 (negsuc 22)
unfolding get_word noise_of get_float of_bits of_int sub mul div
noise_after_33 = refl

-- Words 0, 1, 0x01000001, 0x01000003, 0xFFFFFF7F, 0xFFFFFF80 as whole floats: 0, 1, 16777216, 16777220, 4294967040, 4294967296.
pub words_as_floats : map word_float (0 ∷ 1 ∷ 0x01000001 ∷ 0x01000003 ∷ 0xFFFFFF7F ∷ 0xFFFFFF80 ∷ [])
    ≡ fin false 0 (pos 0) ∷ fin false 1 (pos 0) ∷ fin false 1 (pos 24) ∷ fin false 4194305 (pos 2) ∷ fin false 16777215 (pos 8) ∷ fin false 1 (pos 32) ∷ []
unfolding of_int
words_as_floats = refl

-- Whole parts of 3.75, -2.5, NaN: 3, 0, 0.
pub whole_parts : map whole_part (fin false 15 (negsuc 1) ∷ fin true 5 (negsuc 0) ∷ nan ∷ []) ≡ 3 ∷ 0 ∷ 0 ∷ []
unfolding whole_part of_bits le lt to_unsigned
whole_parts = refl

-- a fresh line of n, whose place is 0
abbrev pub zeros : ℕ → List Float
zeros n = replicate n c0

-- Fresh string line, write 1.0: Hermite reads at 1, 1.5 and 2 give 1, 0.5625 and 0.
pub hermite_reads : let w = line_write (zeros 1024) 0 c1 in
    map (read_hermite w.1 w.0) (c1 ∷ fin false 3 (negsuc 0) ∷ c2 ∷ []) ≡ c1 ∷ fin false 9 (negsuc 3) ∷ c0 ∷ []
unfolding read_hermite cubic_of tap whole_part fraction_of of_bits of_int to_unsigned le lt add sub mul
hermite_reads = refl

-- Fresh stretch line, sample 1, delay 4, coefficient 0.5: -0.5.
pub allpass_at_4 : (allpass (zeros 256) 0 c1 4 c0·5).0.out ≡ neg c0·5
unfolding allpass tap of_bits add mul neg
allpass_at_4 = refl

-- Semitones 0 and 12: 1 and 2.
pub ratios_of_semitones : map semitones_to_ratio (c0 ∷ fin false 3 (pos 2) ∷ []) ≡ c1 ∷ c2 ∷ []
unfolding semitones_to_ratio high_index low_index pitch_ratio_high pitch_ratio_low whole_part fraction_of of_bits of_int to_unsigned le lt add sub mul
ratios_of_semitones = refl

-- Structure 0.25 and 1: stiffness 0 and 2.
pub stiffnesses : map interpolate (c0·25 ∷ c1 ∷ []) ≡ c0 ∷ c2 ∷ []
unfolding interpolate crossfade stiffness clamp_f whole_part fraction_of of_bits of_int to_unsigned le lt add sub mul
stiffnesses = refl
