-- random.rs: the generator's next word, and the floats of a word. Assumes nothing.
use Rattle.std.specs.Prelude.{ℕ, ◌+◌, ◌*◌, ◌%◌, ◌^◌, pos, Float}
use Rattle.std.specs.Float.{binary32}
use Rattle.std.specs.Float.Ieee.{of_int}
use Rattle.ground.specs.F32.{◌⊖◌, ◌⊗◌, ◌⊘◌, c1, c2, two_to32}

-- get_word: a draw moves the generator's word to this one, and gives it
unfoldable pub get_word : ℕ → ℕ
get_word w = (w * 1664525 + 1013904223) % 2 ^ 32

-- `w as f32`: the nearest f32, ties to even
abbrev pub word_float : ℕ → Float
word_float w = of_int binary32 (pos w)

-- get_float
unfoldable pub get_float : ℕ → Float
get_float w = word_float w ⊘ two_to32

-- `2.0 * get_float() - 1.0`
unfoldable pub noise_of : ℕ → Float
noise_of w = c2 ⊗ get_float w ⊖ c1
