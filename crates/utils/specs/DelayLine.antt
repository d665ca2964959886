-- delay_line.rs: a list of any length, MAX_DELAY, and a write place below it that steps down. Assumes nothing.
use Rattle.std.specs.Prelude.{List, ℕ, ◌+◌, ◌-◌, ◌%◌, length, get_or, set, replicate, Float}
use Rattle.std.specs.Float.{nan}
use Rattle.std.specs.Float.Ieee.{neg}
use Rattle.utils.specs.declared.delay_line.AllpassOut.{AllpassOut}
use Rattle.ground.specs.F32.{◌⊕◌, ◌⊖◌, ◌⊗◌, c0, c0·5}
use Rattle.ground.specs.Floats.{whole_part, fraction_of}
use Rattle.utils.specs.Utils.{crossfade}

-- what stands at an index taken round the line
unfoldable pub tap : List Float → ℕ → Float
tap line t = get_or line (t % length line) nan

-- reset: the place, and the line
abbrev pub line_reset : List Float → ℕ × List Float
line_reset line = (0, replicate (length line) c0)

-- write: the next place, and the line
abbrev pub line_write : List Float → ℕ → Float → ℕ × List Float
line_write line at sample = ((at + length line - 1) % length line, set line at sample)

-- allpass
unfoldable pub allpass : List Float → ℕ → Float → ℕ → Float → AllpassOut × List Float
allpass line at sample delay coefficient =
    let read = tap line (at + delay) in
    let write = sample ⊕ coefficient ⊗ read in
    let next = line_write line at write in
    (record { out = neg write ⊗ coefficient ⊕ read; write_ptr = next.0 }, next.1)

-- what read_hermite makes of four neighbours
unfoldable pub cubic_of : Float → Float → Float → Float → Float → Float
cubic_of xm1 x0 x1 x2 f =
    let c = (x1 ⊖ xm1) ⊗ c0·5 in
    let v = x0 ⊖ x1 in
    let w = c ⊕ v in
    let a = w ⊕ v ⊕ (x2 ⊖ x0) ⊗ c0·5 in
    let b = w ⊕ a in
    ((a ⊗ f ⊖ b) ⊗ f ⊕ c) ⊗ f ⊕ x0

-- read_with_delay_frac
unfoldable pub read_with_delay_frac : List Float → ℕ → Float → Float
read_with_delay_frac line at delay =
    let t = at + whole_part delay in
    crossfade (tap line t) (tap line (t + 1)) (fraction_of delay)

-- read_hermite
unfoldable pub read_hermite : List Float → ℕ → Float → Float
read_hermite line at delay =
    let t = at + whole_part delay + length line in
    cubic_of (tap line (t - 1)) (tap line t) (tap line (t + 1)) (tap line (t + 2)) (fraction_of delay)
