-- How a table is read. Assumes nothing.
use Rattle.std.specs.Prelude.{ℕ, List, get_or, Float}
use Rattle.std.specs.Float.{binary32}
use Rattle.std.specs.Float.Ieee.{of_bits}

-- what stands at i; 0.0 past the end, where no accepted call reads
abbrev pub entry : List Float → ℕ → Float
entry table i = get_or table i (of_bits binary32 0)
