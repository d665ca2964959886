-- Buffers of lengths that differ, each with its number, for the values of every table that looks at four buffers. Assumes nothing.
use Rattle.std.specs.Prelude.{List, [], ◌∷◌, ◌++◌, ℕ, replicate}
use Rattle.ground.specs.F32.{c0}
use Rattle.slots.specs.Calls.{Bufs}

-- buffers of these lengths, and of one
abbrev pub lens : ℕ → ℕ → ℕ → ℕ → Bufs
lens temp temp2 out aux = record { temp = replicate temp c0; temp2 = replicate temp2 c0; out = replicate out c0; aux = replicate aux c0 }

abbrev pub block : ℕ → Bufs
block n = lens n n n n

-- buffers of these lengths, and their number
abbrev lent : ℕ → ℕ → ℕ → ℕ → ℕ → Bufs × ℕ
lent temp temp2 out aux n = (lens temp temp2 out aux, n)

-- temp_2, out and aux short and long by one: alone, two of them, and all three
abbrev by_one : List (Bufs × ℕ)
by_one =
    lent 4 3 4 4 7
    ∷ lent 4 5 4 4 7
    ∷ lent 4 4 3 4 17
    ∷ lent 4 4 5 4 17
    ∷ lent 4 4 4 3 18
    ∷ lent 4 4 4 5 18
    ∷ lent 4 3 3 4 7
    ∷ lent 4 3 5 4 7
    ∷ lent 4 5 3 4 7
    ∷ lent 4 5 5 4 7
    ∷ lent 4 3 4 3 7
    ∷ lent 4 3 4 5 7
    ∷ lent 4 5 4 3 7
    ∷ lent 4 5 4 5 7
    ∷ lent 4 4 3 3 17
    ∷ lent 4 4 3 5 17
    ∷ lent 4 4 5 3 17
    ∷ lent 4 4 5 5 17
    ∷ lent 4 3 3 3 7
    ∷ lent 4 3 3 5 7
    ∷ lent 4 3 5 3 7
    ∷ lent 4 3 5 5 7
    ∷ lent 4 5 3 3 7
    ∷ lent 4 5 3 5 7
    ∷ lent 4 5 5 3 7
    ∷ lent 4 5 5 5 7
    ∷ []

-- beside a temp that is too long, and beside the longest that is not
abbrev with_8 : List (Bufs × ℕ)
with_8 =
    lent 4097 4096 4097 4097 7
    ∷ lent 4097 4098 4097 4097 7
    ∷ lent 4097 4097 4096 4097 17
    ∷ lent 4097 4097 4098 4097 17
    ∷ lent 4097 4097 4097 4096 18
    ∷ lent 4097 4097 4097 4098 18
    ∷ lent 4096 4097 4096 4096 7
    ∷ lent 4096 4096 4097 4096 17
    ∷ lent 4096 4096 4096 4097 18
    ∷ []

abbrev pub lengths : List (Bufs × ℕ)
lengths = by_one ++ with_8
