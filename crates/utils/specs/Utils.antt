-- utils/mod.rs. Assumes nothing.
use Rattle.std.specs.Prelude.{cond, ◌+◌, leb, Float}
use Rattle.resources.specs.Table.{entry}
use Rattle.resources.specs.Stiffness.{stiffness}
use Rattle.ground.specs.F32.{◌⊕◌, ◌⊖◌, ◌⊗◌, c0, c1, c2, c64}
use Rattle.ground.specs.Floats.{whole_part, fraction_of, clamp_f}

-- one_pole: the new out
unfoldable pub one_pole : Float → Float → Float → Float
one_pole out x coefficient = out ⊕ coefficient ⊗ (x ⊖ out)

-- crossfade
unfoldable pub crossfade : Float → Float → Float → Float
crossfade a b fade = a ⊕ (b ⊖ a) ⊗ fade

-- interpolate(&LUT_STIFFNESS, index, 64.0), and 2.0 at index 1, where the Rust reads entry 65 of 65 and halts (01 'Filters, lines and tables')
unfoldable pub interpolate : Float → Float
interpolate index =
    let x = clamp_f index c0 c1 ⊗ c64 in
    let i = whole_part x in
    cond (leb 64 i) c2 (crossfade (entry stiffness i) (entry stiffness (i + 1)) (fraction_of x))
