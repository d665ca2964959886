-- What a call makes of the leaf's definition. Assumes nothing.
use Rattle.std.specs.Prelude.{Bool, true, false, cond, List, ℕ, eqb, leb, ltb, length, Float}
use Rattle.ground.specs.F32.{c0}
use Rattle.ground.specs.Draw.{run}
use Rattle.noise.specs.Dust.{dust}
use Rattle.resources.specs.Table.{entry}
use Rattle.resources.specs.Stiffness.{stiffness}
use Rattle.resources.specs.Svf.{svf_shift}
use Rattle.resources.specs.Pitch.{pitch_ratio_high, pitch_ratio_low}
use Rattle.utils.specs.DelayLine.{allpass}
use Rattle.utils.specs.ParameterInterpolator.{interpolator_new}
use Rattle.leaves_abi.specs.Rows.{interpolator_row, into}
use Rattle.utils.specs.declared.filter.FrequencyApproximation.{FrequencyApproximation}
use Rattle.utils.specs.declared.filter.FrequencyApproximation.TheVariants.{Fast, Dirty}

-- the generator's word after a draw of dust, and the sample
unfoldable pub dust_at : Float → ℕ → ℕ × Float
dust_at frequency w = let r = run (dust frequency) w in (r.word, r.value)

-- an entry of a table, by the table's number; 0 of another
unfoldable pub table_of : ℕ → ℕ → Float
table_of which i =
    cond (eqb which 0) (entry stiffness i)
    (cond (eqb which 1) (entry svf_shift i)
    (cond (eqb which 2) (entry pitch_ratio_high i)
    (cond (eqb which 3) (entry pitch_ratio_low i) c0)))

-- which approximation `dirty` chooses
abbrev pub approximation_of : Bool → FrequencyApproximation
approximation_of true = Dirty
approximation_of false = Fast

-- a new interpolator put into a list of its length, of a size up to 2 ^ 24; else the list stays
unfoldable pub interpolator_at : Float → Float → ℕ → List Float → List Float
interpolator_at state new size xs = cond (ltb 16777216 size) xs (into interpolator_row (interpolator_new state new size) xs)

-- what is done at a place in the line; `none` at another
unfoldable pub in_line : {R : Type 0} → List Float → ℕ → R → R → R
in_line line at none done = cond (leb (length line) at) none done

-- the place after an all-pass, and what it gives and the line; at a place outside the line 0, and both stay
unfoldable pub allpass_at : List Float → Float → ℕ → Float → ℕ → ℕ × (Float × List Float)
allpass_at line sample delay coefficient at =
    let r = allpass line at sample delay coefficient in
    in_line line at (at, (c0, line)) (r.0.write_ptr, (r.0.out, r.1))
