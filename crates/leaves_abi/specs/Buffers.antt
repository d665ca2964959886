-- The leaves over buffers: each frame's output is the leaf of its input. Assumes nothing.
use Rattle.std.specs.Prelude.{cond, List, ℕ, leb, ltb, length, Float}
use Rattle.ground.specs.Draw.{Draw, ret, ask}
use Rattle.ground.specs.Random.{get_float}
use Rattle.noise.specs.Excitation.{filled}
use Rattle.utils.specs.Units.{semitones_to_ratio}
use Rattle.utils.specs.DelayLine.{read_hermite}
use Rattle.utils.specs.Filter.{svf_new, svf_set_f_q, svf_process_buffer}
use Rattle.ground.specs.Frames.{scan}
use Rattle.ground.specs.Part.{part}
use Rattle.utils.specs.declared.filter.FrequencyApproximation.TheVariants.{Dirty}

-- a function of the input alone, at each frame
abbrev pub apply_step : {A : Type 0} → (A → Float) → Unit {0} → A → Float → Unit {0} × Float
apply_step f s x y = (s, f x)

abbrev pub mapped : {A : Type 0} → (A → Float) → List A → List Float → List Float
mapped f xs ys = (scan (apply_step f) tt xs ys).1

abbrev pub filtered : Float → Float → List Float → List Float → Float × List Float
filtered f q xs ys = let r = svf_process_buffer (svf_set_f_q svf_new f q Dirty) xs ys in (r.0.state_2, r.1)

-- a word a frame, and its float
abbrev pub drawn_float : Draw Float
drawn_float = ask (λ w. ret (get_float w))

abbrev pub drawn_floats : List Float → Draw (List Float)
drawn_floats ys = filled drawn_float ys ys

abbrev pub ratios_of : List Float → List Float → List Float
ratios_of = mapped semitones_to_ratio

abbrev pub hermites_of : List Float → ℕ → List Float → List Float → List Float
hermites_of line at delays ys = cond (ltb (length line) 1024) ys (cond (leb 1024 at) ys (mapped (read_hermite (part 0 1024 line) at) delays ys))
