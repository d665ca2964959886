-- What string_voice.rs and modal_voice.rs do alike before their resonators. Assumes nothing.
use Rattle.std.specs.Prelude.{◌≡◌, List, length, replicate, Float}
use Rattle.ground.specs.F32.{◌⊕◌, ◌⊖◌, ◌⊗◌, c0, c0·00005, c0·25, c0·99995, c1}
use Rattle.ground.specs.Draw.{Draw, ret, ◌>>=◌}
use Rattle.ground.specs.Frames.{frames, scan}
use Rattle.noise.specs.Dust.{dust}

-- `x += 0.25 * accent * (1.0 - x)`, for brightness and for damping
unfoldable pub raised : Float → Float → Float
raised accent x = x ⊕ c0·25 ⊗ accent ⊗ (c1 ⊖ x)

-- the dust's frequency, from the brightness of the knob
unfoldable pub dust_frequency : Float → Float
dust_frequency brightness = let density = brightness ⊗ brightness in c0·00005 ⊕ c0·99995 ⊗ density ⊗ density

-- a draw in each frame that both lists have, whatever stands there
abbrev pub fill_step : Draw Float → Unit {0} → Float → Float → Draw (Unit {0} × Float)
fill_step d s x y = d >>= λ u. ret (s, u)

abbrev pub filled : Draw Float → List Float → List Float → Draw (List Float)
filled d xs ys = frames (fill_step d) tt xs ys >>= λ q. ret q.1

-- a sample of dust in every frame, at a gain
abbrev pub dust_sample : Float → Float → Float → Draw Float
dust_sample f gain accent = dust f >>= λ u. ret (u ⊗ gain ⊗ accent)

unfoldable pub dusted : Float → Float → Float → List Float → Draw (List Float)
dusted f gain accent temp = filled (dust_sample f gain accent) temp temp

-- without sustain a buffer begins with silence
abbrev pub silence : List Float → List Float
silence ys = replicate (length ys) c0

-- a buffer added into another
abbrev pub add_step : Unit {0} → Float → Float → Unit {0} × Float
add_step s x y = (s, y ⊕ x)

abbrev pub added : List Float → List Float → List Float
added xs ys = (scan add_step tt xs ys).1

-- the four buffers of a render have one length
pub record Alike (temp temp2 out aux : List Float) : Type 0 where
  pub temp2_is : length temp2 ≡ length temp
  pub out_is : length out ≡ length temp
  pub aux_is : length aux ≡ length temp
