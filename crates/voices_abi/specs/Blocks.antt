-- Blocks of a voice, one after the other. Assumes nothing.
use Rattle.std.specs.Prelude.{Bool, ◌&&◌, ℕ, zero, suc, eqb, ltb}
use Rattle.ground.specs.Draw.{Draw, ret, ◌>>=◌}

-- n times, each on what the one before left
abbrev pub times : {A : Type 0} → ℕ → (A → Draw A) → A → Draw A
times zero f a = ret a
times (suc n) f a = times n f a >>= f

-- buffers of one length, which the bank accepts
abbrev pub alike_sizes : ℕ → ℕ → ℕ → ℕ → Bool
alike_sizes temp temp2 out aux = eqb temp out && eqb temp2 out && eqb aux out && ltb out 4097
