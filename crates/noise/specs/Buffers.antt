-- The four buffers that a render is lent. Assumes nothing.
use Rattle.std.specs.Prelude.{◌≡◌, List, Float}
use Rattle.noise.specs.Excitation.{Alike}
use Rattle.noise.specs.declared.buffers.Buffers.{Buffers}

-- what stands in them
pub record Bufs : Type 0 where
  pub temp : List Float
  pub temp2 : List Float
  pub out : List Float
  pub aux : List Float

abbrev pub held : Buffers → Bufs
held b = record { temp = b.temp.now; temp2 = b.temp_2.now; out = b.out.now; aux = b.aux.now }

-- they have one length
abbrev pub IsAlike : Buffers → Type 0
IsAlike b = Alike b.temp.now b.temp_2.now b.out.now b.aux.now

-- they are still the buffers that were lent
pub record IsSame (b c : Buffers) : Type 0 where
  pub temp : b.temp.ghost_name ≡ c.temp.ghost_name
  pub temp2 : b.temp_2.ghost_name ≡ c.temp_2.ghost_name
  pub out : b.out.ghost_name ≡ c.out.ghost_name
  pub aux : b.aux.ghost_name ≡ c.aux.ghost_name
