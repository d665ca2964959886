-- What a render is ready for: its kind, and its part of line memory. Assumes nothing.
use mathlib.Core.Path.{◌≡◌}
use mathlib.Core.List.{List}
use Prim.Native.Nat.{ℕ, ◌<◌, ◌+◌, ◌-◌, ◌*◌}
use native.Mathlib.Omega.{arith}
use lib.ListN.{length, take, drop, length-take, length-drop}
use lib.Ieee.{Float}
use Rattle.string_voice.specs.declared.string_voice.StringVoice.{StringVoice}
use Rattle.waveguide.specs.Kept.{Good}
use Rattle.bank.specs.World.{ReadyString}

-- a string's part of line memory and its places are good
pub good_part : (v : StringVoice) (mem : List Float) (slot : ℕ) (out : List Float) → ReadyString v mem slot out
    → Good (v.string, take (1280 * slot + 1280 - 1280 * slot) (drop (1280 * slot) mem))
good_part v mem slot out r =
    let s : slot < 8 = r.slot_within in
    let l : length mem ≡ 10240 = r.size in
    record { size = simp (length-take, length-drop) (omega arith); string = r.string; stretch = r.stretch }
