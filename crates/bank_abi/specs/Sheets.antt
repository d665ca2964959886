-- A sheet on a bank that crosses as bytes. Assumes nothing.
use Rattle.std.specs.Prelude.{true, false, List, ◌≡◌, ℕ, length}
use Rattle.ground.specs.Each.{Each}
use Rattle.ground.specs.Frames.{over}
use Rattle.slots.specs.Table.{Call, bad}
use Rattle.bank.specs.World.{World}
use Rattle.player.specs.declared.sheet.Event.{Event}
use Rattle.player.specs.Sheet.{AreF32, Cue, cues}
use Rattle.player.specs.Play.{told, Move, Playing, turn, play_def, bank_move}
use Rattle.slot_bytes.specs.Layout.{decode_bank}
use Rattle.bank_abi.specs.Crossing.{is_bank, bad_bytes, Crossing, world_of, Crossed, cross_def}

-- a call on bytes
abbrev pub crossed : Crossed → Move Crossing
crossed y = record { told = told y.number y.counts; after = y.after; bufs = y.bufs }

abbrev pub cross_move : Crossing → Call → Move Crossing
cross_move x c = crossed (cross_def x c)

-- the same with the bank decoded
abbrev pub decoded_play : Playing Crossing → Playing World
decoded_play s = record { world = world_of s.world; bufs = s.bufs; answers = s.answers }

-- what an event's turn gives where the bytes are good: they stay so
pub record Turned (s : Playing Crossing) (q : Cue) (s' : Playing Crossing) : Type 0 where
  pub is : turn cross_move s q ≡ s'
  pub agrees : turn bank_move (decoded_play s) q ≡ decoded_play s'
  pub good : bad_bytes s'.world.bytes s'.world.mem ≡ false

-- and what all of them give
pub record AllTurned (s : Playing Crossing) (es : List Event) (s' : Playing Crossing) : Type 0 where
  pub is : over (turn cross_move) s (cues (length s.bufs.temp) es) ≡ s'
  pub agrees : over (turn bank_move) (decoded_play s) (cues (length s.bufs.temp) es) ≡ decoded_play s'
  pub good : bad_bytes s'.world.bytes s'.world.mem ≡ false
  pub given : Each AreF32 es

-- what an exported sheet gives: its number, and what is left
pub record GivesSheet (s : Playing Crossing) (es : List Event) (r : ℕ × Playing Crossing) : Type 0 where
  pub is : play_def cross_move (bad_bytes s.world.bytes s.world.mem) es s ≡ r
  -- where the bytes are a bank, the sheet on bytes is the bank's
  pub agrees : is_bank s.world.bytes ≡ true
      → play_def bank_move (bad (decode_bank s.world.bytes) s.world.mem) es (decoded_play s) ≡ (r.0, decoded_play r.1)
  -- bytes that are a bank stay one
  pub stays : is_bank s.world.bytes ≡ true → is_bank r.1.world.bytes ≡ true
  -- what is played is f32s
  pub given : r.0 ≡ 0 → Each AreF32 es
