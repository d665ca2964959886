-- A list of exported calls and sheets, as a host makes them. Assumes nothing.
use Rattle.std.specs.Prelude.{List, [], ◌∷◌, map, ◌≡◌, ℕ, ◌<◌, ◌^◌, length, Float}
use Rattle.slots.specs.Slots.{fresh_bank}
use Rattle.slots.specs.Calls.{Bufs}
use Rattle.slots.specs.Table.{Call}
use Rattle.bank.specs.World.{World, start}
use Rattle.player.specs.declared.sheet.Event.{Event}
use Rattle.player.specs.declared.play.Told.{Told}
use Rattle.player.specs.Play.{told, Playing}
use Rattle.claims.specs.Items.{Item, one, sheet, Made, run_items, items_ledger, ItemAccount}
use Rattle.slot_bytes.specs.Layout.{encode_bank}
use Rattle.bank_abi.specs.Crossing.{Crossing, world_of, Crossed, Gives}
use Rattle.bank_abi.specs.Sheets.{GivesSheet}

-- a call with what it left, or a sheet with the answers and buffers that it was lent, its number and what it left
pub data Exported : Type 0 where
  called : Call → Crossed → Exported
  played : List Event → List Told → Bufs → ℕ × Playing Crossing → Exported

abbrev pub item_of : Exported → Item
item_of (called c y) = one c
item_of (played es ts b r) = sheet es ts b

abbrev pub after_of : Exported → Crossing
after_of (called c y) = y.after
after_of (played es ts b r) = r.1.world

abbrev pub GivesItem : Crossing → Exported → Type 0
GivesItem x (called c y) = Gives x c y
GivesItem x (played es ts b r) = GivesSheet (record { world = x; bufs = b; answers = ts }) es r

-- each on what the last one left
abbrev pub MadeBy : Crossing → List Exported → Type 0
MadeBy x [] = Unit {0}
MadeBy x (r ∷ rs) = GivesItem x r × MadeBy (after_of r) rs

abbrev pub items_made : List Exported → List Item
items_made rs = map item_of rs

-- what the bank's own item leaves: its number, its answers, the world and the buffers
abbrev pub left_by : Made → ℕ × List Told × World × Bufs
left_by m = (m.number, m.answers, m.after, m.bufs)

-- what the exported one leaves, the bank decoded
abbrev pub decoded_item : Exported → ℕ × List Told × World × Bufs
decoded_item (called c y) = (y.number, told y.number y.counts ∷ [], world_of y.after, y.bufs)
decoded_item (played es ts b r) = (r.0, r.1.answers, world_of r.1.world, r.1.bufs)

-- from the bytes of a fresh bank such a list is a run of the bank, and the account holds of that run
pub record Session (seed : ℕ) (mem : List Float) (rs : List Exported) : Type 0 where
  pub run : map left_by (run_items (start seed mem) (items_made rs)) ≡ map decoded_item rs
  pub account : ItemAccount seed mem (items_made rs) (run_items (start seed mem) (items_made rs)) (items_ledger (length mem) (items_made rs))

-- demand 3 of the exported calls: of every seed, line memory and list that a host can make
unfoldable pub ExportedDemand3 : Type 0
ExportedDemand3 = (seed : ℕ) → seed < 2 ^ 32 → (mem : List Float) (rs : List Exported)
    → MadeBy (record { bytes = encode_bank fresh_bank; word = seed; mem = mem }) rs → Session seed mem rs
