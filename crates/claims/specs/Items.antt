-- What a host calls: one call, or a whole sheet. The account of every list of them, from that of the calls that they make. Assumes nothing.
use Rattle.std.specs.Prelude.{◌≡◌, ◌≢◌, not, List, [], ◌∷◌, ◌++◌, map, ℕ, ◌-◌, ◌^◌, ◌<◌, eqb, length, replicate, Float, Result, Ok, Err}
use Rattle.ground.specs.F32.{c0}
use Rattle.ground.specs.Each.{Each}
use Rattle.slots.specs.declared.answers.Reason.{Reason}
use Rattle.slots.specs.Answers.{reason_number, number_of, no_counts}
use Rattle.slots.specs.Calls.{Bufs, Act, opening, reset, render, InF32}
use Rattle.slots.specs.Table.{Call, bad}
use Rattle.bank.specs.World.{World, start, Event, call_def, run_from, end_from}
use Rattle.player.specs.declared.sheet.Event.{Event as SheetEvent}
use Rattle.player.specs.declared.play.Told.{Told}
use Rattle.player.specs.Sheet.{sheet_verdict, Cue, cues}
use Rattle.player.specs.Play.{told, told_of, put_span, cue_call, refused_answers, play_def, bank_move}
use Rattle.claims.specs.Ledger.{Led, fresh_led, Line, line_of, ledger_from}
use Rattle.claims.specs.Claim.{Account}

-- one call, or a sheet with the answers and the buffers that it is lent
pub data Item : Type 0 where
  one : Call → Item
  sheet : List SheetEvent → List Told → Bufs → Item

-- ---- what an item makes

-- the renders of a sheet, each lent its parts of the buffers as the render before left them
unfoldable pub play_events : World → Bufs → List Cue → List Event
play_events w b [] = []
play_events w b (q ∷ qs) = let e = call_def w (cue_call q b) in e ∷ play_events e.after (put_span q e.bufs b) qs

-- a sheet that is refused whole makes none
unfoldable pub sheet_events : Result (Unit {0}) Reason → World → List SheetEvent → Bufs → List Event
sheet_events (Ok u) w es b = play_events w b (cues (length b.temp) es)
sheet_events (Err r) w es b = []

-- an item made: its number and answers, the world and the buffers after it, and the calls that it made
pub record Made : Type 0 where
  pub number : ℕ
  pub answers : List Told
  pub after : World
  pub bufs : Bufs
  pub events : List Event

unfoldable pub made : World → Item → Made
made w (one c) =
    let e = call_def w c in
    record { number = number_of e.answer; answers = told_of e.answer ∷ []; after = e.after; bufs = e.bufs; events = e ∷ [] }
made w (sheet es ts b) =
    let n = bad w.bank w.mem in
    let p = play_def bank_move n es (record { world = w; bufs = b; answers = ts }) in
    record {
      number = p.0;
      answers = p.1.answers;
      after = p.1.world;
      bufs = p.1.bufs;
      events = sheet_events (sheet_verdict n es (length ts) b) w es b;
    }

-- a list of items, each on what the last one left
unfoldable pub run_items : World → List Item → List Made
run_items w [] = []
run_items w (i ∷ is) = let m = made w i in m ∷ run_items m.after is

unfoldable pub end_items : World → List Item → World
end_items w [] = w
end_items w (i ∷ is) = end_items (made w i).after is

abbrev pub all_events : List Made → List Event
all_events [] = []
all_events (m ∷ ms) = m.events ++ all_events ms

abbrev pub calls_in : List Event → List Call
calls_in es = map (λ e. e.call) es

-- ---- the same by the ledger, which expands a sheet by itself

pub record ItemLine : Type 0 where
  pub number : ℕ
  pub answers : List Told
  pub calls : List Call
  pub lines : List Line

-- the answers of a sheet's renders, and 0 past them
abbrev pub told_lines : List Line → List Told
told_lines ls = map (λ l. told_of l.answer) ls ++ replicate (64 - length ls) (told 0 no_counts)

-- of the buffers it reads the lengths, so it takes them as the sheet was lent them
unfoldable pub sheet_line : Result (Unit {0}) Reason → ℕ → List Led → List SheetEvent → List Told → Bufs → ItemLine
sheet_line (Ok u) size ls es ts b =
    let cs = map (λ q. cue_call q b) (cues (length b.temp) es) in
    let lines = ledger_from size ls cs in
    record { number = 0; answers = told_lines lines; calls = cs; lines = lines }
sheet_line (Err r) size ls es ts b = record { number = reason_number r; answers = refused_answers r ts; calls = []; lines = [] }

unfoldable pub item_line : ℕ → List Led → Item → ItemLine
item_line size ls (one c) =
    let l = line_of size ls c in
    record { number = number_of l.answer; answers = told_of l.answer ∷ []; calls = c ∷ []; lines = l ∷ [] }
item_line size ls (sheet es ts b) = sheet_line (sheet_verdict (not (eqb size 10240)) es (length ts) b) size ls es ts b

-- the slots after some lines
unfoldable pub slots_after : List Led → List Line → List Led
slots_after ls [] = ls
slots_after ls (l ∷ rest) = slots_after l.slots rest

unfoldable pub items_from : ℕ → List Led → List Item → List ItemLine
items_from size ls [] = []
items_from size ls (i ∷ is) = let x = item_line size ls i in x ∷ items_from size (slots_after ls x.lines) is

unfoldable pub items_ledger : ℕ → List Item → List ItemLine
items_ledger size is = items_from size (replicate 8 fresh_led) is

abbrev pub all_lines : List ItemLine → List Line
all_lines [] = []
all_lines (x ∷ xs) = x.lines ++ all_lines xs

abbrev pub all_calls : List ItemLine → List Call
all_calls [] = []
all_calls (x ∷ xs) = x.calls ++ all_calls xs

-- a call with zeros in its buffers
abbrev pub blank_act : Act → Act
blank_act (opening kind rate) = opening kind rate
blank_act reset = reset
blank_act (render k b) =
    let zeros = λ (xs : List Float). replicate (length xs) c0 in
    render k (record { temp = zeros b.temp; temp2 = zeros b.temp2; out = zeros b.out; aux = zeros b.aux })

abbrev pub blank : Call → Call
blank c = record { slot = c.slot; act = blank_act c.act }

-- ---- the claim

-- a sheet refused whole makes no call and changes nothing but its answers
abbrev pub KeptItem : World → Item → Made → Type 0
KeptItem w (one c) m = Unit {0}
KeptItem w (sheet es ts b) m = m.number ≢ 0 → (m.events ≡ []) × (m.after ≡ w) × (m.bufs ≡ b)

abbrev pub KeptItems : World → List Item → Type 0
KeptItems w [] = Unit {0}
KeptItems w (i ∷ is) = KeptItem w i (made w i) × KeptItems (made w i).after is

pub record ItemAccount (seed : ℕ) (mem : List Float) (items : List Item) (ms : List Made) (xs : List ItemLine) : Type 0 where
  -- each item's number and answers are the ledger's
  pub numbers : map (λ m. m.number) ms ≡ map (λ x. x.number) xs
  pub answers : map (λ m. m.answers) ms ≡ map (λ x. x.answers) xs
  -- the calls made are those that the ledger makes of the items, but for what stands in their buffers
  pub calls : map blank (calls_in (all_events ms)) ≡ map blank (all_calls xs)
  -- they are one run of the bank, and end where the items do
  pub run : all_events ms ≡ run_from (start seed mem) (calls_in (all_events ms))
  pub ends : end_items (start seed mem) items ≡ end_from (start seed mem) (calls_in (all_events ms))
  pub kept : KeptItems (start seed mem) items
  -- the account of them all: a sheet's renders are calls like any others
  pub account : Account seed mem (calls_in (all_events ms)) (all_events ms) (all_lines xs)

-- demand 3 of every list of items that is played on f32s
unfoldable pub Demand3Items : Type 0
Demand3Items = (seed : ℕ) → seed < 2 ^ 32 → (mem : List Float) (items : List Item)
    → Each (λ e. InF32 e.call.act) (all_events (run_items (start seed mem) items))
    → ItemAccount seed mem items (run_items (start seed mem) items) (items_ledger (length mem) items)
