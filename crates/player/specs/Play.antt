-- A sheet played: a world is a bank or its bytes, with word and line memory, and a render there is handed in. Assumes nothing.
use Rattle.std.specs.Prelude.{Bool, cond, List, ℕ, ◌-◌, eqb, length, set, replicate, Result, Ok, Err}
use Rattle.ground.specs.Frames.{over}
use Rattle.ground.specs.Part.{part, put}
use Rattle.noise.specs.declared.excitation.Counts.{Counts}
use Rattle.slots.specs.declared.answers.Reason.{Reason}
use Rattle.slots.specs.Answers.{reason_number, no_counts, number_of, counts_of}
use Rattle.slots.specs.Calls.{Bufs, render}
use Rattle.slots.specs.Table.{Call}
use Rattle.bank.specs.World.{World, Left, left_of, call_def}
use Rattle.player.specs.declared.sheet.Event.{Event}
use Rattle.player.specs.declared.play.Told.{Told}
use Rattle.player.specs.Sheet.{sheet_verdict, Cue, cues}

-- an event's answer: the number and the counts of its render
abbrev pub told : ℕ → Counts → Told
told n c = record { number = n; burst = c.burst; dust = c.dust; dispersion = c.dispersion }

abbrev pub told_of : Result Counts Reason → Told
told_of a = told (number_of a) (counts_of a)

-- the frames of a render in the four buffers, and the buffers with others in their place
abbrev pub span : Cue → Bufs → Bufs
span q b =
    let n = q.to - q.from in
    record { temp = part q.from n b.temp; temp2 = part q.from n b.temp2; out = part q.from n b.out; aux = part q.from n b.aux }

abbrev pub put_span : Cue → Bufs → Bufs → Bufs
put_span q new b =
    let n = q.to - q.from in
    record { temp = put q.from n new.temp b.temp; temp2 = put q.from n new.temp2 b.temp2; out = put q.from n new.out b.out; aux = put q.from n new.aux b.aux }

-- the call that an event's render is, lent its span of the buffers as the render before left them
abbrev pub cue_call : Cue → Bufs → Call
cue_call q b = record { slot = q.slot; act = render q.knobs (span q b) }

-- what a call leaves in a world of W
pub record Move (W : Type 0) : Type 0 where
  pub told : Told
  pub after : W
  pub bufs : Bufs

pub record Playing (W : Type 0) : Type 0 where
  pub world : W
  pub bufs : Bufs
  pub answers : List Told

-- where the sheet is refused whole each answer is its number, but for answers that are not 64
abbrev pub refused_answers : Reason → List Told → List Told
refused_answers r ts = cond (eqb (length ts) 64) (replicate 64 (told (reason_number r) no_counts)) ts

module _ {W : Type 0} (move : W → Call → Move W) where
  -- an event's turn
  unfoldable pub turn : Playing W → Cue → Playing W
  turn s q =
      let m = move s.world (cue_call q s.bufs) in
      record { world = m.after; bufs = put_span q m.bufs s.bufs; answers = set s.answers q.place m.told }

  -- the turns of all, on answers that are all 0
  unfoldable pub turns : List Event → Playing W → Playing W
  turns es s = over turn (record s { answers = replicate 64 (told 0 no_counts) }) (cues (length s.bufs.temp) es)

  unfoldable pub play_by : Result (Unit {0}) Reason → List Event → Playing W → ℕ × Playing W
  play_by (Ok u) es s = (0, turns es s)
  play_by (Err r) es s = (reason_number r, record s { answers = refused_answers r s.answers })

  -- the sheet's number, and what is left
  unfoldable pub play_def : Bool → List Event → Playing W → ℕ × Playing W
  play_def bad es s = play_by (sheet_verdict bad es (length s.answers) s.bufs) es s

-- a call of the bank
abbrev pub moved_of : Left → Move World
moved_of l = record { told = told_of l.answer; after = l.after; bufs = l.bufs }

abbrev pub bank_move : World → Call → Move World
bank_move w c = moved_of (left_of (call_def w c))
