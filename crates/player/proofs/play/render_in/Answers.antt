-- `play::render_in` meets its contract: the parts go back where they were cut.
use Rattle.std.proofs.Common.{ap}
use Rattle.slots.specs.Calls.{Bufs}
use Rattle.ground.specs.Part.{part, put}
use Rattle.player.specs.Sheet.{cue_of}
use Rattle.player.specs.Play.{moved_of, bank_move}
use Rattle.player.proofs.Turns.{turned}
use Rattle.player.proofs.play.render_in.Goals as goal

pub returns-clause-turned : goal.returns-clause-turned
unfolding part put
returns-clause-turned c place ts =
    let a = c.args in
    let b : Bufs = record { temp = a.temp.now; temp2 = a.temp_2.now; out = a.out.now; aux = a.aux.now } in
    turned bank_move (record { bank = a.bank; word = a.word; mem = a.lines.now }) (cue_of place a.e a.to) b ts
    c.knobs_of.result _ c.knobs_of.ensures (ap moved_of c.render_into.ensures.left)
