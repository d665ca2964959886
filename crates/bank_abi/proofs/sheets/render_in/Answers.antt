-- `sheets::render_in` meets its contract: the parts go back where they were cut.
use Rattle.ground.specs.Part.{part, put}
use Rattle.slots.specs.Answers.{number_of, counts_of}
use Rattle.slots.specs.Calls.{Bufs}
use Rattle.player.specs.Sheet.{cue_of}
use Rattle.bank_abi.specs.Crossing.{Crossing, Crossed}
use Rattle.bank_abi.proofs.Plays.{turned_by}
use Rattle.bank_abi.proofs.sheets.render_in.Goals as goal

pub returns-clause-turned : goal.returns-clause-turned
unfolding part put
returns-clause-turned c place ts =
    let a = c.args in
    let b : Bufs = record { temp = a.temp.now; temp2 = a.temp_2.now; out = a.out.now; aux = a.aux.now } in
    let x : Crossing = record { bytes = a.bytes.now; word = a.word; mem = a.lines.now } in
    let r = c.render_into in
    let y : Crossed = record {
      number = number_of r.result.answer;
      counts = counts_of r.result.answer;
      after = record { bytes = r.new.bytes; word = r.result.word; mem = r.new.lines };
      bufs = record { temp = r.new.temp; temp2 = r.new.temp_2; out = r.new.out; aux = r.new.aux };
    } in
    turned_by x (cue_of place a.e a.to) b ts c.knobs_of.result y c.requires.0 c.knobs_of.ensures c.render_into.ensures
