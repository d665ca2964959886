-- `sheets::play_all` meets its contract: a turn more at each event.
use Rattle.std.proofs.Common.{rules, arith, length, ◌+◌, sym, refl, false, set, subst}
use Rattle.noise.specs.Buffers.{held}
use Rattle.player.specs.declared.play.Told.{Told}
use Rattle.player.specs.Owners.{event_at}
use Rattle.player.specs.Sheet.{cue_of}
use Rattle.player.specs.Play.{Playing}
use Rattle.player.proofs.Accepted.{taken}
use Rattle.player.proofs.Turns.{following, lies_now}
use Rattle.bank_abi.specs.Crossing.{Crossing}
use Rattle.bank_abi.specs.Sheets.{cross_move, Turned}
use Rattle.bank_abi.proofs.Plays.{both_begun, both_again, both_done}
use Rattle.bank_abi.proofs.sheets.play_all.Goals as goal

pub loop-i-init : goal.loop-i-init
loop-i-init c =
    let a = c.args in
    let t = taken false a.sheet.now _ (held a.b.now) c.requires.0 in
    (both_begun a.sheet.now _ t.same t.room c.requires.1, record { temp = refl; temp2 = refl; out = refl; aux = refl })

pub render_in-r-requires : goal.render_in-r-requires
render_in-r-requires c =
    let a = c.args in
    let t = taken false a.sheet.now _ (held a.b.now) c.requires.0 in
    let f = c.loop-i.invariant.0 in
    let l = lies_now cross_move f.bytes t.whole (search rules) (following a.sheet.now (length a.b.now.temp.now) _ (c.loop-i.i + 1) c.until-to.ensures) in
    (f.good, l.0, l.1, f.bytes.alike)

pub bounds-answers-i : goal.bounds-answers-i
bounds-answers-i c =
    let a = c.args in
    let t = taken false a.sheet.now _ (held a.b.now) c.requires.0 in
    omega (arith, c.loop-i.invariant.0.bytes.room, t.whole.few, c.loop-i-test.true)

pub loop-i-preserved : goal.loop-i-preserved
loop-i-preserved c =
    let l = c.loop-i in
    let r = c.render_in-r in
    let s : Playing Crossing = record { world = record { bytes = l.bytes; word = l.word; mem = l.lines }; bufs = held l.b; answers = l.answers } in
    let told : Told → Playing Crossing = λ x. record {
      world = record { bytes = r.new.bytes; word = r.result.word; mem = r.new.lines };
      bufs = record { temp = r.new.temp; temp2 = r.new.temp_2; out = r.new.out; aux = r.new.aux };
      answers = set l.answers l.i x;
    } in (
      both_again l.invariant.0 (search rules) (following c.args.sheet.now (length c.args.b.now.temp.now) _ (l.i + 1) c.until-to.ensures)
          (subst (λ (x : Told). Turned s (cue_of l.i (event_at c.args.sheet.now l.i) c.until-to.result) (told x)) (sym c.told_of.ensures)
          (r.ensures.turned l.i l.answers)) (search rules) (search rules) (search rules) (search rules) (search rules) r.ensures.given,
      search rules,
    )

pub returns-clause-turned : goal.returns-clause-turned
returns-clause-turned c = both_done c.loop-i.invariant.0 (search rules)
