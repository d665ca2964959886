-- `play::play_all` meets its contract: a turn more at each event.
use Rattle.std.proofs.Common.{rules, arith, length, ◌+◌, sym, refl, false, ◌∙◌, set, ap}
use Rattle.noise.specs.Buffers.{held}
use Rattle.player.specs.declared.play.Told.{Told}
use Rattle.player.specs.Play.{Playing, bank_move}
use Rattle.bank.specs.World.{World}
use Rattle.player.proofs.Accepted.{taken}
use Rattle.player.proofs.Turns.{begun, following, lies_now, again, all_done, all_given}
use Rattle.player.proofs.play.play_all.Goals as goal

pub loop-i-init : goal.loop-i-init
loop-i-init c =
    let a = c.args in
    let t = taken false a.sheet.now _ (held a.b.now) c.requires in
    (begun bank_move a.sheet.now _ t.same t.room, record { temp = refl; temp2 = refl; out = refl; aux = refl })

pub render_in-r-requires : goal.render_in-r-requires
render_in-r-requires c =
    let a = c.args in
    let t = taken false a.sheet.now _ (held a.b.now) c.requires in
    let l = lies_now bank_move c.loop-i.invariant.0 t.whole (search rules)
    (following a.sheet.now (length a.b.now.temp.now) _ (c.loop-i.i + 1) c.until-to.ensures) in
    (l.0, l.1, c.loop-i.invariant.0.alike)

pub bounds-answers-i : goal.bounds-answers-i
bounds-answers-i c =
    let a = c.args in
    let t = taken false a.sheet.now _ (held a.b.now) c.requires in
    omega (arith, c.loop-i.invariant.0.room, t.whole.few, c.loop-i-test.true)

pub loop-i-preserved : goal.loop-i-preserved
loop-i-preserved c =
    let l = c.loop-i in
    let r = c.render_in-r in
    let told : Told → Playing World = λ x. record {
      world = record { bank = r.result.bank; word = r.result.word; mem = r.new.lines };
      bufs = record { temp = r.new.temp; temp2 = r.new.temp_2; out = r.new.out; aux = r.new.aux };
      answers = set l.answers l.i x;
    } in (
      again bank_move l.invariant.0 (search rules)
          (following c.args.sheet.now (length c.args.b.now.temp.now) _ (l.i + 1) c.until-to.ensures)
          (r.ensures.turned l.i l.answers ∙ ap told (sym c.told_of.ensures)) (search rules) (search rules)
          (search rules) (search rules) (search rules) r.ensures.given,
      search rules,
    )

pub returns-clause-turned : goal.returns-clause-turned
returns-clause-turned c = all_done bank_move c.loop-i.invariant.0 (search rules)

pub returns-clause-given : goal.returns-clause-given
returns-clause-given c = all_given bank_move c.loop-i.invariant.0 (search rules)
