-- `bleidhvan_play` meets its contract: the table decides.
use Rattle.std.proofs.Common.{rules, sym, ap, ◌∙◌, ◌≡◌, ℕ, Bool, false, length, replicate}
use Rattle.std.proofs.lemmas.List.{length-replicate}
use Rattle.std.specs.Prelude.{Ok}
use Rattle.noise.specs.Buffers.{held}
use Rattle.noise.proofs.Lent.{lent_back}
use Rattle.slots.specs.Calls.{Bufs}
use Rattle.player.specs.Sheet.{sheet_verdict}
use Rattle.player.specs.Play.{Playing}
use Rattle.player.proofs.Accepted.{taken}
use Rattle.player.proofs.Turns.{good_bank}
use Rattle.bank_abi.specs.Crossing.{bad_bytes, Crossing}
use Rattle.bank_abi.specs.Sheets.{GivesSheet}
use Rattle.bank_abi.proofs.Plays.{sheet_refused, sheet_played}
use Rattle.bank_abi.proofs.bleidhvan_play.Goals as goal

pub play_all-requires : goal.play_all-requires
play_all-requires c =
    let a = c.args in
    let u : Bufs = record { temp = a.temp.now; temp2 = a.temp_2.now; out = a.out.now; aux = a.aux.now } in
    let n = length a.answers.now in
    let e : sheet_verdict c.bad-bad.result a.sheet.now n u ≡ Ok tt = sym c.check_sheet.ensures ∙ c.in-Ok.is in (
      ap (λ (k : ℕ). sheet_verdict false a.sheet.now k u) (ap length c.tell_all.ensures ∙ length-replicate n c.told_of.result)
          ∙ good_bank c.bad-bad.result a.sheet.now n u e,
      sym c.bad-bad.ensures ∙ (taken c.bad-bad.result a.sheet.now n u e).good,
    )

pub returns-in-Err : goal.returns-in-Err
returns-in-Err c =
    let a = c.args in
    let u : Bufs = record { temp = a.temp.now; temp2 = a.temp_2.now; out = a.out.now; aux = a.aux.now } in
    let s : Playing Crossing = record { world = record { bytes = a.bytes.now; word = a.word.now; mem = a.lines.now }; bufs = u; answers = a.answers.now } in
    sheet_refused s a.sheet.now c.in-Err.reason
    (ap (λ (x : Bool). sheet_verdict x a.sheet.now (length a.answers.now) u) (sym c.bad-bad.ensures) ∙ sym c.check_sheet.ensures ∙ c.in-Err.is)
    c.from.ensures c.refuse.ensures

pub returns-in-Ok : goal.returns-in-Ok
returns-in-Ok c =
    let a = c.args in
    let r = c.play_all in
    let u : Bufs = record { temp = a.temp.now; temp2 = a.temp_2.now; out = a.out.now; aux = a.aux.now } in
    let s : Playing Crossing = record { world = record { bytes = a.bytes.now; word = a.word.now; mem = a.lines.now }; bufs = u; answers = a.answers.now } in
    let n = length a.answers.now in
    let e : sheet_verdict (bad_bytes a.bytes.now a.lines.now) a.sheet.now n u ≡ Ok tt =
    ap (λ (x : Bool). sheet_verdict x a.sheet.now n u) (sym c.bad-bad.ensures) ∙ sym c.check_sheet.ensures ∙ c.in-Ok.is in
    let room = (taken (bad_bytes a.bytes.now a.lines.now) a.sheet.now n u e).room in
    let after : Bufs → Playing Crossing = λ v. record {
      world = record { bytes = r.new.bytes; word = r.result; mem = r.new.lines };
      bufs = v;
      answers = r.new.answers;
    } in
    lent_back (search rules) (search rules) (search rules) (search rules) (λ v. GivesSheet s a.sheet.now (0, after v))
    (sheet_played s a.sheet.now c.tell_all.new.answers (after (held r.new.b)) e
    (c.tell_all.ensures ∙ ap (λ (k : ℕ). replicate k c.told_of.result) room ∙ ap (replicate 64) c.told_of.ensures) r.ensures.turned)
