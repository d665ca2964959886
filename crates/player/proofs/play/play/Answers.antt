-- `play::play` meets its contract: the table decides.
use Rattle.std.proofs.Common.{sym, ◌∙◌, ap, ◌≡◌, ℕ, Bool, length, false, replicate}
use Rattle.std.proofs.lemmas.List.{length-replicate}
use Rattle.std.specs.Prelude.{Ok, Err}
use Rattle.noise.specs.Buffers.{held}
use Rattle.slots.specs.Table.{bad}
use Rattle.bank.specs.World.{World}
use Rattle.player.specs.Sheet.{sheet_verdict}
use Rattle.player.specs.Play.{Playing, bank_move}
use Rattle.player.proofs.Accepted.{taken}
use Rattle.player.proofs.Turns.{good_bank, refused_whole, played_whole}
use Rattle.player.proofs.play.play.Goals as goal

pub play_all-requires : goal.play_all-requires
play_all-requires c =
    let a = c.args in
    let n = length a.answers.now in
    let e : sheet_verdict c.bad-bad.result a.sheet.now n (held a.b.now) ≡ Ok tt = sym c.check_sheet.ensures ∙ c.in-Ok.is in
    ap (λ (k : ℕ). sheet_verdict false a.sheet.now k (held a.b.now)) (ap length c.tell_all.ensures ∙ length-replicate n c.told_of.result)
    ∙ good_bank c.bad-bad.result a.sheet.now n (held a.b.now) e

pub returns-in-Err-clause-left : goal.returns-in-Err-clause-left
returns-in-Err-clause-left c =
    let a = c.args in
    let s : Playing World = record { world = record { bank = a.bank; word = a.word; mem = a.lines.now }; bufs = held a.b.now; answers = a.answers.now } in
    let e : sheet_verdict (bad a.bank a.lines.now) a.sheet.now (length a.answers.now) (held a.b.now) ≡ Err c.in-Err.reason =
    ap (λ (x : Bool). sheet_verdict x a.sheet.now (length a.answers.now) (held a.b.now)) (sym c.bad-bad.ensures) ∙ sym c.check_sheet.ensures ∙ c.in-Err.is in
    refused_whole bank_move (bad a.bank a.lines.now) a.sheet.now s c.in-Err.reason e
    ∙ λ i. (sym c.from.ensures i, record s { answers = sym c.refuse.ensures i })

pub returns-in-Ok-clause-left : goal.returns-in-Ok-clause-left
returns-in-Ok-clause-left c =
    let a = c.args in
    let r = c.play_all in
    let s : Playing World = record { world = record { bank = a.bank; word = a.word; mem = a.lines.now }; bufs = held a.b.now; answers = a.answers.now } in
    let n = length a.answers.now in
    let e : sheet_verdict (bad a.bank a.lines.now) a.sheet.now n (held a.b.now) ≡ Ok tt =
    ap (λ (x : Bool). sheet_verdict x a.sheet.now n (held a.b.now)) (sym c.bad-bad.ensures) ∙ sym c.check_sheet.ensures ∙ c.in-Ok.is in
    let t = taken (bad a.bank a.lines.now) a.sheet.now n (held a.b.now) e in
    played_whole bank_move (bad a.bank a.lines.now) a.sheet.now s _ _ e
    (c.tell_all.ensures ∙ ap (λ (k : ℕ). replicate k c.told_of.result) t.room ∙ ap (replicate 64) c.told_of.ensures) r.ensures.turned
    ∙ λ i. (
      sym r.ensures.number i,
      record {
        world = record { bank = r.result.bank; word = r.result.word; mem = r.new.lines };
        bufs = held r.new.b;
        answers = r.new.answers;
      },
    )
