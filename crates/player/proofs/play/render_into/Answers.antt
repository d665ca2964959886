-- `play::render_into` meets its contract: the buffers are those lent.
use Rattle.std.proofs.Common.{rules}
use Rattle.noise.proofs.Lent.{lent_is}
use Rattle.player.proofs.play.render_into.Goals as goal

pub returns-clause-left : goal.returns-clause-left
returns-clause-left c =
    let r = c.render in
    lent_is (search rules) (search rules) (search rules) (search rules)
    (λ v. record { answer = r.result.answer; after = record { bank = r.result.bank; word = r.result.word; mem = r.new.lines }; bufs = v })
    r.ensures.left
