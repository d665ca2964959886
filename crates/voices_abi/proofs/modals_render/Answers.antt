-- `modals_render` meets its contract: block after block.
use mathlib.Core.Path.{sym, ◌∙◌}
use Rattle.std.proofs.Common.{rules}
use Rattle.noise.proofs.Lent.{same_on, lent_is}
use native.Mathlib.Omega.{arith}
use Rattle.ground.proofs.Draw.{run_then}
use Rattle.modal_voice.specs.ModalVoice.{render_of}
use Rattle.voices_abi.proofs.Blocks.{turn}
use Rattle.voices_abi.proofs.Modals.{sized_again, opened_is, ended}
use Rattle.voices_abi.proofs.modals_render.Goals as goal

pub loop-preserved : goal.loop-preserved
loop-preserved c =
    let a = c.args in (
      turn _ _ _ (sized_again _ _) _ a.word _ _ _ _ _ c.loop.invariant.0 (omega arith) (run_then (render_of _ _ _ _ _ _) _ _ c.modal_block-drawn.ensures.all),
      same_on
          c.modal_block-drawn.ensures.same c.loop.invariant.1,
    )

pub returns : goal.returns
returns c =
    let a = c.args in
    lent_is (search rules) (search rules) (search rules) (search rules) (λ v. record { value = v; word = c.loop.drawn })
    (ended _ _ _ _ (record { temp = a.temp.now; temp2 = a.temp_2.now; out = a.out.now; aux = a.aux.now }) a.word _ _ _
    (sym c.alike.ensures ∙ c.if-not-alike.false) (opened_is (record { temp = a.temp.now; temp2 = a.temp_2.now; out = a.out.now; aux = a.aux.now }) _ _
    c.new.ensures c.init-voice.ensures) c.loop.invariant.0 (omega arith))
