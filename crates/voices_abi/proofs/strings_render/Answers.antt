-- `strings_render` meets its contract: block after block.
use mathlib.Core.Path.{refl, sym, ◌∙◌}
use Rattle.std.proofs.Common.{rules}
use Rattle.noise.proofs.Lent.{same_on, lent_is}
use native.Mathlib.Omega.{arith}
use Rattle.ground.proofs.Draw.{run_then}
use Rattle.string_voice.specs.StringVoice.{render_of}
use Rattle.voices_abi.proofs.Blocks.{begin, turn}
use Rattle.voices_abi.proofs.Strings.{sized_again, opened_sized, opened_is, ended}
use Rattle.voices_abi.proofs.strings_render.Goals as goal

pub loop-init : goal.loop-init
loop-init c =
    let a = c.args in (
      begin _ _ _ _ a.word
          (rw (opened_is a.sample_rate_hz a.lines.now (record { temp = a.temp.now; temp2 = a.temp_2.now; out = a.out.now; aux = a.aux.now }) _ _ _ c.new.ensures
          c.init-voice.ensures)
          (opened_sized a.lines.now (record { temp = a.temp.now; temp2 = a.temp_2.now; out = a.out.now; aux = a.aux.now })
          (sym c.fits.ensures ∙ c.if-not-fits.false) a.sample_rate_hz)),
      record { temp = refl; temp2 = refl; out = refl; aux = refl },
    )

pub loop-preserved : goal.loop-preserved
loop-preserved c =
    let a = c.args in
    let e = c.render-r.ensures.all in (
      turn _ _ _ (sized_again _ _) _ a.word _ _ _ _ _ c.loop.invariant.0 (omega arith) (run_then (render_of _ _ _ _ _ _ _) _ _ e),
      same_on
          c.render-r.ensures.same c.loop.invariant.1,
    )

pub returns : goal.returns
returns c =
    let a = c.args in
    lent_is (search rules) (search rules) (search rules) (search rules) (λ v. record { value = (c.loop.lines, v); word = c.loop.drawn })
    (ended a.sample_rate_hz _ _ _ _ a.lines.now (record { temp = a.temp.now; temp2 = a.temp_2.now; out = a.out.now; aux = a.aux.now }) a.word _ _ _
    (sym c.fits.ensures ∙ c.if-not-fits.false)
    (opened_is a.sample_rate_hz a.lines.now (record { temp = a.temp.now; temp2 = a.temp_2.now; out = a.out.now; aux = a.aux.now }) _ _ _ c.new.ensures
    c.init-voice.ensures) c.loop.invariant.0 (omega arith))
