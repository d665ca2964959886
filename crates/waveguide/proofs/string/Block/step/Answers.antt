-- `string::Block::step` meets its contract, by the law that puts its calls together.
use mathlib.Core.Path.{ap}
use Prim.Native.Nat.{ℕ, ◌+◌}
use Rattle.waveguide.proofs.Steps.{stepped, guess_on}
use Rattle.waveguide.proofs.string.Block.step.Goals as goal

pub returns : goal.returns
returns c =
    let a = c.args in
    let b = a.self in
    let e = c.bend-bent.ensures in (
      stepped b.shape b.params a.in_sample a.v.string a.v.word a.lines.now e.0 c.hear-s.ensures c.clamp.ensures c.process_sample-dc_blocker.ensures
          c.process-sample.ensures c.write-next.ensures c.curve.ensures,
      e.1,
      ap (λ (k : ℕ). a.v.drawn + k) c.words.ensures,
      guess_on b.shape b.params a.v e.0 e.2,
    )
