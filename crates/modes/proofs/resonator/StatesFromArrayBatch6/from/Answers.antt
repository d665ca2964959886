-- `resonator::StatesFromArrayBatch6::from` meets its contract: one batch after the other is put to its places.
use mathlib.Core.Path.{◌≡◌, ap, ◌∙◌}
use Prim.Native.Nat.{ℕ}
use lib.ListN.{replicate}
use native.Mathlib.Omega.{arith}
use Rattle.ground.specs.F32.{c0}
use Rattle.modes.proofs.OnePass.{put_first, all_put}
use Rattle.modes.proofs.resonator.StatesFromArrayBatch6.from.Goals as goal

pub returns : goal.returns
returns c =
    let fs = c.args.mode_filters in
    let e : c.loop-b.b ≡ 6 = omega arith in
    c.loop-b.invariant ∙ ap (λ (n : ℕ). put_first fs n (record { state_1 = replicate 24 c0; state_2 = replicate 24 c0 })) e ∙ all_put fs
