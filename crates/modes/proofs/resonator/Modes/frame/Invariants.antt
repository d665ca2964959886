-- `resonator::Modes::frame` meets its contract, by the law of loops that only count.
use Prim.Native.Nat.{ℕ, ◌*◌}
use Rattle.ground.proofs.Frames.{Counted}
use Rattle.modes.specs.OnePass.{Bands, four_of}
use Rattle.modes.proofs.resonator.Modes.frame.Given as goal

abbrev pub invariant-loop-b : goal.invariant-loop-b
invariant-loop-b g l =
    Counted (λ (b : Bands) (j : ℕ). four_of l.self l.x b (4 * j)) 6 (record { states = l.initial.states; bands = l.initial.bands }) l.b
    (record { states = l.states; bands = l.bands })
