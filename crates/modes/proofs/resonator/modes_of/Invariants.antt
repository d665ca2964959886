-- `resonator::modes_of` meets its contract, by the law of loops that store a value at each place.
use Rattle.ground.proofs.Tab.{Stored}
use Rattle.modes.specs.OnePass.{mode_there}
use Rattle.modes.proofs.resonator.modes_of.Given as goal

abbrev pub invariant-loop-i : goal.invariant-loop-i
invariant-loop-i l =
    Stored (λ t. (mode_there l.fn.t t).g) l.initial.modes.g l.i l.modes.g
    × Stored (λ t. (mode_there l.fn.t t).r_plus_g) l.initial.modes.r_plus_g l.i l.modes.r_plus_g
    × Stored (λ t. (mode_there l.fn.t t).h) l.initial.modes.h l.i l.modes.h
    × Stored (λ t. (mode_there l.fn.t t).gain) l.initial.modes.gain l.i l.modes.gain
