-- What a sheet that is not refused whole is known by. Assumes nothing.
use mathlib.Core.Path.{◌≡◌}
use mathlib.Core.Bool.{Bool, true, false, not, ◌||◌}
use mathlib.Core.List.{List}
use Prim.Native.Nat.{ℕ, ◌≤◌}
use lib.ListN.{length}
use lib.Dec.{eqb}
use borrow.Author.Tests.{eqb-true, ltb-false, not-false}
use Rattle.std.specs.Prelude.{Ok}
use Rattle.std.specs.List.{list_any, list_all}
use Rattle.ground.proofs.Bools.{or_false}
use Rattle.noise.specs.Excitation.{Alike}
use Rattle.slots.specs.Calls.{Bufs}
use Rattle.bank.proofs.Accepted.{all_spared, fit}
use Rattle.player.specs.declared.sheet.Event.{Event}
use Rattle.player.specs.Sheet.{bad_flag, rises, before_end, event_checks, sheet_verdict}

-- of its frames, in a block of n
pub record Whole (n : ℕ) (es : List Event) : Type 0 where
  pub few : length es ≤ 64
  pub order : rises 0 es ≡ true
  pub inside : list_all (before_end n) es ≡ true

-- and of all that it is lent
pub record Taken (bad : Bool) (es : List Event) (answers : ℕ) (b : Bufs) : Type 0 where
  pub good : bad ≡ false
  pub room : answers ≡ 64
  pub same : Alike b.temp b.temp2 b.out b.aux
  pub short : length b.temp ≤ 4096
  pub whole : Whole (length b.temp) es

pub taken : (bad : Bool) (es : List Event) (answers : ℕ) (b : Bufs) → sheet_verdict bad es answers b ≡ Ok tt → Taken bad es answers b
unfolding sheet_verdict
taken bad es answers b e =
    let c = all_spared _ e in
    let p = or_false (bad || list_any bad_flag es) (not (eqb answers 64)) c.0 in
    let f = fit b (event_checks (length b.temp) es) c.1 in
    record {
      good = (or_false bad (list_any bad_flag es) p.0).0;
      room = eqb-true answers 64 (not-false (eqb answers 64) p.1);
      same = f.same;
      short = f.short;
      whole = record {
        few = ltb-false 64 (length es) f.rest.0;
        order = not-false (rises 0 es) f.rest.1.0;
        inside = not-false (list_all (before_end (length b.temp)) es) f.rest.1.1.0;
      };
    }

pub whole : (bad : Bool) (es : List Event) (answers : ℕ) (b : Bufs) → sheet_verdict bad es answers b ≡ Ok tt → Whole (length b.temp) es
whole bad es answers b e = (taken bad es answers b e).whole
