-- 01's ledger, from its own words. It reads the calls and the length of line memory, and cites nothing of the voices. Assumes nothing.
use Rattle.std.specs.Prelude.{Bool, not, ◌||◌, cond, List, [], ◌∷◌, ℕ, zero, suc, ◌+◌, ◌-◌, min, eqb, length, get_or, set, replicate, Float, Result, Ok, Err}
use Rattle.std.specs.Float.{binary32}
use Rattle.std.specs.Float.Ieee.{of_bits, lt, le, to_unsigned}
use Rattle.ground.specs.F32.{◌⊕◌, ◌⊖◌, ◌⊗◌, ◌⊘◌, c0, c1, c4}
use Rattle.noise.specs.declared.excitation.Knobs.{Knobs}
use Rattle.noise.specs.declared.excitation.Counts.{Counts}
use Rattle.slots.specs.declared.answers.Reason.{Reason}
use Rattle.slots.specs.Answers.{no_counts}
use Rattle.slots.specs.Calls.{Act, opening, reset, render}
use Rattle.slots.specs.Table.{Call, verdict}

-- each slot has kind, left and phase, all 0 on a fresh bank
pub record Led : Type 0 where
  pub kind : ℕ
  pub left : ℕ
  pub phase : Float

abbrev pub fresh_led : Led
fresh_led = record { kind = 0; left = 0; phase = c0 }

-- the whole part of 1/f0: for an f0 that the table accepts it lies between 2 and 1,048,576
unfoldable pub period : Float → ℕ
period f0 = to_unsigned 64 (c1 ⊘ f0)

-- 1/f0 held to 4..1020, and the ratio
unfoldable pub held_period : Float → Float
held_period f0 = let p = c1 ⊘ f0 in cond (lt p c4) c4 (cond (lt (of_bits binary32 0x447f0000) p) (of_bits binary32 0x447f0000) p)

unfoldable pub ratio : Float → Float
ratio f0 = f0 ⊗ held_period f0

-- at or above 0.9999 it becomes 1, and the phase with it, also when n is 0
unfoldable pub whole : Float → Bool
whole f0 = le (of_bits binary32 0x3f7ff972) (ratio f0)

-- a frame adds the ratio to the phase; above 1, subtract 1 and take one string step
unfoldable pub next_phase : Float → Float → Float
next_phase r p = let q = p ⊕ r in cond (lt c1 q) (q ⊖ c1) q

unfoldable pub phase_after : ℕ → Float → Float → Float
phase_after zero r p = p
phase_after (suc n) r p = phase_after n r (next_phase r p)

unfoldable pub steps : ℕ → Float → Float → ℕ
steps zero r p = 0
steps (suc n) r p = cond (lt c1 (p ⊕ r)) 1 0 + steps n r (next_phase r p)

-- what an accepted call makes of its slot, and what it adds to the counts
pub record Entry : Type 0 where
  pub led : Led
  pub counts : Counts

-- a string render of n frames
unfoldable pub string_entry : Knobs → ℕ → Led → Entry
string_entry k n l =
    let left = cond (k.trigger || k.sustain) (period k.f0) l.left in
    let r = cond (whole k.f0) c1 (ratio k.f0) in
    let p = cond (whole k.f0) c1 l.phase in
    record {
      led = record l { left = cond k.sustain left (left - min left n); phase = phase_after n r p };
      counts = record {
        burst = cond k.sustain 0 (min left n);
        dust = cond k.sustain n 0;
        dispersion = cond (lt (of_bits binary32 0x3e851eb8) k.structure) (steps n r p) 0;
      };
    }

-- a modal render: with sustain, dust grows by n
unfoldable pub modal_entry : Knobs → ℕ → Led → Entry
modal_entry k n l = record { led = l; counts = record { burst = 0; dust = cond k.sustain n 0; dispersion = 0 } }

unfoldable pub render_entry : ℕ → Knobs → ℕ → Led → Entry
render_entry zero k n l = record { led = l; counts = no_counts }
render_entry (suc zero) k n l = string_entry k n l
render_entry (suc (suc j)) k n l = modal_entry k n l

unfoldable pub act_entry : Act → Led → Entry
act_entry (opening kind rate) l = record { led = record { kind = kind; left = 0; phase = c0 }; counts = no_counts }
act_entry reset l = record { led = record l { phase = c0 }; counts = no_counts }
act_entry (render k b) l = render_entry l.kind k (length b.temp) l

-- a call's answer by the ledger, and the slots after it
pub record Line : Type 0 where
  pub answer : Result Counts Reason
  pub slots : List Led

-- refused calls change nothing
unfoldable pub line_by : Result (Unit {0}) Reason → List Led → Call → Line
line_by (Ok u) ls c =
    let e = act_entry c.act (get_or ls c.slot fresh_led) in
    record { answer = Ok e.counts; slots = set ls c.slot e.led }
line_by (Err r) ls c = record { answer = Err r; slots = ls }

-- of number 1 only the length of line memory can come up
unfoldable pub line_of : ℕ → List Led → Call → Line
line_of size ls c = line_by (verdict (not (eqb size 10240)) (get_or ls c.slot fresh_led).kind c) ls c

unfoldable pub ledger_from : ℕ → List Led → List Call → List Line
ledger_from size ls [] = []
ledger_from size ls (c ∷ cs) = let l = line_of size ls c in l ∷ ledger_from size l.slots cs

-- the ledger over a list of calls, from a fresh bank
unfoldable pub ledger : ℕ → List Call → List Line
ledger size cs = ledger_from size (replicate 8 fresh_led) cs
