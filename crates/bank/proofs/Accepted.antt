-- What the table's acceptance tells. Assumes nothing.
use mathlib.Core.Path.{◌≡◌, refl}
use mathlib.Core.Bool.{Bool, true, false, true≢false, not, ◌||◌}
use mathlib.Core.List.{List, [], ◌∷◌, ◌++◌}
use Prim.Native.Nat.{ℕ, zero, suc, ◌<◌, ◌≤◌}
use native.Mathlib.Omega.{arith}
use lib.Dec.{eqb, leb, ltb}
use lib.ListN.{length, get_or}
use lib.Ieee.{Float}
use borrow.Author.Tests.{eqb-true, eqb-false, ltb-false, leb-false, not-false}
use Rattle.std.specs.Prelude.{Result, Ok}
use Rattle.ground.specs.F32.{c0, c0·5, c1}
use Rattle.ground.specs.Each.{Each}
use Rattle.ground.proofs.Bools.{or_false}
use Rattle.noise.specs.declared.excitation.Knobs.{Knobs}
use Rattle.noise.specs.Excitation.{Alike}
use Rattle.waveguide.specs.String.{string_new}
use Rattle.string_voice.specs.StringVoice as string_voice
use Rattle.slots.specs.declared.answers.Reason.{Reason}
use Rattle.slots.specs.declared.answers.Reason.TheVariants as R
use Rattle.slots.specs.declared.slots.Slot.{Slot}
use Rattle.slots.specs.declared.slots.Bank.{Bank}
use Rattle.slots.specs.Slots.{no_string, empty_slot, slot_at}
use Rattle.slots.specs.Calls.{Bufs, Act, opening, render}
use Rattle.slots.specs.Table.{Call, Check, ◌⇐◌, first, in_range, lowest, buffer_checks, knob_checks, checks, verdict, bad_slot, bad_slots, bad}
use Rattle.bank.specs.World.{Ready}
use Rattle.bank.proofs.Moves.{decided}

-- a check of a call that is accepted does not apply, and none of them does
pub spared : (r : Reason) (b : Bool) (cs : List Check) → first (r ⇐ b ∷ cs) ≡ Ok tt → (b ≡ false) × (first cs ≡ Ok tt)
unfolding first
spared r true cs e = let z : ◌≡◌ {A = ℕ} 0 1 = cc in absurd (omega arith)
spared r false cs e = (refl, e)

pub all_spared : (cs : List Check) → first cs ≡ Ok tt → Each (λ c. c.applies ≡ false) cs
all_spared [] e = tt
all_spared (c ∷ cs) e = let p = spared c.reason c.applies cs e in (p.0, all_spared cs p.1)

-- no slot is bad, and neither is what stands past the end
none_bad : (l : List Slot) (i : ℕ) (d : Slot) → bad_slot d ≡ false → bad_slots l ≡ false → bad_slot (get_or l i d) ≡ false
unfolding bad_slots
none_bad [] i d h e = h
none_bad (x ∷ xs) zero d h e = (or_false (bad_slot x) (bad_slots xs) e).0
none_bad (x ∷ xs) (suc i) d h e = none_bad xs i d h (or_false (bad_slot x) (bad_slots xs) e).1

empty_good : bad_slot empty_slot ≡ false
unfolding bad_slot empty_slot no_string string_voice.voice_new string_new
empty_good = refl

-- what number 1 leaves of a slot
pub record Sound (x : Slot) : Type 0 where
  pub known : x.kind ≤ 2
  pub string : x.string.string.string < 1024
  pub stretch : x.string.string.stretch < 256
  pub left : x.string.remaining_noise_samples ≤ 1048576

pub sound : (x : Slot) → bad_slot x ≡ false → Sound x
unfolding bad_slot
sound x e =
    let a = ltb 2 x.kind in
    let b = leb 1024 x.string.string.string in
    let c = leb 256 x.string.string.stretch in
    let p = or_false (a || b || c) (ltb 1048576 x.string.remaining_noise_samples) e in
    let q = or_false (a || b) c p.0 in
    let r = or_false a b q.0 in
    record {
      known = ltb-false 2 x.kind r.0;
      string = leb-false 1024 x.string.string.string r.1;
      stretch = leb-false 256 x.string.string.stretch q.1;
      left = ltb-false 1048576 x.string.remaining_noise_samples p.1;
    }

-- what number 1 leaves of a bank and of line memory
pub record Whole (b : Bank) (mem : List Float) (slot : ℕ) : Type 0 where
  pub size : length mem ≡ 10240
  pub sound : Sound (slot_at b slot)

pub whole : (b : Bank) (mem : List Float) (slot : ℕ) → bad b mem ≡ false → Whole b mem slot
unfolding bad
whole b mem slot e =
    let o = or_false (not (eqb (length mem) 10240)) (bad_slots b.slots) e in
    record {
      size = eqb-true (length mem) 10240 (not-false (eqb (length mem) 10240) o.0);
      sound = sound (slot_at b slot) (none_bad b.slots slot empty_slot empty_good o.1);
    }

-- what numbers 1 and 2 leave
pub record Begun (bad : Bool) (slot kind : ℕ) (act : Act) : Type 0 where
  pub good : bad ≡ false
  pub slot_within : slot < 8
  pub rest : first (checks kind act) ≡ Ok tt

pub begun : (bad : Bool) (slot kind : ℕ) (act : Act) → verdict bad kind (record { slot = slot; act = act }) ≡ Ok tt → Begun bad slot kind act
unfolding verdict
begun bad slot kind act e =
    let p = spared R.Memory bad (R.NoSlot ⇐ ltb 7 slot ∷ checks kind act) e in
    let q = spared R.NoSlot (ltb 7 slot) (checks kind act) p.1 in
    let h = ltb-false 7 slot q.0 in
    record { good = p.0; slot_within = omega arith; rest = q.1 }

-- what an accepted call has passed, where the code read the table's word off its bank
pub record Taken (b : Bank) (mem : List Float) (c : Call) : Type 0 where
  pub word : verdict (bad b mem) (slot_at b c.slot).kind c ≡ Ok tt
  pub slot_within : c.slot < 8
  pub whole : Whole b mem c.slot
  pub rest : first (checks (slot_at b c.slot).kind c.act) ≡ Ok tt

pub taken : (b : Bank) (mem : List Float) (c : Call) {d : Bool} {n : ℕ} {r : Result (Unit {0}) Reason} → r ≡ verdict d n c → d ≡ bad b mem
    → n ≡ (slot_at b c.slot).kind → r ≡ Ok tt
    → Taken b mem c
taken b mem c e eb en ev =
    let w = decided c e eb en ev in
    let g = begun (bad b mem) c.slot (slot_at b c.slot).kind c.act w in
    record { word = w; slot_within = g.slot_within; whole = whole b mem c.slot g.good; rest = g.rest }

-- a kind that may be opened is not 0
pub asked : (kind k : ℕ) (rate : Float) → first (checks kind (opening k rate)) ≡ Ok tt → 0 < k
unfolding checks
asked kind zero rate e = absurd (true≢false (spared R.Kind true _ e).0)
asked kind (suc k) rate e = omega arith

-- what the checks of four buffers leave, none of which applies: they have one length, of at most 4,096, and no check behind applies
pub record Fit (u : Bufs) (cs : List Check) : Type 0 where
  pub same : Alike u.temp u.temp2 u.out u.aux
  pub short : length u.temp ≤ 4096
  pub rest : Each (λ c. c.applies ≡ false) cs

pub fit : (u : Bufs) (cs : List Check) → Each (λ c. c.applies ≡ false) (buffer_checks u ++ cs) → Fit u cs
fit u cs h =
    let n = length u.temp in
    let same : (m : ℕ) → not (eqb m n) ≡ false → m ≡ n = λ m e. eqb-true m n (not-false (eqb m n) e) in
    record {
      same = record { temp2_is = same (length u.temp2) h.0; out_is = same (length u.out) h.1.0; aux_is = same (length u.aux) h.1.1.0 };
      short = ltb-false 4096 n h.1.1.1.0;
      rest = h.1.1.1.1;
    }

-- what the checks of a render leave, none of which applies
pub record Spared (kind : ℕ) (k : Knobs) (u : Bufs) : Type 0 where
  pub full : eqb kind 0 ≡ false
  pub fits : Fit u (knob_checks k)
  pub f0 : not (in_range lowest c0·5 k.f0) ≡ false
  pub accent : not (in_range c0 c1 k.accent) ≡ false
  pub structure : not (in_range c0 c1 k.structure) ≡ false
  pub brightness : not (in_range c0 c1 k.brightness) ≡ false
  pub damping : not (in_range c0 c1 k.damping) ≡ false

-- what they leave: its slot is not empty, and its buffers have one length, of at most 4,096
module _ (kind : ℕ) (k : Knobs) (u : Bufs) (e : first (checks kind (render k u)) ≡ Ok tt) where
  pub render_spared : Spared kind k u
  unfolding checks
  render_spared =
      let c = all_spared (checks kind (render k u)) e in
      let f = fit u (knob_checks k) c.1 in
      let knobs = f.rest in
      record {
        full = c.0;
        fits = f;
        f0 = knobs.0;
        accent = knobs.1.0;
        structure = knobs.1.1.0;
        brightness = knobs.1.1.1.0;
        damping = knobs.1.1.1.1.0;
      }

  pub alike_lent : Alike u.temp u.temp2 u.out u.aux
  alike_lent = render_spared.fits.same

  short : length u.out ≤ 4096
  short = omega (arith, alike_lent.out_is, render_spared.fits.short)

  pub ready : (x : Slot) (mem : List Float) (slot : ℕ) → x.kind ≡ kind → Sound x → length mem ≡ 10240 → slot < 8 → Ready x mem slot u.out
  ready x mem slot ek s size in8 =
      let full : kind ≡ 0 → ⊥ = eqb-false kind 0 render_spared.full in
      record { full = omega arith; known = s.known; voice = record { slot_within = in8; size = size; string = s.string; stretch = s.stretch; short = short } }
