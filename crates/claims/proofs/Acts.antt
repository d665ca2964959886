-- What a whole list needs of one voice: an accepted call draws as many words as the ledger says, whatever they are, and leaves what the ledger says. Assumes
-- nothing.
use mathlib.Core.Path.{◌≡◌, refl, sym, ap, ◌∙◌, subst}
use mathlib.Core.Bool.{Bool, true, false, not, ◌||◌, cond}
use Prim.Native.Nat.{ℕ, zero, suc, ◌+◌, ◌-◌, ◌≤◌, ◌<◌, min, zero-le}
use native.Mathlib.Omega.{arith}
use lib.ListN.{length, length-replicate}
use lib.Dec.{T, eqb, eqb→eq, lit<, lit≤}
use lib.Ieee.{Float, binary32, fits, le}
use denote.Floats.{passes, is_true}
use borrow.Author.Tests.{not-false}
use Rattle.ground.specs.F32.{c0, c0·5, c1}
use Rattle.ground.specs.Draw.{Draw}
use Rattle.ground.proofs.Draw.{Draws, draws_then}
use Rattle.bounds.proofs.Order.{and_true}
use Rattle.noise.specs.declared.excitation.Knobs.{Knobs}
use Rattle.waveguide.specs.String.{string_new, string_init, string_reset}
use Rattle.string_voice.specs.StringVoice.{excitation_words, voice_new, voice_init, voice_reset, render_of}
use Rattle.noise.proofs.Ranges.{Knob, Fundamental, knob, fundamental}
use Rattle.string_voice.proofs.Drawn as string
use Rattle.modal_voice.specs.ModalVoice as modal-specs
use Rattle.modal_voice.proofs.Drawn as modal
use Rattle.std.specs.Prelude.{Ok}
use Rattle.slots.specs.declared.slots.Slot.{Slot}
use Rattle.slots.specs.Slots.{no_string}
use Rattle.slots.specs.Calls.{Bufs, Act, opening, reset, render, InF32, lent, Voice, Done, open_def, reset_def, string_def, modal_def, render_def, act_def}
use Rattle.slots.specs.Table.{first, in_range, lowest, checks}
use Rattle.noise.specs.Excitation.{Alike}
use Rattle.bank.proofs.Accepted.{Sound, all_spared, render_spared, alike_lent}
use Rattle.claims.specs.Ledger.{Led, Entry, string_entry, modal_entry, render_entry, act_entry}
use Rattle.claims.specs.Claim.{total}
use Rattle.claims.proofs.Agreement.{left_is, phase_is, dispersion_is}

-- ---- a slot as the ledger has it

abbrev pub led_of : Slot → Led
led_of x = record { kind = x.kind; left = x.string.remaining_noise_samples; phase = x.string.string.src_phase }

-- buffers of the same lengths
pub record SameSizes (b c : Bufs) : Type 0 where
  pub temp : length b.temp ≡ length c.temp
  pub temp2 : length b.temp2 ≡ length c.temp2
  pub out : length b.out ≡ length c.out
  pub aux : length b.aux ≡ length c.aux

pub same_sizes : (b : Bufs) → SameSizes b b
same_sizes b = record { temp = refl; temp2 = refl; out = refl; aux = refl }

-- what a call for one voice leaves is what the ledger says, and its buffers keep their lengths
pub record Follows (a : Act) (e : Entry) (d : Done) : Type 0 where
  pub led : led_of d.voice.slot ≡ e.led
  pub ok : Sound d.voice.slot
  pub lines : length d.voice.lines ≡ 1280
  pub counts : d.counts ≡ e.counts
  pub sizes : SameSizes d.bufs (lent a)

-- it draws as many words as the ledger counts
abbrev pub ByLedger : Act → Entry → Draw Done → Type 0
ByLedger a e m = Draws (total e.counts) (Follows a e) m

-- ---- a string's render

-- burst or dust words first, dispersion words behind them
in_order : (sustain : Bool) (l n d : ℕ) → excitation_words sustain l n + d ≡ string.burst_words sustain l n + string.dust_words sustain n + d
in_order true l n d = omega arith
in_order false l n d = omega arith

module _ (k : Knobs) (b : Bufs) (v : Voice) (o : Sound v.slot) (e : length v.lines ≡ 1280) (a : Alike b.temp b.temp2 b.out b.aux) where
  module _ (f : Fundamental k.f0) (s : Knob k.structure) (t : T (fits binary32 k.structure)) where
    counts_are : string.counts_of k v.slot.string (length b.temp) ≡ (string_entry k (length b.temp) (led_of v.slot)).counts
    unfolding string_entry
    counts_are i =
        let n = length b.temp in
        record {
          burst = cond k.sustain 0 (min (left_is k v.slot.string f i) n);
          dust = cond k.sustain n 0;
          dispersion = dispersion_is k v.slot.string.string n t s i;
        }

    string_law : ByLedger (render k b) (string_entry k (length b.temp) (led_of v.slot)) (string_def k b v)
    unfolding string_def string_entry
    string_law =
        let n = length b.temp in
        let x = v.slot.string in
        let l = string_entry k n (led_of v.slot) in
        let m = render_of k x v.lines b.temp b.temp2 b.out b.aux in
        draws_then (total l.counts) (string.Left k x n) (Follows (render k b) l) m _
        (subst (λ (j : ℕ). Draws j (string.Left k x n) m)
        (in_order k.sustain (string.left_at k x) n (string.dispersion_words k x.string n) ∙ ap total counts_are)
        (string.render_draws k x n v.lines b.temp b.temp2 b.out b.aux (record { size = e; string = o.string; stretch = o.stretch }) refl a.temp2_is a.out_is
        a.aux_is))
        (λ r h. record {
          led = λ i. record {
            kind = v.slot.kind;
            left = (h.left ∙ ap (λ (l : ℕ). cond k.sustain l (l - min l n)) (left_is k x f)) i;
            phase = (h.string.phase ∙ phase_is k x.string n) i;
          };
          ok = record {
            known = o.known;
            string = h.string.good.string;
            stretch = h.string.good.stretch;
            left = subst (λ (l : ℕ). l ≤ 1048576) (sym h.left) (string.left_at_most k x n f o.left);
          };
          lines = h.string.good.size;
          counts = h.counts ∙ counts_are;
          sizes = record { temp = h.temp; temp2 = h.temp2 ∙ sym a.temp2_is; out = h.out ∙ sym a.out_is; aux = h.aux ∙ sym a.aux_is };
        })

  -- ---- a modal render

  modal_law : ByLedger (render k b) (modal_entry k (length b.temp) (led_of v.slot)) (modal_def k b v)
  unfolding modal_def modal_entry
  modal_law =
      let n = length b.temp in
      let d = modal-specs.excitation_words k.sustain n in
      let m = modal-specs.render_of k v.slot.modal b.temp b.temp2 b.out b.aux in
      let P = modal.Left k v.slot.modal n in
      draws_then (0 + d + 0) P (Follows (render k b) (modal_entry k n (led_of v.slot))) m _
      (subst (λ (j : ℕ). Draws j P m) (omega arith)
      (modal.render_draws k v.slot.modal n b.temp b.temp2 b.out b.aux refl a.temp2_is a.out_is a.aux_is))
      (λ q h. record {
        led = refl;
        ok = record { known = o.known; string = o.string; stretch = o.stretch; left = o.left };
        lines = e;
        counts = h.counts;
        sizes = record { temp = h.temp; temp2 = h.temp2 ∙ sym a.temp2_is; out = h.out ∙ sym a.out_is; aux = h.aux ∙ sym a.aux_is };
      })

-- ---- the table

pub passes_test : (b : Bool) → not b ≡ false → T b
passes_test b e = passes b (not-false b e)

pub f0_in : (f0 : Float) → T (in_range lowest c0·5 f0) → Fundamental f0
unfolding in_range
f0_in f0 t =
    let p = and_true (le lowest f0) (le f0 c0·5) t in
    fundamental f0 (is_true (le lowest f0) p.0) (is_true (le f0 c0·5) p.1)

pub knob_in : (x : Float) → T (in_range c0 c1 x) → Knob x
unfolding in_range
knob_in x t =
    let p = and_true (le c0 x) (le x c1) t in
    knob x (is_true (le c0 x) p.0) (is_true (le x c1) p.1)

-- ---- every call for one voice

open_law : (kind : ℕ) (rate : Float) (v : Voice) → length v.lines ≡ 1280 → T (eqb kind 1 || eqb kind 2)
    → Follows (opening kind rate) (act_entry (opening kind rate) (led_of v.slot)) (open_def kind rate v)
unfolding act_entry open_def voice_init voice_new string_new string_init string_reset no_string
open_law zero rate v e t = absurd t
open_law (suc zero) rate v e t =
    record {
      led = refl;
      ok = record { known = lit≤ tt; string = lit< tt; stretch = lit< tt; left = zero-le };
      lines = length-replicate (length v.lines) c0 ∙ e;
      counts = refl;
      sizes = record { temp = refl; temp2 = refl; out = refl; aux = refl };
    }
open_law (suc (suc zero)) rate v e t =
    record {
      led = refl;
      ok = record { known = lit≤ tt; string = lit< tt; stretch = lit< tt; left = zero-le };
      lines = length-replicate (length v.lines) c0 ∙ e;
      counts = refl;
      sizes = record { temp = refl; temp2 = refl; out = refl; aux = refl };
    }
open_law (suc (suc (suc j))) rate v e t = let kind = suc (suc (suc j)) in absurd
    (above_two kind (omega arith) (eqb kind 1) (eqb kind 2) (eqb→eq kind 1) (eqb→eq kind 2) t)
  where
    above_two : (kind : ℕ) → 2 < kind → (x y : Bool) → (T x → kind ≡ 1) → (T y → kind ≡ 2) → T (x || y) → ⊥
    above_two kind l true y f g t = omega (arith, f tt)
    above_two kind l false true f g t = omega (arith, g tt)
    above_two kind l false false f g t = t

reset_law : (v : Voice) → Sound v.slot → length v.lines ≡ 1280 → Follows reset (act_entry reset (led_of v.slot)) (reset_def v)
unfolding act_entry reset_def voice_reset string_reset
reset_law v o e =
    record {
      led = refl;
      ok = record { known = o.known; string = lit< tt; stretch = lit< tt; left = o.left };
      lines = length-replicate (length v.lines) c0 ∙ e;
      counts = refl;
      sizes = record { temp = refl; temp2 = refl; out = refl; aux = refl };
    }

render_law : (kind : ℕ) (k : Knobs) (b : Bufs) (v : Voice) → Sound v.slot → length v.lines ≡ 1280 → Alike b.temp b.temp2 b.out b.aux
    → Fundamental k.f0 → Knob k.structure → T (fits binary32 k.structure)
    → ByLedger (render k b) (render_entry kind k (length b.temp) (led_of v.slot)) (render_def kind k b v)
unfolding render_entry render_def
render_law zero k b v o e a f s t = (refl, record { led = refl; ok = o; lines = e; counts = refl; sizes = same_sizes b })
render_law (suc zero) k b v o e a f s t = string_law k b v o e a f s t
render_law (suc (suc j)) k b v o e a f s t = modal_law k b v o e a

pub act_law : (a : Act) (v : Voice) → Sound v.slot → length v.lines ≡ 1280 → InF32 a → first (checks v.slot.kind a) ≡ Ok tt
    → ByLedger a (act_entry a (led_of v.slot)) (act_def a v)
unfolding act_def act_entry checks
act_law (opening kind rate) v o e i p =
    let c = all_spared (checks v.slot.kind (opening kind rate)) p in
    (refl, open_law kind rate v e (passes_test (eqb kind 1 || eqb kind 2) c.0))
act_law reset v o e i p = (refl, reset_law v o e)
act_law (render k b) v o e i p =
    let c = render_spared v.slot.kind k b p in
    render_law v.slot.kind k b v o e (alike_lent v.slot.kind k b p)
    (f0_in k.f0 (passes_test (in_range lowest c0·5 k.f0) c.f0))
    (knob_in k.structure (passes_test (in_range c0 c1 k.structure) c.structure)) i
