-- The words of a render stand in the order of its halves: the excitation's, and then the string's. Assumes nothing.
use mathlib.Core.Path.{◌≡◌, refl, sym, ap, ◌∙◌, subst⁻¹}
use mathlib.Core.Bool.{Bool, true, false}
use mathlib.Core.List.{List, ◌++◌}
use Prim.Native.Nat.{ℕ, zero, suc, ◌+◌}
use native.Mathlib.Omega.{arith}
use lib.ListN.{length}
use Rattle.ground.specs.Draw.{Ran, value, ending, words}
use Rattle.ground.proofs.Draw.{always_run, draws_always, draws_length, run_bind, words_bind, words_then}
use Rattle.noise.specs.declared.excitation.Knobs.{Knobs}
use Rattle.noise.specs.declared.excitation.Counts.{Counts}
use Rattle.waveguide.specs.declared.string.String.{String}
use Rattle.waveguide.specs.Kept.{Good}
use Rattle.string_voice.specs.StringVoice as S
use Rattle.string_voice.proofs.Drawn as string
use Rattle.modal_voice.specs.ModalVoice as M
use Rattle.modal_voice.proofs.Drawn as modal
use Rattle.std.specs.Prelude.{Ok}
use Rattle.slots.specs.Calls.{Bufs, Act, opening, reset, render, Voice, Done, string_def, modal_def, render_def, act_def}
use Rattle.slots.specs.Table.{first, checks}
use Rattle.claims.specs.Claim.{render_order, call_order}
use Rattle.noise.specs.Excitation.{Alike}
use Rattle.bank.proofs.Accepted.{Sound, alike_lent}

-- the words of an excitation are those of the burst or of the dust
by_both : (sustain : Bool) (l n : ℕ) → S.excitation_words sustain l n ≡ string.burst_words sustain l n + string.dust_words sustain n
by_both true l n = omega arith
by_both false l n = omega arith

module _ (k : Knobs) (b : Bufs) (v : Voice) (w : ℕ) (a : Alike b.temp b.temp2 b.out b.aux) where
  module _ (o : Sound v.slot) (size : length v.lines ≡ 1280) where
    string_order : render_order 1 k b v w (value (string_def k b v) w).counts (words (string_def k b v) w)
    unfolding string_def S.render_of
    string_order =
        let n = length b.temp in
        let x = v.slot.string in
        let l = string.left_at k x in
        let g : Good (x.string, v.lines) = record { size = size; string = o.string; stretch = o.stretch } in
        let e = S.excite_of k x b.temp b.temp2 b.aux in
        let t = value e w in
        let s = S.sound_of k t.voice v.lines t.temp2 b.out in
        let r = S.render_of k x v.lines b.temp b.temp2 b.out b.aux in
        let de = string.excite_draws k x n b.temp b.temp2 b.aux refl a.temp2_is a.aux_is in
        let f : string.FirstHalf k x n t = always_run (string.FirstHalf k x n) e w (draws_always _ _ e de) refl in
        let ds = string.sound_draws k t.voice n v.lines t.temp2 b.out (subst⁻¹ (λ (q : String). Good (q, v.lines)) f.string g) f.temp2 a.out_is in
        let whole : string.Left k x n (value r w) = always_run (string.Left k x n) r w
        (draws_always _ _ r (string.render_draws k x n v.lines b.temp b.temp2 b.out b.aux g refl a.temp2_is a.out_is a.aux_is)) refl in
        let c : (value (string_def k b v) w).counts ≡ string.counts_of k x n = ap (λ (q : Ran Done). q.value.counts) (run_bind r _ w) ∙ whole.counts in
        record {
          both = words_then r _ w ∙ words_bind e _ w ∙ ap (λ (ws : List ℕ). words e w ++ ws) (words_then s _ (ending e w));
          excitation = draws_length (S.excitation_words k.sustain l n) _ e w de ∙ by_both k.sustain l n ∙ ap (λ (c : Counts). c.burst + c.dust) (sym c);
          string = draws_length (string.dispersion_words k t.voice.string n) _ s (ending e w) ds
              ∙ ap (λ (q : String). string.dispersion_words k q n) f.string ∙ ap (λ (c : Counts). c.dispersion) (sym c);
        }

  modal_order : (j : ℕ) → render_order (suc (suc j)) k b v w (value (modal_def k b v) w).counts (words (modal_def k b v) w)
  unfolding modal_def M.render_of M.sound_of
  modal_order j =
      let n = length b.temp in
      let x = v.slot.modal in
      let e = M.excite_of k x b.temp b.temp2 b.aux in
      let r = M.render_of k x b.temp b.temp2 b.out b.aux in
      let de = modal.excite_draws k x n b.temp b.temp2 b.aux refl a.temp2_is a.aux_is in
      let whole : modal.Left k x n (value r w) = always_run (modal.Left k x n) r w
      (draws_always _ _ r (modal.render_draws k x n b.temp b.temp2 b.out b.aux refl a.temp2_is a.out_is a.aux_is)) refl in
      let c : (value (modal_def k b v) w).counts ≡ M.excitation_counts (M.excitation_words k.sustain n) = ap (λ (q : Ran Done). q.value.counts) (run_bind r _ w)
      ∙ whole.counts in
      record {
        both = words_then r _ w ∙ words_bind e _ w;
        excitation = draws_length (M.excitation_words k.sustain n) _ e w de ∙ omega arith ∙ ap (λ (c : Counts). c.burst + c.dust) (sym c);
        string = ap (λ (c : Counts). c.dispersion) (sym c);
      }

-- a call that the table accepts
pub order_law : (a : Act) (v : Voice) (w : ℕ) → Sound v.slot → length v.lines ≡ 1280 → first (checks v.slot.kind a) ≡ Ok tt
    → call_order a (Ok (value (act_def a v) w).counts) v w (words (act_def a v) w)
unfolding act_def checks render_def
order_law (opening kind rate) v w o e p = refl
order_law reset v w o e p = refl
order_law (render k b) v w o e p = by_kind v.slot.kind
  where
    same : Alike b.temp b.temp2 b.out b.aux
    same = alike_lent v.slot.kind k b p

    by_kind : (kind : ℕ) → render_order kind k b v w (value (render_def kind k b v) w).counts (words (render_def kind k b v) w)
    by_kind zero = tt
    by_kind (suc zero) = string_order k b v w same o e
    by_kind (suc (suc j)) = modal_order k b v w same j
