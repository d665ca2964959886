-- Blocks of a modal voice: what each keeps, how they begin and end. Assumes nothing.
use mathlib.Core.Path.{◌≡◌, refl, ap, ◌∙◌}
use mathlib.Core.Bool.{true, false}
use Prim.Native.Nat.{ℕ, ◌≤◌}
use lib.ListN.{length}
use Rattle.ground.specs.Draw.{run}
use Rattle.ground.proofs.Draw.{run_then, Always, always_bind, draws_always}
use Rattle.noise.specs.declared.excitation.Knobs.{Knobs}
use Rattle.noise.specs.Buffers.{Bufs}
use Rattle.modal_voice.specs.declared.modal_voice.ModalVoice.{ModalVoice}
use Rattle.modal_voice.specs.ModalVoice.{voice_new, voice_init, render_of}
use Rattle.modal_voice.proofs.Drawn.{Left, render_draws}
use Rattle.voices_abi.specs.Blocks.{times, alike_sizes}
use Rattle.voices_abi.specs.Modals.{again, modal_blocks}
use Rattle.voices_abi.proofs.Blocks.{Done, end, Alike, alike}

-- what a block needs and keeps: every size
pub record Sized (n : ℕ) (a : ModalVoice × Bufs) : Type 0 where
  pub temp : length a.1.temp ≡ n
  pub temp2 : length a.1.temp2 ≡ n
  pub out : length a.1.out ≡ n
  pub aux : length a.1.aux ≡ n

pub sized_again : (k : Knobs) (n : ℕ) (a : ModalVoice × Bufs) → Sized n a → Always (Sized n) (again k a)
sized_again k n a s =
    let b = a.1 in
    let m = render_of k a.0 b.temp b.temp2 b.out b.aux in
    always_bind (Left k a.0 n) (Sized n) m _
    (draws_always _ (Left k a.0 n) m (render_draws k a.0 n b.temp b.temp2 b.out b.aux s.temp s.temp2 s.out s.aux))
    (λ r l. record { temp = l.temp; temp2 = l.temp2; out = l.out; aux = l.aux })

pub opened_sized : (v : ModalVoice) (b : Bufs) → alike_sizes (length b.temp) (length b.temp2) (length b.out) (length b.aux) ≡ true → Sized (length b.out) (v, b)
opened_sized v b e =
    let f : Alike (length b.temp) (length b.temp2) (length b.out) (length b.aux) = alike (length b.temp) (length b.temp2) (length b.out) (length b.aux) e in
    record { temp = f.temp_is; temp2 = f.temp2_is; out = refl; aux = f.aux_is }

-- what the code has before its loop is a new voice
pub opened_is : (b : Bufs) (v r : ModalVoice) → v ≡ voice_new → r ≡ voice_init v → ◌≡◌ {A = ModalVoice × Bufs} (r, b) (voice_init voice_new, b)
opened_is b v r e f = λ i. ((f ∙ ap voice_init e) i, b)

-- ---- the whole
pub refused : (k : Knobs) (blocks : ℕ) (b : Bufs) (w : ℕ) → alike_sizes (length b.temp) (length b.temp2) (length b.out) (length b.aux) ≡ false
    → run (modal_blocks k blocks b) w ≡ record { value = b; word = w }
unfolding modal_blocks
refused k blocks b w e = rw e

pub ended : (k : Knobs) (n blocks i : ℕ) (b : Bufs) (w₀ : ℕ) (a₀ a : ModalVoice × Bufs) (w : ℕ)
    → alike_sizes (length b.temp) (length b.temp2) (length b.out) (length b.aux) ≡ true → a₀ ≡ (voice_init voice_new, b)
    → Done (again k) (Sized n) blocks a₀ w₀ i a w → blocks ≤ i
    → run (modal_blocks k blocks b) w₀ ≡ record { value = a.1; word = w }
unfolding modal_blocks
ended k n blocks i b w₀ a₀ a w e f d l =
    rw (e, ← f) (run_then (times blocks (again k) a₀) _ w₀ (end (again k) (Sized n) blocks a₀ w₀ i a w d l))
