-- Blocks of a string voice: what each keeps, how they begin and end. Assumes nothing.
use mathlib.Core.Path.{◌≡◌, refl, ap, ◌∙◌}
use mathlib.Core.Bool.{true, false}
use mathlib.Core.List.{List}
use Prim.Native.Nat.{ℕ, ◌≤◌}
use native.Mathlib.Omega.{arith}
use borrow.Author.Tests.{eqb-true}
use lib.Dec.{eqb}
use lib.ListN.{length, length-replicate}
use lib.Ieee.{Float}
use Rattle.ground.specs.F32.{c0}
use Rattle.ground.specs.Draw.{run}
use Rattle.ground.proofs.Bools.{and_true}
use Rattle.ground.proofs.Draw.{run_then, Always, always_bind, draws_always}
use Rattle.noise.specs.declared.excitation.Knobs.{Knobs}
use Rattle.noise.specs.Buffers.{Bufs}
use Rattle.string_voice.specs.declared.string_voice.StringVoice.{StringVoice}
use Rattle.waveguide.specs.String.{string_reset, string_init}
use Rattle.waveguide.specs.Kept.{Good}
use Rattle.string_voice.specs.StringVoice.{voice_new, voice_init, render_of}
use Rattle.string_voice.proofs.Drawn.{Left, render_draws}
use Rattle.voices_abi.specs.Blocks.{times, alike_sizes}
use Rattle.voices_abi.specs.Strings.{again, sizes_fit, blocks_of}
use Rattle.voices_abi.proofs.Blocks.{Done, end, Alike, alike}

-- what a block needs and keeps: the places and every size
pub record Sized (n : ℕ) (a : (StringVoice × List Float) × Bufs) : Type 0 where
  pub small : n ≤ 4096
  pub good : Good (a.0.0.string, a.0.1)
  pub temp : length a.1.temp ≡ n
  pub temp2 : length a.1.temp2 ≡ n
  pub out : length a.1.out ≡ n
  pub aux : length a.1.aux ≡ n

pub sized_again : (k : Knobs) (n : ℕ) (a : (StringVoice × List Float) × Bufs) → Sized n a → Always (Sized n) (again k a)
sized_again k n a s =
    let b = a.1 in
    let m = render_of k a.0.0 a.0.1 b.temp b.temp2 b.out b.aux in
    always_bind (Left k a.0.0 n) (Sized n) m _
    (draws_always _ (Left k a.0.0 n) m (render_draws k a.0.0 n a.0.1 b.temp b.temp2 b.out b.aux s.good s.temp s.temp2 s.out s.aux))
    (λ r l. record { small = s.small; good = l.string.good; temp = l.temp; temp2 = l.temp2; out = l.out; aux = l.aux })

-- ---- a new voice's sizes
module _ (lines : List Float) (b : Bufs) (fit : sizes_fit (length lines) (length b.temp) (length b.temp2) (length b.out) (length b.aux) ≡ true) where
  fitting : (eqb (length lines) 1280 ≡ true) × (alike_sizes (length b.temp) (length b.temp2) (length b.out) (length b.aux) ≡ true)
  fitting = and_true (eqb (length lines) 1280) (alike_sizes (length b.temp) (length b.temp2) (length b.out) (length b.aux)) fit

  -- the lines were 1,280 from the start
  pub lines_size : length lines ≡ 1280
  lines_size = eqb-true (length lines) 1280 fitting.0

  pub opened_sized : (rate : Float) → Sized (length b.out) (voice_init voice_new rate lines, b)
  unfolding voice_init string_init string_reset
  opened_sized rate =
      let f : Alike (length b.temp) (length b.temp2) (length b.out) (length b.aux) = alike (length b.temp) (length b.temp2) (length b.out) (length b.aux)
      fitting.1 in
      record {
        small = f.small;
        good = record { size = length-replicate (length lines) c0 ∙ lines_size; string = omega arith; stretch = omega arith };
        temp = f.temp_is;
        temp2 = f.temp2_is;
        out = refl;
        aux = f.aux_is;
      }

-- what the code has before its loop is a new voice
pub opened_is : (rate : Float) (lines : List Float) (b : Bufs) (v r : StringVoice) (l : List Float) → v ≡ voice_new
    → ◌≡◌ {A = StringVoice × List Float} (r, l) (voice_init v rate lines)
    → ◌≡◌ {A = (StringVoice × List Float) × Bufs} ((r, l), b) (voice_init voice_new rate lines, b)
opened_is rate lines b v r l e f = λ i. ((f ∙ ap (λ (u : StringVoice). voice_init u rate lines) e) i, b)

-- ---- the whole
pub refused : (rate : Float) (k : Knobs) (blocks : ℕ) (lines : List Float) (b : Bufs) (w : ℕ)
    → sizes_fit (length lines) (length b.temp) (length b.temp2) (length b.out) (length b.aux) ≡ false
    → run (blocks_of rate k blocks lines b) w ≡ record { value = (lines, b); word = w }
unfolding blocks_of
refused rate k blocks lines b w e = rw e

pub ended : (rate : Float) (k : Knobs) (n blocks i : ℕ) (lines : List Float) (b : Bufs) (w₀ : ℕ) (a₀ a : (StringVoice × List Float) × Bufs) (w : ℕ)
    → sizes_fit (length lines) (length b.temp) (length b.temp2) (length b.out) (length b.aux) ≡ true → a₀ ≡ (voice_init voice_new rate lines, b)
    → Done (again k) (Sized n) blocks a₀ w₀ i a w → blocks ≤ i
    → run (blocks_of rate k blocks lines b) w₀ ≡ record { value = (a.0.1, a.1); word = w }
unfolding blocks_of
ended rate k n blocks i lines b w₀ a₀ a w e f d l =
    rw (e, ← f) (run_then (times blocks (again k) a₀) _ w₀ (end (again k) (Sized n) blocks a₀ w₀ i a w d l))
