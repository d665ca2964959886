-- What the calls of the string's `step` ensure, put together; what a step and a frame keep; and the words that they draw. Assumes nothing.
use mathlib.Core.Path.{◌≡◌, refl, sym, ◌∙◌, ap, subst}
use mathlib.Core.Bool.{Bool, true, false, cond}
use mathlib.Core.List.{List, ◌++◌}
use Prim.Native.Nat.{ℕ, ◌+◌, ◌-◌, ◌≤◌, ◌<◌, min}
use native.Mathlib.Nat.{mod-lt}
use native.Mathlib.Numerals.{add-one}
use native.Mathlib.Omega.{arith}
use lib.ListN.{length, length-set, length-take, take, drop}
use lib.Ieee.{Float, lt, neg}
use Rattle.ground.specs.F32.{◌⊕◌, ◌⊖◌, ◌⊗◌, c1, c20}
use Rattle.ground.specs.Draw.{Draw, ret, run, Ran, counted}
use Rattle.ground.specs.Frames.{frames}
use Rattle.ground.specs.Part.{part, put}
use Rattle.ground.specs.Floats.{whole_part, clamp_f}
use Rattle.utils.specs.Filter.{svf_process, dc_process_sample}
use Rattle.utils.specs.DelayLine.{line_write, allpass, read_with_delay_frac}
use Rattle.utils.specs.declared.filter.Svf.{Svf}
use Rattle.utils.specs.declared.filter.DcBlocker.{DcBlocker}
use Rattle.ground.proofs.Draw.{run_then, Always, always_run, Draws, draws_always, draws_map, draws_then, counted_then}
use Rattle.ground.proofs.Frames.{Any, after, drawn, drawn_more, drawn_few, frames_draws, Frames, frames_end}
use Rattle.ground.proofs.Part.{length_part, length_put}
use Rattle.waveguide.specs.declared.string.StringNonLinearity.{StringNonLinearity}
use Rattle.waveguide.specs.declared.string.StringNonLinearity.TheVariants.{CurvedBridge, Dispersion}
use Rattle.waveguide.specs.declared.string.Params.{Params}
use Rattle.waveguide.specs.declared.string.String.{String}
use Rattle.waveguide.specs.declared.string.Heard.{Heard}
use Rattle.waveguide.specs.declared.string.Underway.{Underway}
use Rattle.waveguide.specs.String.{bend, read_plain, read_allpass, main_delay, stretches, hear, curve, step, advance, frame}
use Rattle.waveguide.specs.Kept.{Good, words_of, words_at}
use Rattle.waveguide.specs.Underway.{guess_of, guess_after, begin, Ahead}

module _ (shape : StringNonLinearity) (p : Params) (x : Float) (t : String) (word : ℕ) (lines : List Float) where
  pub stepped : {delay noise : Float} {word' : ℕ} {h : Heard} {lines' : List Float} {held : Float} {dc : DcBlocker} {o : Svf × Float} {next : ℕ}
      {line' : List Float} {bridge : Float}
      → run (bend shape p (t.delay ⊕ p.increment) t.dispersion_noise t.curved_bridge) word ≡ record { value = (delay, noise); word = word' }
      → ◌≡◌ {A = Heard × List Float} (h, lines') (hear shape p t delay lines)
      → held ≡ clamp_f x (neg c20) c20
      → dc ≡ dc_process_sample t.dc_blocker (h.s ⊕ held)
      → o ≡ svf_process t.iir_damping_filter dc.y
      → ◌≡◌ {A = ℕ × List Float} (next, line') (line_write (take 1024 lines') t.string o.1)
      → bridge ≡ curve shape h.s t.curved_bridge
      → run (step shape p x (t, lines)) word ≡ record {
        value = (
          record t {
            string = next;
            stretch = h.stretch;
            iir_damping_filter = o.0;
            dc_blocker = dc;
            delay = t.delay ⊕ p.increment;
            dispersion_noise = noise;
            curved_bridge = bridge;
            out_sample_0 = o.1;
            out_sample_1 = t.out_sample_0;
          },
          line' ++ drop 1024 lines',
        );
        word = word';
      }
  unfolding step part put
  stepped eb eh ex ed eo el ec =
      run_then (bend shape p (t.delay ⊕ p.increment) t.dispersion_noise t.curved_bridge) _ word eb
      ∙ rw (ap (λ q. q.0) el, ap (λ q. q.1) el, ec, eo, ed, ex, ap (λ q. q.0) eh, ap (λ q. q.1) eh)

-- the guess that a step leaves
pub guess_on : (shape : StringNonLinearity) (p : Params) (v : Underway) {delay noise : Float} {word : ℕ} {guess : ℕ}
    → run (bend shape p (v.string.delay ⊕ p.increment) v.string.dispersion_noise v.string.curved_bridge) v.word ≡ record { value = (delay, noise); word = word }
    → guess ≡ guess_of shape delay → guess ≡ guess_after shape p v
guess_on shape p v e g = g ∙ ap (λ (r : Ran (Float × Float)). guess_of shape r.value.0) (sym e)

-- ---- how a loop begins
module _ (p : Params) (s : String) (word : ℕ) (u : Underway) (e : u ≡ begin p s word) where
  pub begun_ahead : Ahead p u
  unfolding begin
  begun_ahead = rw e

  pub begun_drawn : u.drawn ≡ 0
  unfolding begin
  begun_drawn = rw e

  pub begun_good : (lines : List Float) → Good (s, lines) → Good (u.string, lines)
  unfolding begin
  begun_good lines g = rw e g

  pub begun_run : {A : Type 0} (f : String → Draw A) {r : Ran A} → run (f u.string) u.word ≡ r → run (f s) word ≡ r
  unfolding begin
  begun_run f h = ap (λ (u : Underway). run (f u.string) u.word) (sym e) ∙ h

-- ---- what is kept

written_place : (n : ℕ) (line : List Float) (at : ℕ) (x : Float) → length line ≡ n → 0 < n → (line_write line at x).0 < n
written_place n line at x e l = rw e (mod-lt (at + n - 1) l)

allpass_place : (n : ℕ) (line : List Float) (at : ℕ) (x : Float) (delay : ℕ) (k : Float) → length line ≡ n → 0 < n
    → (allpass line at x delay k).0.write_ptr < n
unfolding allpass
allpass_place n line at x delay k e l = written_place n line at x e l

allpass_size : (line : List Float) (at : ℕ) (x : Float) (delay : ℕ) (k : Float) → length (allpass line at x delay k).1 ≡ length line
unfolding allpass
allpass_size line at x delay k = simp length-set

-- what is left after a read: the stretch line's place, and the size
record Kept (q : Heard × List Float) : Type 0 where
  place : q.0.stretch < 256
  size : length q.1 ≡ 1280

plain_kept : (t : String) (delay : Float) (lines : List Float) → Good (t, lines) → Kept (read_plain t delay lines)
unfolding read_plain
plain_kept t delay lines g = record { place = g.stretch; size = g.size }

allpassed_kept : (t : String) (main ap gain : Float) (lines : List Float) → Good (t, lines) → Kept (read_allpass t main ap gain lines)
unfolding read_allpass
allpassed_kept t main ap gain lines g =
    let n : length (part 1024 256 lines) ≡ 256 = length_part 1024 256 lines (omega (arith, g.size)) in
    let x = read_with_delay_frac (part 0 1024 lines) t.string main in
    record {
      place = allpass_place 256 (part 1024 256 lines) t.stretch x (whole_part ap) gain n (omega arith);
      size = length_put 1024 256 _ lines (omega (arith, g.size)) (allpass_size (part 1024 256 lines) t.stretch x (whole_part ap) gain ∙ n) ∙ g.size;
    }

one_of : (b : Bool) (m n : Heard × List Float) → Kept m → Kept n → Kept (cond b m n)
one_of true m n h k = h
one_of false m n h k = k

heard_kept : (shape : StringNonLinearity) (p : Params) (t : String) (delay : Float) (lines : List Float) → Good (t, lines) → Kept (hear shape p t delay lines)
unfolding hear
heard_kept shape p t delay lines g =
    let ap = delay ⊗ p.stretch_point in
    let main = main_delay p delay in
    one_of (stretches shape p delay) (read_allpass t main ap p.ap_gain lines) (read_plain t delay lines)
    (allpassed_kept t main ap p.ap_gain lines g) (plain_kept t delay lines g)

-- ---- the words that are drawn

-- the phase at the next frame
abbrev pub wrap : Float → Float → Float
wrap ratio phase = cond (lt c1 (phase ⊕ ratio)) (phase ⊕ ratio ⊖ c1) (phase ⊕ ratio)

-- a string whose phase is g
pub record At (g : Float) (s : String × List Float) : Type 0 where
  pub phase : s.0.src_phase ≡ g
  pub good : Good s

bent_draws : (shape : StringNonLinearity) (p : Params) (delay noise bridge : Float) → Draws (words_of shape) Any (bend shape p delay noise bridge)
unfolding bend
bent_draws (CurvedBridge a) p delay noise bridge = (refl, tt)
bent_draws (Dispersion a) p delay noise bridge = (0, refl, λ w. (refl, tt))

step_draws : (shape : StringNonLinearity) (p : Params) (x : Float) (s : String × List Float) → Good s
    → Draws (words_of shape) (At s.0.src_phase) (step shape p x s)
unfolding step
step_draws shape p x s g =
    let t = s.0 in
    draws_then (words_of shape) Any (At t.src_phase) (bend shape p (t.delay ⊕ p.increment) t.dispersion_noise t.curved_bridge) _
    (bent_draws shape p (t.delay ⊕ p.increment) t.dispersion_noise t.curved_bridge)
    (λ b _.
    let h = heard_kept shape p t b.0 s.1 g in
    let ls = (hear shape p t b.0 s.1).1 in
    let n : length (part 0 1024 ls) ≡ 1024 = length_part 0 1024 ls (omega (arith, h.size)) in
    record {
      phase = refl;
      good = record {
        size = length_put 0 1024 _ ls (omega (arith, h.size)) (simp length-set n) ∙ h.size;
        string = written_place 1024 (part 0 1024 ls) t.string x n (omega arith);
        stretch = h.place;
      };
    })

pub phase_good : (t : String) (p : Float) (lines : List Float) → Good (t, lines) → Good (record t { src_phase = p }, lines)
phase_good t p lines g = record { size = g.size; string = g.string; stretch = g.stretch }

-- a test of the definition, taken apart
either : (b : Bool) (i j : ℕ) (g h : Float) (m n : Draw (String × List Float)) → Draws i (At g) m → Draws j (At h) n
    → Draws (cond b i j) (At (cond b g h)) (cond b m n)
either true i j g h m n d e = d
either false i j g h m n d e = e

moved_draws : (shape : StringNonLinearity) (p : Params) (x : Float) (s : String × List Float) → Good s
    → Draws (words_at shape p.src_ratio s.0.src_phase) (At (wrap p.src_ratio s.0.src_phase)) (advance shape p x s)
unfolding advance
moved_draws shape p x s g =
    let q = s.0.src_phase ⊕ p.src_ratio in
    either (lt c1 q) (words_of shape) 0 (q ⊖ c1) q (step shape p x (record s.0 { src_phase = q ⊖ c1 }, s.1)) (ret (record s.0 { src_phase = q }, s.1))
    (step_draws shape p x (record s.0 { src_phase = q ⊖ c1 }, s.1) (phase_good s.0 (q ⊖ c1) s.1 g))
    (refl, record { phase = refl; good = phase_good s.0 q s.1 g })

frame_draws : (shape : StringNonLinearity) (p : Params) (g : Float) (s : String × List Float) (x y : Float) → At g s
    → Draws (words_at shape p.src_ratio g) (λ r. At (wrap p.src_ratio g) r.0) (frame shape p s x y)
frame_draws shape p g s x y h =
    let f = s.0.src_phase in
    subst (λ (f : Float). Draws (words_at shape p.src_ratio f) (λ r. At (wrap p.src_ratio f) r.0) (frame shape p s x y)) h.phase
    (draws_then (words_at shape p.src_ratio f) (At (wrap p.src_ratio f)) (λ r. At (wrap p.src_ratio f) r.0) (advance shape p x s) _
    (moved_draws shape p x s h.good) (λ t k. k))

-- what every frame keeps
pub frame_good : (shape : StringNonLinearity) (p : Params) (s : String × List Float) (x y : Float) → Good s
    → Always (λ r. Good r.0) (frame shape p s x y)
frame_good shape p s x y g =
    let k = words_at shape p.src_ratio s.0.src_phase in
    draws_always k (λ r. Good r.0) (frame shape p s x y)
    (draws_map k (λ r. At (wrap p.src_ratio s.0.src_phase) r.0) (λ r. Good r.0) (frame shape p s x y) (λ r h. h.good)
    (frame_draws shape p s.0.src_phase s x y (record { phase = refl; good = g })))

-- n frames: the words that their steps draw, the phase behind them, and the output's length
pub frames_draw : (shape : StringNonLinearity) (p : Params) (n : ℕ) (s : String × List Float) (xs ys : List Float) → n ≡ min (length xs) (length ys) → Good s
    → Draws (drawn (wrap p.src_ratio) (words_at shape p.src_ratio) n s.0.src_phase)
    (λ q. At (after (wrap p.src_ratio) n s.0.src_phase) q.0 × (length q.1 ≡ length ys)) (frames (frame shape p) s xs ys)
frames_draw shape p n s xs ys e g =
    frames_draws (frame shape p) (wrap p.src_ratio) (words_at shape p.src_ratio) At (frame_draws shape p) n s.0.src_phase s xs ys e
    (record { phase = refl; good = g })

-- ---- the loop that counts the words drawn
pub words_few : (shape : StringNonLinearity) → words_of shape ≤ 1
words_few (CurvedBridge a) = omega arith
words_few (Dispersion a) = omega arith

frame_few : (shape : StringNonLinearity) (ratio phase : Float) → words_at shape ratio phase ≤ 1
frame_few shape ratio phase = go (lt c1 (phase ⊕ ratio))
  where
    go : (b : Bool) → cond b (words_of shape) 0 ≤ 1
    go true = words_few shape
    go false = omega arith

-- the words of the first n frames from a phase on
abbrev pub words_to : StringNonLinearity → Params → Float → ℕ → ℕ
words_to shape p phase n = drawn (wrap p.src_ratio) (words_at shape p.src_ratio) n phase

pub words_to_few : (shape : StringNonLinearity) (p : Params) (phase : Float) (n : ℕ) → words_to shape p phase n ≤ n
words_to_few shape p phase n = drawn_few (wrap p.src_ratio) (words_at shape p.src_ratio) (frame_few shape p.src_ratio) n phase

-- i frames are done, and one frame more
module _ (shape : StringNonLinearity) (p : Params) (s₀ : String × List Float) (xs ys₀ : List Float) (w₀ : ℕ) (good : Good s₀) where
  pub words_turn : (i m n : ℕ) {s : String × List Float} {ys : List Float} {w : ℕ} → Frames (frame shape p) s₀ xs ys₀ w₀ i s ys w → i ≤ length xs
      → m ≡ words_to shape p s₀.0.src_phase i → n ≡ m + words_at shape p.src_ratio s.0.src_phase
      → n ≡ words_to shape p s₀.0.src_phase (i + 1)
  words_turn i m n {s} f l e h =
      let g = s₀.0.src_phase in
      let size : i ≡ min (length (take i xs)) (length ys₀) = omega (arith, length-take i xs, f.within) in
      let d = frames_draw shape p i s₀ (take i xs) ys₀ size good in
      let at : s.0.src_phase ≡ after (wrap p.src_ratio) i g =
      (always_run (λ q. At (after (wrap p.src_ratio) i g) q.0 × (length q.1 ≡ length ys₀)) (frames (frame shape p) s₀ (take i xs) ys₀) w₀
      (draws_always _ _ (frames (frame shape p) s₀ (take i xs) ys₀) d) f.so_far).0.phase in
      h
      ∙ ap (λ (k : ℕ). k + words_at shape p.src_ratio s.0.src_phase) e
      ∙ ap (λ (x : Float). words_to shape p g i + words_at shape p.src_ratio x) at
      ∙ sym (ap (words_to shape p g) (add-one i) ∙ drawn_more (wrap p.src_ratio) (words_at shape p.src_ratio) i g)

  pub words_end : (i n : ℕ) {s : String × List Float} {ys : List Float} {w : ℕ} → Frames (frame shape p) s₀ xs ys₀ w₀ i s ys w
      → min (length xs) (length ys₀) ≤ i
      → n ≡ words_to shape p s₀.0.src_phase i
      → run (counted (frames (frame shape p) s₀ xs ys₀)) w₀ ≡ record { value = ((s, ys), n); word = w }
  words_end i n {s} {ys} {w} f l e =
      let size : i ≡ min (length xs) (length ys₀) = omega (arith, f.within) in
      counted_then (words_to shape p s₀.0.src_phase i) _ (frames (frame shape p) s₀ xs ys₀) w₀ (frames_draw shape p i s₀ xs ys₀ size good) (frames_end f l)
      ∙ ap (λ (k : ℕ). record { value = ((s, ys), k); word = w }) (sym e)
