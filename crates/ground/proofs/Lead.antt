-- A loop that is a frame ahead of another: it fills a list, and what it is about to put there is at hand. Assumes nothing.
use Rattle.std.proofs.Common.{◌≡◌, ℕ, ◌+◌, ◌<◌, ◌≤◌, min, List, length, get_or, set, sym, ap, ◌∙◌, arith}
use Rattle.ground.specs.Frames.{scan}
use Rattle.ground.proofs.Frames.{Scan, frames_begin, scan_turn, scan_end, scan_puts}

module _ {S A T : Type 0} (f : S → A → S × T) where
  -- what it fills, it does not read
  abbrev pub fill : S → A → T → S × T
  fill s x t = f s x

-- i frames are filled, and o is the step at the frame i; past the last frame its state stands. a stands past the end of the list
pub record Lead {S A T : Type 0} (f : S → A → S × T) (a : A) (s₀ : S) (xs : List A) (ts₀ : List T) (i : ℕ) (ts : List T) (o : S × T) : Type 0 where
  pub state : S
  pub done : Scan (fill f) s₀ xs ts₀ i state ts
  pub step : i < length xs → o ≡ f state (get_or xs i a)
  pub past : length xs ≤ i → o.0 ≡ state

module _ {S A T : Type 0} {f : S → A → S × T} {a : A} {s₀ : S} {xs : List A} {ts₀ : List T} where
  pub lead_begin : {o : S × T} → (0 < length xs → o ≡ f s₀ (get_or xs 0 a)) → (length xs ≤ 0 → o.0 ≡ s₀) → Lead f a s₀ xs ts₀ 0 ts₀ o
  lead_begin h k = record { state = s₀; done = frames_begin; step = h; past = k }

  pub lead_turn : {i : ℕ} {ts : List T} {o p : S × T} (b : T) → Lead f a s₀ xs ts₀ i ts o → i < min (length xs) (length ts₀)
      → (i + 1 < length xs → p ≡ f o.0 (get_or xs (i + 1) a)) → (length xs ≤ i + 1 → p.0 ≡ o.0) → Lead f a s₀ xs ts₀ (i + 1) (set ts i o.1) p
  lead_turn b g l h k = record { state = _; done = scan_turn a b g.done l (g.step (omega (arith, l))); step = h; past = k }

  -- what it is about to put at a frame is what the list will have there
  pub lead_puts : {i : ℕ} {ts : List T} {o : S × T} (b : T) → Lead f a s₀ xs ts₀ i ts o → i < min (length xs) (length ts₀)
      → o.1 ≡ get_or (scan (fill f) s₀ xs ts₀).1 i b
  lead_puts b g l = ap (λ (q : S × T). q.1) (g.step (omega (arith, l))) ∙ sym (scan_puts (fill f) a b g.done l)

  pub lead_end : {i : ℕ} {ts : List T} {o : S × T} → Lead f a s₀ xs ts₀ i ts o → length xs ≤ i → ◌≡◌ {A = S × List T} (o.0, ts) (scan (fill f) s₀ xs ts₀)
  lead_end {ts = ts} g l = ap (λ (s : S). (s, ts)) (g.past l) ∙ scan_end g.done (omega (arith, l))
