-- What is left of a sheet decides where a render ends and whether the frames rise. Assumes nothing.
use mathlib.Core.Path.{◌≡◌, sym, ap, ◌∙◌}
use mathlib.Core.Logic.{◌≢◌}
use mathlib.Core.Bool.{Bool, true, false, ◌&&◌, cond}
use mathlib.Core.List.{List}
use Prim.Native.Nat.{ℕ, ◌+◌, ◌≤◌, ◌<◌}
use lib.ListN.{length, get_or, drop}
use borrow.Author.Tests.{eq-eqb, ne_eqb, le-leb, lt-leb}
use Rattle.std.proofs.lemmas.List.{at_drop_more, drop_all}
use Rattle.player.specs.declared.sheet.Event.{Event}
use Rattle.player.specs.Sheet.{rises, until}

module _ (es : List Event) (i : ℕ) (d : Event) (l : i < length es) where
  pub ends_here : (n s : ℕ) → (get_or es i d).slot ≡ s → (get_or es i d).frame ≡ until n s (drop i es)
  unfolding until
  ends_here n s e = sym (at_drop_more (until n s) es i d l
      ∙ ap (λ (b : Bool). cond b (get_or es i d).frame (until n s (drop (i + 1) es))) (eq-eqb (get_or es i d).slot s e))

  pub ends_later : (n s : ℕ) → (get_or es i d).slot ≢ s → until n s (drop i es) ≡ until n s (drop (i + 1) es)
  unfolding until
  ends_later n s e = at_drop_more (until n s) es i d l
      ∙ ap (λ (b : Bool). cond b (get_or es i d).frame (until n s (drop (i + 1) es))) (ne_eqb (get_or es i d).slot s e)

  pub rises_on : (last : ℕ) → last ≤ (get_or es i d).frame → rises last (drop i es) ≡ rises (get_or es i d).frame (drop (i + 1) es)
  unfolding rises
  rises_on last h = at_drop_more (rises last) es i d l
      ∙ ap (λ (b : Bool). b && rises (get_or es i d).frame (drop (i + 1) es)) (le-leb last (get_or es i d).frame h)

  pub falls_here : (last : ℕ) → (get_or es i d).frame < last → false ≡ rises last (drop i es)
  unfolding rises
  falls_here last h = sym (at_drop_more (rises last) es i d l
      ∙ ap (λ (b : Bool). b && rises (get_or es i d).frame (drop (i + 1) es)) (lt-leb last (get_or es i d).frame h))

module _ (es : List Event) (i : ℕ) (h : length es ≤ i) where
  pub ends_at_last : (n s : ℕ) → n ≡ until n s (drop i es)
  unfolding until
  ends_at_last n s = sym (ap (until n s) (drop_all i es h))

  pub rises_to_last : (last : ℕ) → true ≡ rises last (drop i es)
  unfolding rises
  rises_to_last last = sym (ap (rises last) (drop_all i es h))
