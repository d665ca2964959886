-- What holds of each element of a list. Assumes nothing.
use Rattle.std.specs.Prelude.{List, [], ◌∷◌}

-- P of each element
abbrev pub Each : {A : Type 0} → (A → Type 0) → List A → Type 0
Each P [] = Unit {0}
Each P (x ∷ xs) = P x × Each P xs
