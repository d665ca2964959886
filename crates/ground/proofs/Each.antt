-- What holds of each element of a list holds of one of them, and still of each where one is replaced or put behind. Assumes nothing.
use Rattle.std.proofs.Common.{ℕ, zero, suc, ◌<◌, List, [], ◌∷◌, ◌++◌, length, get_or, set, le_of_suc-le-suc, not-suc-le-zero}
use Rattle.ground.specs.Each.{Each}

pub each_at : {A : Type 0} (P : A → Type 0) (l : List A) (i : ℕ) (d : A) → i < length l → Each P l → P (get_or l i d)
each_at P [] i d h p = absurd (not-suc-le-zero h)
each_at P (x ∷ xs) zero d h p = p.0
each_at P (x ∷ xs) (suc i) d h p = each_at P xs i d (le_of_suc-le-suc h) p.1

pub each_set : {A : Type 0} (P : A → Type 0) (l : List A) (i : ℕ) (y : A) → P y → Each P l → Each P (set l i y)
each_set P [] i y q p = tt
each_set P (x ∷ xs) zero y q p = (q, p.1)
each_set P (x ∷ xs) (suc i) y q p = (p.0, each_set P xs i y q p.1)

pub each_push : {A : Type 0} (P : A → Type 0) (l : List A) (y : A) → Each P l → P y → Each P (l ++ y ∷ [])
each_push P [] y p q = (q, tt)
each_push P (x ∷ xs) y p q = (p.0, each_push P xs y p.1 q)
