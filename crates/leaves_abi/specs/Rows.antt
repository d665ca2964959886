-- A struct that crosses as the list of its fields, in the order of its declaration. Assumes nothing.
use Rattle.std.specs.Prelude.{cond, List, [], ◌∷◌, ℕ, eqb, length, get_or, Option, Some, None, Float}
use Rattle.std.specs.Float.{nan}
use Rattle.utils.specs.declared.filter.Svf.{Svf}
use Rattle.utils.specs.declared.filter.DcBlocker.{DcBlocker}
use Rattle.utils.specs.declared.parameter_interpolator.ParameterInterpolator.{ParameterInterpolator}
use Rattle.utils.specs.declared.cosine_oscillator.CosineOscillator.{CosineOscillator}

-- how many fields there are, the struct of them, and the fields of a struct
pub record Fields (X A : Type 0) : Type 0 where
  pub count : ℕ
  pub from : List X → A
  pub to : A → List X

module _ {X A : Type 0} (row : Fields X A) where
  -- the struct of a list of its length
  unfoldable pub from_fields : List X → Option A
  from_fields xs = cond (eqb (length xs) row.count) (Some (row.from xs)) None

  -- a function over the struct in a list: what it gives, and the list after it; where the length is another, `none`, and the list as it was
  unfoldable pub on_fields : {R : Type 0} → R → (A → A × R) → List X → R × List X
  on_fields none f xs = let r = f (row.from xs) in cond (eqb (length xs) row.count) (r.1, row.to r.0) (none, xs)

  -- the same of a function that gives the struct alone
  abbrev pub changed : (A → A) → List X → List X
  changed f xs = (on_fields (tt {0}) (λ a. (f a, tt {0})) xs).1

  -- a struct put into a list of its length; any other stays
  abbrev pub into : A → List X → List X
  into a = changed (λ b. a)

-- ---- the structs

unfoldable pub svf_row : Fields Float Svf
svf_row =
    record {
      count = 5;
      from = λ xs. record { g = get_or xs 0 nan; r = get_or xs 1 nan; h = get_or xs 2 nan; state_1 = get_or xs 3 nan; state_2 = get_or xs 4 nan };
      to = λ s. s.g ∷ s.r ∷ s.h ∷ s.state_1 ∷ s.state_2 ∷ [];
    }

unfoldable pub dc_row : Fields Float DcBlocker
dc_row =
    record {
      count = 3;
      from = λ xs. record { pole = get_or xs 0 nan; x = get_or xs 1 nan; y = get_or xs 2 nan };
      to = λ d. d.pole ∷ d.x ∷ d.y ∷ [];
    }

unfoldable pub interpolator_row : Fields Float ParameterInterpolator
interpolator_row =
    record { count = 2; from = λ xs. record { value = get_or xs 0 nan; increment = get_or xs 1 nan }; to = λ p. p.value ∷ p.increment ∷ [] }

unfoldable pub oscillator_row : Fields Float CosineOscillator
oscillator_row =
    record {
      count = 4;
      from = λ xs. record { y1 = get_or xs 0 nan; y0 = get_or xs 1 nan; iir_coefficient = get_or xs 2 nan; initial_amplitude = get_or xs 3 nan };
      to = λ o. o.y1 ∷ o.y0 ∷ o.iir_coefficient ∷ o.initial_amplitude ∷ [];
    }

-- the amplitudes of 24 modes
unfoldable pub amplitudes_row : Fields Float (List Float)
amplitudes_row = record { count = 24; from = λ xs. xs; to = λ xs. xs }

-- the generator's word, and a line's place: one number
unfoldable pub number_row : Fields ℕ ℕ
number_row = record { count = 1; from = λ xs. get_or xs 0 0; to = λ w. w ∷ [] }
