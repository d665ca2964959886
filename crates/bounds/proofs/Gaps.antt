-- Two floats of the format that differ, differ by 2 ^ -149 at least, also after rounding: a difference is zero only of equals. Assumes nothing.
use mathlib.Core.Path.{◌≡◌, refl, sym, ap, ap₂, ◌∙◌, subst}
use mathlib.Core.Bool.{Bool, true, false, not, ◌&&◌}
use Prim.Native.Nat.{ℕ, zero, suc, ◌+◌, ◌-◌, ◌*◌, ◌%◌, ◌^◌, ◌≤◌, ◌<◌}
use native.Mathlib.Nat.{le_trans, add_comm, le_of_eq, not-le_of_lt, one-mul, mul_comm, mul-pos, add-mul, mul_right_comm, mul-mul-mul_comm, mul-le-mul_right}
use native.Mathlib.Nat.{mul-lt-mul_of_pos_right, le_of_mul-le-mul_right, lt_of_mul-lt-mul_right}
use native.Mathlib.Omega.{arith}
use lib.Dec.{T, ltb, leb, eqb, ltb→lt, leb→le, nltb→le, eqb→eq, lit≤, not_T}
use lib.IntN.{ℤ, pos, negsuc}
use lib.Pow.{pow_pos, pow-add, pow-lt}
use lib.Ieee.{Float, fin, binary32, up, down, round, neg, lt, le, fits}
use lib.Ieee.Fits.{and_l, and_r}
use lib.Ieee.Scale.{finite}
use Rattle.ground.specs.F32.{◌⊖◌}
use Rattle.bounds.proofs.Order.{plus, less, den, den_pos, AtMost, not-le→number, lt→not-le}
use Rattle.bounds.proofs.Monotone.{Near, over, under, near_mono, sub_near}

-- the smallest float above zero
abbrev pub tiny : Float
tiny = fin false 1 (negsuc 148)

tiny_near : Near 1 0 (2 ^ 149) tiny
unfolding round
tiny_near = over 1 refl refl

minus_tiny_near : Near 0 1 (2 ^ 149) (neg tiny)
unfolding round neg
minus_tiny_near = under 1 refl refl

-- ---- a float of the format is a multiple of it
flat : (e : ℤ) → up e * down e ≡ 1 → down e ≤ 2 ^ 149
flat (pos k) h = lit≤ tt
flat (negsuc k) h = le_trans (le_of_eq (sym (one-mul (2 ^ suc k)) ∙ h)) (lit≤ tt)

fine : (s : Bool) (m : ℕ) (e : ℤ) → T (fits binary32 (fin s m e)) → down e ≤ 2 ^ 149
unfolding fits
fine s zero e t = flat e (eqb→eq (up e * down e) 1 t)
fine s (suc m) e t =
    let a : Bool = eqb (suc m % 2) 1 && ltb (suc m) (2 ^ 24) in
    let c : Bool = leb (down e) (2 ^ 149) in
    leb→le (down e) (2 ^ 149) (and_r a c (and_l (a && c) (ltb (suc m * up e) (2 ^ 128 * down e)) t))

record Times (d : ℕ) : Type 0 where
  factor : ℕ
  above : 0 < factor
  whole : d * factor ≡ 2 ^ 149

power : (j : ℕ) → 2 ^ j ≤ 2 ^ 149 → Times (2 ^ j)
power j h =
    let l : j ≤ 149 = go (ltb 149 j) (ltb→lt 149 j) (nltb→le 149 j) in
    record { factor = 2 ^ (149 - j); above = pow_pos (149 - j); whole = sym (pow-add 2 j (149 - j)) ∙ ap (λ (k : ℕ). 2 ^ k) (back j l) }
  where
    back : (j : ℕ) → j ≤ 149 → j + (149 - j) ≡ 149
    back j l = omega arith

    go : (b : Bool) → (T b → 149 < j) → (T (not b) → j ≤ 149) → j ≤ 149
    go true f g = absurd (not-le_of_lt (pow-lt (f tt)) h)
    go false f g = g tt

times : (x : Float) → T (finite x) → T (fits binary32 x) → Times (den x)
times (fin s m (pos k)) p t = record { factor = 2 ^ 149; above = pow_pos 149; whole = refl }
times (fin s m (negsuc k)) p t = power (suc k) (fine s m (negsuc k) t)
times lib.Ieee.nan p t = elim p [ ]
times (lib.Ieee.inf _) p t = elim p [ ]

-- ---- so is the difference of two
over_one : (a Y d X k l U : ℕ) → X * k ≡ U → Y * l ≡ U → (a * Y + d * X) * (k * l) ≡ (a * k + d * l) * U
over_one a Y d X k l U ex ey =
    add-mul (a * Y) (d * X) (k * l)
    ∙ ap₂ ◌+◌ (mul-mul-mul_comm a Y k l ∙ ap (λ (z : ℕ). a * k * z) ey)
    (ap (λ (z : ℕ). d * X * z) (mul_comm k l) ∙ mul-mul-mul_comm d X l k ∙ ap (λ (z : ℕ). d * l * z) ex)
    ∙ sym (add-mul (a * k) (d * l) U)

apart : (a b X c d Y k l U : ℕ) → X * k ≡ U → Y * l ≡ U → 0 < k → 0 < l → b * Y + c * X < a * Y + d * X → X * Y + (b * Y + c * X) * U ≤ (a * Y + d * X) * U
apart a b X c d Y k l U ex ey pk pl h =
    let K = k * l in
    let P = a * Y + d * X in
    let Q = b * Y + c * X in
    let A = b * k + c * l in
    let B = a * k + d * l in
    let p : P * K ≡ B * U = over_one a Y d X k l U ex ey in
    let q : Q * K ≡ A * U = over_one b Y c X k l U ex ey in
    let u : X * Y * K ≡ U * U = mul-mul-mul_comm X Y k l ∙ ap₂ ◌*◌ ex ey in
    let less : A < B = lt_of_mul-lt-mul_right U (subst (λ (z : ℕ). z < B * U) q (subst (λ (z : ℕ). Q * K < z) p (mul-lt-mul_of_pos_right h (mul-pos pk pl)))) in
    let step : (A + 1) * U * U ≤ B * U * U = mul-le-mul_right U (mul-le-mul_right U (omega arith)) in
    le_of_mul-le-mul_right
    (le_trans
    (le_of_eq (add-mul (X * Y) (Q * U) K ∙ ap₂ ◌+◌ u (mul_right_comm Q U K ∙ ap (λ (z : ℕ). z * U) q) ∙ one_more A U))
    (le_trans step (le_of_eq (sym (mul_right_comm P U K ∙ ap (λ (z : ℕ). z * U) p)))))
    (mul-pos pk pl)
  where
    one_more : (A U : ℕ) → U * U + A * U * U ≡ (A + 1) * U * U
    one_more A U = add_comm (U * U) (A * U * U) ∙ sym (ap (λ (z : ℕ). z * U) (add-mul A 1 U ∙ ap (λ (z : ℕ). A * U + z) (one-mul U)) ∙ add-mul (A * U) U U)

-- with U a variable: `omega` takes no number as large as 2 ^ 149
one_up : (P Q D U : ℕ) → D + Q * U ≤ P * U → AtMost 1 0 U P Q D
one_up P Q D U h = omega arith

one_down : (P Q D U : ℕ) → D + P * U ≤ Q * U → AtMost P Q D 0 1 U
one_down P Q D U h = omega arith

turn : (a b c : ℕ) → a + b < c → b + a < c
turn a b c h = omega arith

pub above_gap : (x y : Float) → T (finite x) → T (finite y) → T (fits binary32 x) → T (fits binary32 y) → T (lt y x) → T (le tiny (x ⊖ y))
above_gap x y p q f g h =
    let u = times x p f in
    let v = times y q g in
    let k = not-le→number x y p q (not_T (le x y) (lt→not-le y x h)) in
    near_mono (pow_pos 149) (mul-pos (den_pos x) (den_pos y)) tiny_near (sub_near x y p q)
    (one_up (plus x * den y + less y * den x) (less x * den y + plus y * den x) (den x * den y) (2 ^ 149)
    (apart (plus x) (less x) (den x) (plus y) (less y) (den y) u.factor v.factor (2 ^ 149) u.whole v.whole u.above v.above
    (turn (plus y * den x) (less x * den y) (plus x * den y + less y * den x) k)))

pub below_gap : (x y : Float) → T (finite x) → T (finite y) → T (fits binary32 x) → T (fits binary32 y) → T (lt x y) → T (le (x ⊖ y) (neg tiny))
below_gap x y p q f g h =
    let u = times x p f in
    let v = times y q g in
    let k = not-le→number y x q p (not_T (le y x) (lt→not-le x y h)) in
    near_mono (mul-pos (den_pos x) (den_pos y)) (pow_pos 149) (sub_near x y p q) minus_tiny_near
    (one_down (plus x * den y + less y * den x) (less x * den y + plus y * den x) (den x * den y) (2 ^ 149)
    (apart (less x) (plus x) (den x) (less y) (plus y) (den y) u.factor v.factor (2 ^ 149) u.whole v.whole u.above v.above
    (subst (λ (z : ℕ). plus x * den y + less y * den x < z) (add_comm (plus y * den x) (less x * den y)) k)))
