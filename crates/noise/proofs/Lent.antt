-- What holds of what stands in four buffers holds of equal ones, and buffers that are those lent before stay so. Assumes nothing.
use Rattle.std.proofs.Common.{◌≡◌, List, sym, subst, ◌∙◌, ap}
use Rattle.std.specs.Prelude.{Float}
use Rattle.noise.specs.declared.buffers.Buffers.{Buffers}
use Rattle.noise.specs.Buffers.{Bufs, IsSame}

pub same_on : {b c d : Buffers} → IsSame b c → IsSame c d → IsSame b d
same_on p q = record { temp = p.temp ∙ q.temp; temp2 = p.temp2 ∙ q.temp2; out = p.out ∙ q.out; aux = p.aux ∙ q.aux }

module _ {t t' t2 t2' o o' a a' : List Float} (e : t ≡ t') (e2 : t2 ≡ t2') (eo : o ≡ o') (ea : a ≡ a') where
  pub lent_back : (P : Bufs → Type 0) → P (record { temp = t'; temp2 = t2'; out = o'; aux = a' }) → P (record { temp = t; temp2 = t2; out = o; aux = a })
  lent_back P = subst P (λ i. record { temp = sym e i; temp2 = sym e2 i; out = sym eo i; aux = sym ea i })

  pub lent_is : {A : Type 0} {x : A} (f : Bufs → A) → x ≡ f (record { temp = t'; temp2 = t2'; out = o'; aux = a' })
      → x ≡ f (record { temp = t; temp2 = t2; out = o; aux = a })
  lent_is f p = p ∙ ap f (λ i. record { temp = sym e i; temp2 = sym e2 i; out = sym eo i; aux = sym ea i })
