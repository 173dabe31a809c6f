-- The powers of the step, one after the other.
use Rattle.std.proofs.Common.{◌≡◌, ℕ, ◌+◌, T, ap, ◌∙◌, add-one}
use Rattle.ring.specs.Ring.{Ring, Laws, power}
use Rattle.ring.proofs.Loops.{lawful_at}

module _ {E : Type 0} {R : Ring E} (L : Laws R) where
  -- x is the i-th power
  pub record Power (i : ℕ) (x : E) : Type 0 where
    pub lawful : T (R.lawful x)
    pub is : x ≡ power R R.step i

  pub power_none : (x : E) → x ≡ R.one → Power 0 x
  unfolding power
  power_none x e = record { lawful = lawful_at L e L.ring_laws.one_lawful; is = e }

  pub power_more : (i : ℕ) (x y r : E) → Power i x → y ≡ R.step → (T (R.lawful x) → T (R.lawful y) → r ≡ R.mul x y) → Power (i + 1) r
  unfolding power
  power_more i x y r p ey er =
      let K = L.ring_laws in
      let ly = lawful_at L ey K.step_lawful in
      let r_is = er p.lawful ly in
      record { lawful = lawful_at L r_is (K.mul_lawful x y p.lawful ly); is = rw add-one (r_is ∙ ap (λ z. R.mul z y) p.is ∙ ap (R.mul (power R R.step i)) ey) }
