-- An element has one valuation only, and the units are what has valuation 0.
use Rattle.std.proofs.Common.{◌≡◌, ℕ, ◌+◌, ◌-◌, ◌<◌, ◌≤◌, sym, ap, ◌∙◌, subst, arith}
use Rattle.ring.specs.Commutative.{CommRing, power as powerˡ}
use Rattle.ring.specs.Ring.{Ring, Laws, power, UnitOf, Split}
use Rattle.ring.specs.Lawful.{same, lifted, step_of}
use Rattle.ring.proofs.Sums as Sums
use Rattle.ring.proofs.Lifts as Lifts

-- over any commutative ring: if s^v u = s^w x with a unit u, and s^d is zero, then s^(d - w + v) is zero
module _ {A : Type 0} (R : CommRing A) where
  infixl 70 ◌⊗◌
  open R use {𝟘, 𝟙, ◌⊗◌, mul_assoc, mul_comm, mul_one}

  pub power_vanishes : (s u i x : A) (v w d : ℕ) → w ≤ d → powerˡ R s d ≡ 𝟘 → u ⊗ i ≡ 𝟙
      → powerˡ R s v ⊗ u ≡ powerˡ R s w ⊗ x → powerˡ R s (d - w + v) ≡ 𝟘
  power_vanishes s u i x v w d le ends unit same =
      let back : d - w + w ≡ d = omega arith in
      Sums.power_add R s (d - w) v
      ∙ ap (λ z. powerˡ R s (d - w) ⊗ z) (sym (mul_assoc (powerˡ R s v) u i ∙ ap (λ z. powerˡ R s v ⊗ z) unit ∙ mul_one (powerˡ R s v)) ∙ ap (λ z. z ⊗ i) same)
      ∙ ap (λ z. powerˡ R s (d - w) ⊗ z) (mul_assoc (powerˡ R s w) x i)
      ∙ sym (mul_assoc (powerˡ R s (d - w)) (powerˡ R s w) (x ⊗ i))
      ∙ ap (λ z. z ⊗ (x ⊗ i)) (sym (Sums.power_add R s (d - w) w) ∙ ap (powerˡ R s) back ∙ ends)
      ∙ Sums.zero_mul R (x ⊗ i)

module _ {E : Type 0} {R : Ring E} (L : Laws R) where
  not_less : (a u x : E) (v w : ℕ) → Split R a v u → Split R a w x → ¬ (v < w)
  unfolding lifted step_of
  not_less a u x v w one other less =
      L.power_not (R.depth - w + v) (omega (arith, other.low))
      ((Lifts.power_is L (R.depth - w + v)).eq
      ∙ ap (λ z. z.0)
      (power_vanishes (lifted L) (step_of L) (u, one.unit.1.left) (one.unit.0, one.unit.1.right) (x, other.unit.1.left) v w R.depth other.low
      (same L (sym (Lifts.power_is L R.depth).eq ∙ L.power_end))
      (same L one.unit.1.product)
      (same L (ap (λ z. R.mul z u) (sym (Lifts.power_is L v).eq) ∙ sym one.whole ∙ other.whole ∙ ap (λ z. R.mul z x) (Lifts.power_is L w).eq))))

  pub valuation_unique : (a u x : E) (v w : ℕ) → Split R a v u → Split R a w x → v ≡ w
  valuation_unique a u x v w one other =
      let low : ¬ (v < w) = not_less a u x v w one other in
      let high : ¬ (w < v) = not_less a x u w v other one in
      omega (arith, low, high)

  -- a unit is its own unit part, with valuation 0
  pub unit_split : (a w : E) → UnitOf R a w → Split R a 0 a
  unfolding power lifted
  unit_split a w h = record {
    whole = sym (L.ring_laws.mul_comm R.one a L.ring_laws.one_lawful h.left ∙ L.ring_laws.mul_one a h.left);
    low = omega arith;
    zero_end = λ e. absurd (nonzero e);
    end_zero = λ e. absurd (deep e);
    unit = (w, h);
  }
    where
      deep : 0 ≡ R.depth → ⊥
      deep e = omega (arith, L.depth_low)

      nonzero : a ≡ R.zero → ⊥
      nonzero e =
          L.power_not 0 (omega (arith, L.depth_low))
          (sym h.product ∙ ap (λ z. R.mul z w) e ∙ ap (λ z. z.0) (Sums.zero_mul (lifted L) (w, h.right)))

  -- what splits with valuation 0 is a unit
  pub split_unit : (a u : E) → Split R a 0 u → (w : E) × UnitOf R a w
  unfolding power
  split_unit a u h =
      let is : a ≡ u = h.whole ∙ L.ring_laws.mul_comm R.one u L.ring_laws.one_lawful h.unit.1.left ∙ L.ring_laws.mul_one u h.unit.1.left in
      (h.unit.0, subst (λ z. UnitOf R z h.unit.0) (sym is) h.unit.1)

  -- so the valuation tells the units
  pub unit_when : (a u : E) (v : ℕ) → Split R a v u → v ≡ 0 → (w : E) × UnitOf R a w
  unit_when a u v h e = split_unit a u (subst (λ n. Split R a n u) e h)

  pub unit_only : (a u : E) (v : ℕ) → Split R a v u → (w : E) × UnitOf R a w → v ≡ 0
  unit_only a u v h unit = valuation_unique a u a v 0 h (unit_split a unit.0 unit.1)
