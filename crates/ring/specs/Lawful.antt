-- The lawful elements of a kind as a type of their own, which is a commutative ring with no premises.
use Rattle.std.specs.Prelude.{◌≡◌, ℕ, Bool, true, false, T, List, slice_index_or, refl}
use Rattle.std.proofs.Common.{◌∙◌}
use mathlib.Core.HLevel.{Σ_prop_path}
use Rattle.std.proofs.Math.Dec.{T_prop}
use Rattle.ring.specs.Commutative.{CommRing}
use Rattle.ring.specs.Ring.{Ring, RingLaws, Laws}

module _ {E : Type 0} (R : Ring E) where
  pub same_element : {x y : (a : E) × T (R.lawful a)} → x.0 ≡ y.0 → x ≡ y
  same_element e = Σ_prop_path (λ a. T_prop (R.lawful a)) e

  abbrev pub lawful_ring : RingLaws R → CommRing ((a : E) × T (R.lawful a))
  lawful_ring L = record {
    𝟘 = (R.zero, L.zero_lawful);
    𝟙 = (R.one, L.one_lawful);
    ◌⊕◌ = λ x y. (R.add x.0 y.0, L.add_lawful x.0 y.0 x.1 y.1);
    ◌⊗◌ = λ x y. (R.mul x.0 y.0, L.mul_lawful x.0 y.0 x.1 y.1);
    ⊖◌ = λ x. (R.sub R.zero x.0, L.sub_lawful R.zero x.0 L.zero_lawful x.1);
    add_assoc = λ x y z. same_element (L.add_assoc x.0 y.0 z.0 x.1 y.1 z.1);
    add_comm = λ x y. same_element (L.add_comm x.0 y.0 x.1 y.1);
    add_zero = λ x. same_element (L.add_zero x.0 x.1);
    add_neg = λ x. same_element (L.add_comm x.0 (R.sub R.zero x.0) x.1 (L.sub_lawful R.zero x.0 L.zero_lawful x.1) ∙ L.sub_add R.zero x.0 L.zero_lawful x.1);
    mul_assoc = λ x y z. same_element (L.mul_assoc x.0 y.0 z.0 x.1 y.1 z.1);
    mul_comm = λ x y. same_element (L.mul_comm x.0 y.0 x.1 y.1);
    mul_one = λ x. same_element (L.mul_one x.0 x.1);
    distrib = λ x y z. same_element (L.mul_add x.0 y.0 z.0 x.1 y.1 z.1);
  }

module _ {E : Type 0} {R : Ring E} (L : Laws R) where
  abbrev pub Lawful : Type 0
  Lawful = (a : E) × T (R.lawful a)

  -- a is the lawful element x
  pub record Is (a : E) (x : Lawful) : Type 0 where
    pub eq : a ≡ x.0

  pub same : {x y : Lawful} → x.0 ≡ y.0 → x ≡ y
  same e = same_element R e

  unfoldable pub lifted : CommRing Lawful
  lifted = lawful_ring R L.ring_laws

  unfoldable pub step_of : Lawful
  step_of = (R.step, L.ring_laws.step_lawful)

  -- the valuation that the laws give
  abbrev pub level_of : Lawful → ℕ
  level_of x = (L.splits x.0 x.1).0

  unfoldable pub hold_at : (a : E) (b : Bool) → R.lawful a ≡ b → Lawful
  hold_at a true e = (a, rw e tt)
  hold_at a false e = (R.zero, L.ring_laws.zero_lawful)

  -- an element as a lawful one: itself where it is lawful, else zero
  unfoldable pub hold : E → Lawful
  hold a = hold_at a (R.lawful a) refl

  -- the cells of a memory as lawful elements; zero past its end
  unfoldable pub cells : List E → ℕ → Lawful
  cells xs j = hold (slice_index_or xs j R.zero)

  abbrev pub AllLawful : List E → Type 0
  AllLawful xs = (j : ℕ) → T (R.lawful (slice_index_or xs j R.zero))
