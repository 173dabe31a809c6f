-- A polynomial times the inverse of its leading coefficient's unit part leads with a power of the step alone.
use Rattle.std.proofs.Common.{◌≡◌, ℕ, ◌+◌, ◌-◌, ◌<◌, ◌≤◌, T, List, length, sym, ap, ◌∙◌, subst, arith}
use native.Mathlib.Decide.{dec_lt}
use Rattle.ring.specs.Ring.{Ring, Laws, power, Split, UnitOf}
use Rattle.ring.specs.Commutative.{CommRing}
use Rattle.ring.specs.Lawful.{Lawful, lifted, same}
use Rattle.ring.proofs.Lifts as Lifts
use Rattle.recurrence.specs.Memory.{at, Written}
use Rattle.recurrence.specs.Reductions.{Coefficients}
use Rattle.cancelling.specs.Trials.{Normal}

module _ {A : Type 0} (R : CommRing A) where
  open R use {𝟙, ◌⊗◌, mul_assoc, mul_comm, mul_one}

  -- w (p u) = p, if u w = 1
  strip : (p u w : A) → u ⊗ w ≡ 𝟙 → w ⊗ (p ⊗ u) ≡ p
  strip p u w e = mul_comm w (p ⊗ u) ∙ mul_assoc p u w ∙ ap (λ z. p ⊗ z) e ∙ mul_one p

module _ {E : Type 0} {R : Ring E} (L : Laws R) where
  -- what is left of step^v × u
  pub stripped : (a u w : E) (v : ℕ) → Split R a v u → UnitOf R u w → R.mul w a ≡ power R R.step v
  unfolding lifted
  stripped a u w v split unit =
      let p : Lawful L = (power R R.step v, Lifts.ok L (Lifts.power_is L v)) in
      ap (R.mul w) split.whole ∙ ap (λ z. z.0) (strip (lifted L) p (u, unit.left) (w, unit.right) (same L unit.product))

  -- what the inverse function answers of the unit part
  pub inverse_of : (x u w : E) (v : ℕ) → Split R x v u → ((i : E) → T (R.lawful u) → T (R.lawful i) → R.mul u i ≡ R.one → w ≡ i) → UnitOf R u w
  inverse_of x u w v split inverts =
      let found = split.unit in
      let e : w ≡ found.0 = inverts found.0 found.1.left found.1.right found.1.product in
      subst (UnitOf R u) (sym e) found.1

  pub normal : (f g : List E) (m v : ℕ) (x u w : E) → Coefficients R m (at R f) → 0 < m → m ≤ length f → x ≡ at R f (m - 1) → T (R.lawful x)
      → (T (R.lawful x) → Split R x v u)
      → ((i : E) → T (R.lawful u) → T (R.lawful i) → R.mul u i ≡ R.one → w ≡ i)
      → Written f g 0 (length f) (λ j. R.mul w (at R f j)) → Normal R f g v
  normal f g m v x u w counted some size is lawful splits inverts written = record {
    degree = m - 1;
    above = λ j past. counted.past j (omega arith);
    below = below (dec_lt v R.depth);
    unit = u;
    inverse = w;
    top = split;
    inverts = unit;
    size = written.size;
    scaled = scaled;
    leads = scaled (m - 1) (omega arith) ∙ stripped (at R f (m - 1)) u w v split unit;
  }
    where
      split : Split R (at R f (m - 1)) v u
      split = subst (λ z. Split R z v u) is (splits lawful)

      unit : UnitOf R u w
      unit = inverse_of (at R f (m - 1)) u w v split inverts

      below : Dec (v < R.depth) → v < R.depth
      below (yes h) = h
      below (no h) = absurd (counted.last (m - 1) (omega arith) (split.end_zero (omega (arith, split.low))))

      scaled : (j : ℕ) → j < length f → at R g j ≡ R.mul w (at R f j)
      scaled j inside = let e : 0 + j ≡ j = omega arith in subst (λ k. at R g k ≡ R.mul w (at R f j)) e (written.there j inside R.zero)
