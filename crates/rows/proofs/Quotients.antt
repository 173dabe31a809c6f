-- Division in a chain ring.
use Rattle.std.proofs.Common.{◌≡◌, ℕ, ◌+◌, ◌-◌, ◌≤◌, T, sym, ap, ◌∙◌, subst, add-one, arith}
use Rattle.ring.specs.Ring.{Ring, Laws, Split}
use Rattle.ring.specs.Commutative.{power}
use Rattle.ring.specs.Lawful.{Lawful, Is, lifted, step_of, hold, level_of}
use Rattle.ring.proofs.Sums as Sums
use Rattle.ring.proofs.Lifts as Lifts
use Rattle.ring.proofs.Valuations.{valuation_unique}
use Rattle.recurrence.proofs.Captures.{Capture, Valued}
use Rattle.recurrence.proofs.Lift as Lift
use Rattle.rows.specs.Rows.{Quotient}

module _ {A : Type 0} (C : Capture A) where
  infixl 70 ◌⊗◌
  open C use {ring as R, step}
  open R use {◌⊗◌, mul_assoc, mul_comm, mul_one}

  -- what has the greater valuation is a multiple
  divided : (w v : ℕ) (a b : A) → (x : Valued C w a) (y : Valued C v b) → v ≤ w → a ≡ b ⊗ (power R step (w - v) ⊗ (x.unit ⊗ y.inverse))
  divided w v a b x y h =
      let e' : w ≡ v + (w - v) = omega arith in
      x.is ∙ ap (λ z. z ⊗ up) (ap (power R step) e' ∙ Sums.power_add R step v (w - v)) ∙ sym (mul_one (V ⊗ K ⊗ up))
      ∙ ap (λ z. V ⊗ K ⊗ up ⊗ z) (sym y.inverts) ∙ sorted ∙ ap (λ z. z ⊗ (K ⊗ (up ⊗ back))) (sym y.is)
    where
      V : A
      V = power R step v

      K : A
      K = power R step (w - v)

      up : A
      up = x.unit

      down : A
      down = y.unit

      back : A
      back = y.inverse

      sorted : V ⊗ K ⊗ up ⊗ (down ⊗ back) ≡ V ⊗ down ⊗ (K ⊗ (up ⊗ back))
      sorted = simp (mul_assoc, mul_comm, Sums.mul_left_comm R)

module _ {E : Type 0} {R : Ring E} (L : Laws R) where
  -- a valuation is of the ring alone: any capture serves
  abbrev C : Capture (Lawful L)
  C = Lift.capture L (λ _ _. R.zero) 1 0

  abbrev valued : (a u : E) (x : Lawful L) (v : ℕ) → Is L a x → Split R a v u → Valued C v x
  valued a u x v is s = Lift.valued_of L (λ _ _. R.zero) 1 0 a u x v is s

  -- the valuation that a split answers is the one of the laws
  pub level_is : (a u : E) (x : Lawful L) (v : ℕ) → Is L a x → (T (R.lawful a) → Split R a v u) → level_of L x ≡ v
  level_is a u x v is s = valuation_unique L x.0 _ u (level_of L x) v (L.splits x.0 x.1).2 (subst (λ z. Split R z v u) is.eq (s (Lifts.ok L is)))

  pub power_next : (i : ℕ) (p s r : E) → Is L p (power (lifted L) (step_of L) i) → s ≡ R.step → (T (R.lawful p) → T (R.lawful s) → r ≡ R.mul p s)
      → Is L r (power (lifted L) (step_of L) (i + 1))
  unfolding power
  power_next i p s r hp es er = rw add-one (Lifts.mul_is L hp (Lifts.step_is L es) er)

  pub quotient_made : (a b t u i m p c : E) (w v : ℕ) → T (R.lawful a) → T (R.lawful b) → (T (R.lawful a) → Split R a w t) → (T (R.lawful b) → Split R b v u) → v ≤ w
      → ((x : E) → T (R.lawful u) → T (R.lawful x) → R.mul u x ≡ R.one → i ≡ x)
      → (T (R.lawful t) → T (R.lawful i) → m ≡ R.mul t i)
      → Is L p (power (lifted L) (step_of L) (w - v))
      → (T (R.lawful p) → T (R.lawful m) → c ≡ R.mul p m)
      → Quotient L a b c
  quotient_made a b t u i m p c w v ha hb sa sb h ei em ep ec =
      let x = valued a t (hold L a) w (Lifts.hold_is L a ha) (sa ha) in
      let y = valued b u (hold L b) v (Lifts.hold_is L b hb) (sb hb) in
      let unit = (sb hb).unit in
      let it : Is L t x.unit = Lift.unit_is L (λ _ _. R.zero) 1 0 a t (hold L a) w (Lifts.hold_is L a ha) (sa ha) in
      let ii : Is L i y.inverse = Lifts.is_same L (ei unit.0 unit.1.left unit.1.right unit.1.product) (Lift.inverse_is L (λ _ _. R.zero) 1 0 b u (hold L b) v (Lifts.hold_is L b hb) (sb hb)) in
      let ic = Lifts.mul_is L ep (Lifts.mul_is L it ii em) ec in
      record {
        lawful = Lifts.ok L ic;
        product = divided C w v (hold L a) (hold L b) x y h ∙ ap ((lifted L).◌⊗◌ (hold L b)) (sym (Lifts.held L ic));
      }
