-- Valuations, multiples of a power of the step, and values at places.
use mathlib.Core.Path.{◌≡◌, sym, ap, ap₂, ◌∙◌}
use mathlib.Core.Logic.{◌≢◌}
use Prim.Native.Nat.{ℕ, zero, suc, ◌+◌, ◌-◌, ◌/◌, ◌%◌, ◌<◌, ◌≤◌}
use native.Mathlib.Nat.{le-div_iff_mul-le, div-mul-le_self, le_trans}
use native.Mathlib.Decide.{dec_lt}
use native.Mathlib.Omega.{arith}
use Rattle.ring.specs.Commutative.{CommRing, power}
use Rattle.recurrence.proofs.Captures.{Capture, Valued, Chain, Multiple, Below, value}
use Rattle.recurrence.proofs.Polynomials.{plus}
use Rattle.ring.proofs.Sums as Sums
use Rattle.recurrence.proofs.Recurrences.{act_plus, act_none, zero_plus_zero}

pub div_mono : (n a b : ℕ) → 0 < n → a ≤ b → a / n ≤ b / n
div_mono n a b pos h = (le-div_iff_mul-le {k = n} pos).1 (le_trans (div-mul-le_self a n) h)

module _ {A : Type 0} (R : CommRing A) where
  infixl 60 ◌⊕◌
  infixl 70 ◌⊗◌
  infix 80 ⊖◌
  open R use {𝟘, 𝟙, ◌⊕◌, ◌⊗◌, ⊖◌, add_assoc, add_comm, add_zero, add_neg, mul_assoc, mul_comm, mul_one, distrib}

  pub undo : (a b u : A) → (a ⊕ (⊖ u) ⊗ b) ⊕ u ⊗ b ≡ a
  undo a b u =
      add_assoc a ((⊖ u) ⊗ b) (u ⊗ b)
      ∙ ap (λ z. a ⊕ z) (sym (Sums.distrib_right R (⊖ u) u b) ∙ ap (λ z. z ⊗ b) (Sums.neg_add R u) ∙ Sums.zero_mul R b) ∙ add_zero a

  -- x u - u b where b is x
  pub cancel_top : (a b u : A) → a ≡ b ⊗ u → a ⊕ (⊖ u) ⊗ b ≡ 𝟘
  cancel_top a b u e =
      ap (λ z. z ⊕ (⊖ u) ⊗ b) (e ∙ mul_comm b u) ∙ sym (Sums.distrib_right R u (⊖ u) b) ∙ ap (λ z. z ⊗ b) (add_neg u) ∙ Sums.zero_mul R b

module _ {A : Type 0} (C : Capture A) (chain : Chain C) where
  infixl 60 ◌⊕◌
  infixl 70 ◌⊗◌
  infix 80 ⊖◌
  open C use {ring as R, step, depth as d, words as e, channels as n, at as S}
  open R use {𝟘, 𝟙, ◌⊕◌, ◌⊗◌, ⊖◌, add_assoc, add_comm, add_zero, add_neg, mul_assoc, mul_comm, mul_one, distrib}

  pub multiple_zero : (v : ℕ) (a : A) → a ≡ 𝟘 → Multiple C v a
  multiple_zero v a e = record { part = 𝟘; is = e ∙ sym (Sums.mul_zero R (power R step v)) }

  pub multiple_add : (v : ℕ) (a b : A) → Multiple C v a → Multiple C v b → Multiple C v (a ⊕ b)
  multiple_add v a b x y = record { part = x.part ⊕ y.part; is = ap₂ ◌⊕◌ x.is y.is ∙ sym (distrib (power R step v) x.part y.part) }

  pub multiple_scale : (v : ℕ) (c a : A) → Multiple C v a → Multiple C v (c ⊗ a)
  multiple_scale v c a x =
      record { part = c ⊗ x.part; is = ap (λ w. c ⊗ w) x.is ∙ Sums.mul_left_comm R c (power R step v) x.part }

  -- a smaller power divides
  pub multiple_less : (v w : ℕ) (a : A) → v ≤ w → Multiple C w a → Multiple C v a
  multiple_less v w a h x =
      let e : w ≡ v + (w - v) = omega arith in
      record {
        part = power R step (w - v) ⊗ x.part;
        is = x.is ∙ ap (λ k. power R step k ⊗ x.part) e ∙ ap (λ k. k ⊗ x.part) (Sums.power_add R step v (w - v)) ∙ mul_assoc (power R step v) (power R step (w - v)) x.part;
      }

  pub valued_multiple : (v : ℕ) (a : A) → Valued C v a → Multiple C v a
  valued_multiple v a x = record { part = x.unit; is = x.is }

  -- a multiple of step^v has no smaller valuation
  pub valued_least : (v w : ℕ) (a : A) → v ≤ d → Multiple C v a → Valued C w a → ¬ (w < v)
  valued_least v w a small x y h = chain.lasts (w + (d - v)) (omega arith) gone
    where
      W : A
      W = power R step w

      V : A
      V = power R step v

      K : A
      K = power R step (d - v)

      rest : A
      rest = x.part ⊗ y.inverse

      whole_is : W ≡ V ⊗ rest
      whole_is =
          sym (mul_one W) ∙ ap (λ z. W ⊗ z) (sym y.inverts) ∙ sym (mul_assoc W y.unit y.inverse)
          ∙ ap (λ z. z ⊗ y.inverse) (sym y.is ∙ x.is) ∙ mul_assoc V x.part y.inverse

      VK : V ⊗ K ≡ 𝟘
      VK = sym (Sums.power_add R step v (d - v)) ∙ ap (power R step) (omega arith) ∙ chain.ends

      moved : (V ⊗ rest) ⊗ K ≡ (V ⊗ K) ⊗ rest
      moved = simp (mul_assoc, mul_comm, Sums.mul_left_comm R)

      gone : power R step (w + (d - v)) ≡ 𝟘
      gone =
          Sums.power_add R step w (d - v) ∙ ap (λ z. z ⊗ K) whole_is ∙ moved
          ∙ ap (λ z. z ⊗ rest) VK ∙ Sums.zero_mul R rest

  pub valued_zero : (w : ℕ) (a : A) → Valued C w a → ¬ (w < d) → a ≡ 𝟘
  valued_zero w a y h =
      let e : w ≡ d = omega arith in
      y.is ∙ ap (λ k. power R step k ⊗ y.unit) e ∙ ap (λ k. k ⊗ y.unit) chain.ends ∙ Sums.zero_mul R y.unit

  pub valued_nonzero : (w : ℕ) (a : A) → Valued C w a → w < d → a ≢ 𝟘
  valued_nonzero w a y h e = valued_least d w a (omega arith) (multiple_zero d a e) y h

  -- an element has one valuation
  pub valued_once : (v w : ℕ) (a : A) → Valued C v a → Valued C w a → v ≡ w
  valued_once v w a x y =
      omega (arith, valued_least v w a x.within (valued_multiple v a x) y, valued_least w v a y.within (valued_multiple w a y) x)

  pub below_down : (m : ℕ) (p : ℕ → A) → Below C (suc m) p → p m ≡ 𝟘 → Below C m p
  below_down m p below e j h = at (dec_lt m j)
    where
      at : Dec (m < j) → p j ≡ 𝟘
      at (yes k) = below j k
      at (no k) = let same : j ≡ m = omega arith in ap p same ∙ e

  pub plus_below : (m : ℕ) (p f : ℕ → A) (c : A) → Below C m p → Below C m f → Below C m (plus R p c f)
  plus_below m p f c hp hf j h = zero_plus_zero R (p j) (f j) c (hp j h) (hf j h)

  abbrev val : (ℕ → A) → ℕ → A
  val = value C

  pub value_plus : (p f : ℕ → A) (c : A) (q : ℕ) → val (plus R p c f) q ≡ val p q ⊕ c ⊗ val f q
  unfolding value
  value_plus p f c q = act_plus R (suc e) p f c (λ k. S k (q % n)) (q / n)

  pub value_none : (p : ℕ → A) (q : ℕ) → Below C zero p → val p q ≡ 𝟘
  unfolding value
  value_none p q h = act_none R (suc e) p (λ k. S k (q % n)) (q / n) (λ j _. h j (omega arith))

  -- zero plus a multiple of zero
  pub value_plus_zero : (p f : ℕ → A) (c : A) (q : ℕ) → val p q ≡ 𝟘 → val f q ≡ 𝟘 → val (plus R p c f) q ≡ 𝟘
  value_plus_zero p f c q hp hf = value_plus p f c q ∙ zero_plus_zero R (val p q) (val f q) c hp hf
