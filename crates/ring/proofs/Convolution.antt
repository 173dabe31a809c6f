-- The product of polynomials is commutative, associative and distributes, and x^i moves coefficients up by i.
use Rattle.std.proofs.Common.{◌≡◌, ℕ, zero, suc, ◌-◌, ◌<◌, ◌≤◌, ◌≢◌, sym, refl, ap, ◌∙◌, ap₂, arith}
use Rattle.ring.specs.Commutative.{CommRing, sum}
use Rattle.ring.specs.Truncated.{product, monomial}
use Rattle.ring.proofs.Sums as Sums

-- without the lowest coefficient
abbrev pub tail : {A : Type 0} → (ℕ → A) → ℕ → A
tail f n = f (suc n)

module _ {A : Type 0} (F : CommRing A) where
  infixl 60 ◌⊕◌
  infixl 70 ◌⊗◌
  infix 80 ⊖◌
  open F use {𝟘, 𝟙, ◌⊕◌, ◌⊗◌, ⊖◌, add_assoc, add_comm, add_zero, add_neg, mul_assoc, mul_comm, mul_one, distrib}

  -- it depends on the coefficients up to its degree only
  pub product_upto : (k : ℕ) (f g f' g' : ℕ → A) → ((j : ℕ) → j ≤ k → f j ≡ f' j) → ((j : ℕ) → j ≤ k → g j ≡ g' j) → product F f g k ≡ product F f' g' k
  unfolding product
  product_upto k f g f' g' ef eg = Sums.sum_ext F (suc k) _ _ (λ i h. ap₂ ◌⊗◌ (ef i (omega arith)) (eg (k - i) (omega arith)))

  pub product_zero : (f g : ℕ → A) → product F f g 0 ≡ f 0 ⊗ g 0
  unfolding product sum
  product_zero f g = Sums.zero_add F (f 0 ⊗ g 0)

  -- the first term taken off
  pub product_first : (k : ℕ) (f g : ℕ → A) → product F f g (suc k) ≡ f 0 ⊗ g (suc k) ⊕ product F (tail f) g k
  unfolding product
  product_first k f g =
      Sums.sum_front F (suc k) (λ i. f i ⊗ g (suc k - i))
      ∙ ap₂ ◌⊕◌ (ap (λ (n : ℕ). f 0 ⊗ g n) (let e : suc k - 0 ≡ suc k = omega arith in e))
      (Sums.sum_ext F (suc k) _ _ (λ i h. ap (λ (n : ℕ). f (suc i) ⊗ g n) (let e : suc k - suc i ≡ k - i = omega arith in e)))

  -- the last term taken off
  product_last : (k : ℕ) (f g : ℕ → A) → product F f g (suc k) ≡ product F f (tail g) k ⊕ f (suc k) ⊗ g 0
  unfolding product
  product_last k f g =
      Sums.sum_suc F (suc k) (λ i. f i ⊗ g (suc k - i))
      ∙ ap₂ ◌⊕◌ (Sums.sum_ext F (suc k) _ _ (λ i h. ap (λ (n : ℕ). f i ⊗ g n) (let e : suc k - i ≡ suc (k - i) = omega arith in e)))
      (ap (λ (n : ℕ). f (suc k) ⊗ g n) (let e : suc k - suc k ≡ 0 = omega arith in e))

  pub product_comm : (k : ℕ) (f g : ℕ → A) → product F f g k ≡ product F g f k
  product_comm zero f g = product_zero f g ∙ mul_comm (f 0) (g 0) ∙ sym (product_zero g f)
  product_comm (suc k) f g =
      product_first k f g ∙ ap₂ ◌⊕◌ (mul_comm (f 0) (g (suc k))) (product_comm k (tail f) g)
      ∙ add_comm (g (suc k) ⊗ f 0) (product F g (tail f) k) ∙ sym (product_last k g f)

  pub product_add : (k : ℕ) (f g h : ℕ → A) → product F f (λ j. g j ⊕ h j) k ≡ product F f g k ⊕ product F f h k
  unfolding product
  product_add k f g h =
      Sums.sum_ext F (suc k) _ _ (λ i _. distrib (f i) (g (k - i)) (h (k - i))) ∙ Sums.sum_add F (suc k) (λ i. f i ⊗ g (k - i)) (λ i. f i ⊗ h (k - i))

  add_product : (k : ℕ) (f g h : ℕ → A) → product F (λ j. f j ⊕ g j) h k ≡ product F f h k ⊕ product F g h k
  add_product k f g h = product_comm k _ h ∙ product_add k h f g ∙ ap₂ ◌⊕◌ (product_comm k h f) (product_comm k h g)

  pub product_scale : (k : ℕ) (c : A) (f g : ℕ → A) → product F (λ j. c ⊗ f j) g k ≡ c ⊗ product F f g k
  unfolding product
  product_scale k c f g = Sums.sum_ext F (suc k) _ _ (λ i _. mul_assoc c (f i) (g (k - i))) ∙ Sums.sum_scale F (suc k) c (λ i. f i ⊗ g (k - i))

  product_rest : (k : ℕ) (f g h : ℕ → A) → product F (tail (product F f g)) h k ≡ f 0 ⊗ product F (tail g) h k ⊕ product F (product F (tail f) g) h k
  product_rest k f g h =
      product_upto k (tail (product F f g)) h (λ j. f 0 ⊗ g (suc j) ⊕ product F (tail f) g j) h (λ j _. product_first j f g) (λ j _. refl)
      ∙ add_product k (λ j. f 0 ⊗ g (suc j)) (product F (tail f) g) h
      ∙ ap (λ z. z ⊕ product F (product F (tail f) g) h k) (product_scale k (f 0) (tail g) h)

  pub product_assoc : (k : ℕ) (f g h : ℕ → A) → product F (product F f g) h k ≡ product F f (product F g h) k
  product_assoc zero f g h =
      product_zero (product F f g) h ∙ ap (λ z. z ⊗ h 0) (product_zero f g) ∙ mul_assoc (f 0) (g 0) (h 0)
      ∙ ap (λ z. f 0 ⊗ z) (sym (product_zero g h)) ∙ sym (product_zero f (product F g h))
  product_assoc (suc k) f g h =
      product_first k (product F f g) h
      ∙ ap₂ ◌⊕◌ (ap (λ z. z ⊗ h (suc k)) (product_zero f g) ∙ mul_assoc (f 0) (g 0) (h (suc k))) (product_rest k f g h ∙ ap (λ z. f 0 ⊗ product F (tail g) h k ⊕ z) (product_assoc k (tail f) g h))
      ∙ sym (add_assoc (f 0 ⊗ (g 0 ⊗ h (suc k))) (f 0 ⊗ product F (tail g) h k) (product F (tail f) (product F g h) k))
      ∙ ap (λ z. z ⊕ product F (tail f) (product F g h) k)
      (sym (distrib (f 0) (g 0 ⊗ h (suc k)) (product F (tail g) h k)) ∙ ap (λ z. f 0 ⊗ z) (sym (product_first k g h)))
      ∙ sym (product_first k f (product F g h))

  none_product : (k : ℕ) (g : ℕ → A) → product F (λ _. 𝟘) g k ≡ 𝟘
  unfolding product
  none_product k g = Sums.sum_none F (suc k) _ (λ i _. Sums.zero_mul F (g (k - i)))

  pub one_product : (k : ℕ) (g : ℕ → A) → product F (monomial F 0) g k ≡ g k
  one_product zero g = product_zero (monomial F 0) g ∙ Sums.one_mul F (g 0)
  one_product (suc k) g =
      product_first k (monomial F 0) g ∙ ap₂ ◌⊕◌ (Sums.one_mul F (g (suc k))) (none_product k g) ∙ add_zero (g (suc k))

  -- x^i times g has no coefficient below i
  pub monomial_below : (i j : ℕ) (g : ℕ → A) → j < i → product F (monomial F i) g j ≡ 𝟘
  monomial_below zero j g h = absurd (omega arith)
  monomial_below (suc i) zero g h = product_zero (monomial F (suc i)) g ∙ Sums.zero_mul F (g 0)
  monomial_below (suc i) (suc j) g h =
      product_first j (monomial F (suc i)) g ∙ ap₂ ◌⊕◌ (Sums.zero_mul F (g (suc j))) (monomial_below i j g (omega arith)) ∙ add_zero 𝟘

  -- and from i on those of g
  pub monomial_from : (i j : ℕ) (g : ℕ → A) → i ≤ j → product F (monomial F i) g j ≡ g (j - i)
  monomial_from zero j g h = one_product j g ∙ ap g (omega arith)
  monomial_from (suc i) zero g h = absurd (omega arith)
  monomial_from (suc i) (suc j) g h =
      product_first j (monomial F (suc i)) g ∙ ap₂ ◌⊕◌ (Sums.zero_mul F (g (suc j))) (monomial_from i j g (omega arith))
      ∙ Sums.zero_add F (g (j - i)) ∙ ap g (omega arith)

  pub monomial_same : (i : ℕ) → monomial F i i ≡ 𝟙
  monomial_same zero = refl
  monomial_same (suc i) = monomial_same i

  pub monomial_other : (i j : ℕ) → j ≢ i → monomial F i j ≡ 𝟘
  monomial_other zero zero ne = absurd (ne refl)
  monomial_other zero (suc j) ne = refl
  monomial_other (suc i) zero ne = refl
  monomial_other (suc i) (suc j) ne = monomial_other i j (λ e. ne (ap suc e))

  -- x^i times x
  pub monomial_next : (i j : ℕ) → product F (monomial F i) (monomial F 1) j ≡ monomial F (suc i) j
  monomial_next i zero = product_comm 0 (monomial F i) (monomial F 1) ∙ monomial_below 1 0 (monomial F i) (omega arith)
  monomial_next i (suc j) =
      product_comm (suc j) (monomial F i) (monomial F 1) ∙ monomial_from 1 (suc j) (monomial F i) (omega arith) ∙ ap (monomial F i) (omega arith)

  -- an inverse of u as far as x^k is one as far as x^(k + 1), with minus the next coefficient of the product times the inverse of u's constant
  pub inverse_next : (k : ℕ) (u w w' : ℕ → A) (b : A) → u 0 ⊗ b ≡ 𝟙 → ((j : ℕ) → j ≤ k → w' j ≡ w j) → w (suc k) ≡ 𝟘
      → w' (suc k) ≡ (⊖ product F u w (suc k)) ⊗ b → product F u w' (suc k) ≡ 𝟘
  inverse_next k u w w' b unit same none next =
      product_first k u w'
      ∙ ap₂ ◌⊕◌ (ap (λ z. u 0 ⊗ z) next ∙ Sums.mul_left_comm F (u 0) (⊖ product F u w (suc k)) b ∙ ap (λ z. (⊖ product F u w (suc k)) ⊗ z) unit ∙ mul_one (⊖ product F u w (suc k)))
      (product_upto k (tail u) w' (tail u) w (λ j _. refl) same ∙ sym rest)
      ∙ Sums.neg_add F (product F u w (suc k))
    where
      rest : product F u w (suc k) ≡ product F (tail u) w k
      rest = product_first k u w ∙ ap (λ z. z ⊕ product F (tail u) w k) (ap (λ z. u 0 ⊗ z) none ∙ Sums.mul_zero F (u 0)) ∙ Sums.zero_add F (product F (tail u) w k)
