-- Polynomials over a field, cut at x^d and held by any packing, keep the laws of a kind.
use Rattle.std.proofs.Common.{◌≡◌, ℕ, zero, suc, ◌+◌, ◌-◌, ◌<◌, ◌≤◌, T, ◌≢◌, ◌⊎◌, sym, refl, ap, ◌∙◌, ap₂, inl, inr, arith}
use native.Mathlib.Decide.{dec_lt}
use Rattle.ring.specs.Commutative.{CommRing}
use Rattle.ring.specs.Ring.{RingLaws, Laws, power, UnitOf, Split}
use Rattle.ring.specs.Truncated.{product, monomial, Field, Packing, Packs, truncated}
use Rattle.ring.proofs.Sums as Sums
use Rattle.ring.proofs.Units.{unit_modulo}
use Rattle.ring.proofs.Convolution.{product_upto, product_comm, product_add, product_scale, product_assoc, one_product, monomial_below, monomial_from, monomial_same, monomial_other, monomial_next}

module _ {E A : Type 0} (F : CommRing A) {P : Packing E A} {d : ℕ} (ok : Packs P d) where
  infixl 60 ◌⊕◌
  infixl 70 ◌⊗◌
  infix 80 ⊖◌
  open F use {𝟘, 𝟙, ◌⊕◌, ◌⊗◌, ⊖◌, add_assoc, add_comm, add_zero, add_neg, mul_assoc, mul_comm, mul_one, distrib}
  open P use {lawful, coefficient, pack}

  -- a factor may be cut first
  pub cut_left : (f g : ℕ → A) (j : ℕ) → j < d → product F (coefficient (pack f)) g j ≡ product F f g j
  cut_left f g j h = product_upto F j _ g f g (λ i le. ok.reads f i (omega arith)) (λ i le. refl)

  pub cut_right : (f g : ℕ → A) (j : ℕ) → j < d → product F f (coefficient (pack g)) j ≡ product F f g j
  cut_right f g j h = product_upto F j f _ f g (λ i le. refl) (λ i le. ok.reads g i (omega arith))

  pub truncated_ring : RingLaws (truncated F P d)
  truncated_ring = record {
    zero_lawful = ok.inside _;
    one_lawful = ok.inside _;
    step_lawful = ok.inside _;
    add_lawful = λ a b _ _. ok.inside _;
    sub_lawful = λ a b _ _. ok.inside _;
    mul_lawful = λ a b _ _. ok.inside _;
    add_comm = λ a b _ _. ok.first _ _ (λ j h. add_comm (coefficient a j) (coefficient b j));
    add_assoc = λ a b c _ _ _. ok.first _ _ (λ j h.
        ap (λ z. z ⊕ coefficient c j) (ok.reads _ j h) ∙ add_assoc (coefficient a j) (coefficient b j) (coefficient c j)
        ∙ ap (λ z. coefficient a j ⊕ z) (sym (ok.reads _ j h)));
    add_zero = λ a ha. ok.first _ _ (λ j h. ap (λ z. coefficient a j ⊕ z) (ok.reads _ j h) ∙ add_zero (coefficient a j)) ∙ ok.back a ha;
    sub_add = λ a b ha _. ok.first _ _ (λ j h.
        ap (λ z. z ⊕ coefficient b j) (ok.reads _ j h) ∙ add_assoc (coefficient a j) (⊖ coefficient b j) (coefficient b j)
        ∙ ap (λ z. coefficient a j ⊕ z) (Sums.neg_add F (coefficient b j)) ∙ add_zero (coefficient a j)) ∙ ok.back a ha;
    mul_comm = λ a b _ _. ok.first _ _ (λ j h. product_comm F j (coefficient a) (coefficient b));
    mul_assoc = λ a b c _ _ _. ok.first _ _ (λ j h.
        cut_left (product F (coefficient a) (coefficient b)) (coefficient c) j h
        ∙ product_assoc F j (coefficient a) (coefficient b) (coefficient c)
        ∙ sym (cut_right (coefficient a) (product F (coefficient b) (coefficient c)) j h));
    mul_one = λ a ha. ok.first _ _ (λ j h.
        cut_right (coefficient a) (monomial F 0) j h ∙ product_comm F j (coefficient a) (monomial F 0) ∙ one_product F j (coefficient a)) ∙ ok.back a ha;
    mul_add = λ a b c _ _ _. ok.first _ _ (λ j h.
        cut_right (coefficient a) _ j h ∙ product_add F j (coefficient a) (coefficient b) (coefficient c)
        ∙ sym (ap₂ ◌⊕◌ (ok.reads (product F (coefficient a) (coefficient b)) j h) (ok.reads (product F (coefficient a) (coefficient c)) j h)));
  }

  -- step^i is x^i
  pub step_power : (i : ℕ) → power (truncated F P d) (pack (monomial F 1)) i ≡ pack (monomial F i)
  unfolding power
  step_power zero = refl
  step_power (suc i) =
      ap (λ z. pack (product F (coefficient z) (coefficient (pack (monomial F 1))))) (step_power i)
      ∙ ok.first _ _ (λ j h. cut_left (monomial F i) _ j h ∙ cut_right (monomial F i) (monomial F 1) j h ∙ monomial_next F i j)

  pub step_ends : power (truncated F P d) (pack (monomial F 1)) d ≡ pack (λ _. 𝟘)
  step_ends = step_power d ∙ ok.first _ _ (λ j h. monomial_other F d j (omega arith))

  step_lasts : 𝟙 ≢ 𝟘 → (i : ℕ) → i < d → power (truncated F P d) (pack (monomial F 1)) i ≢ pack (λ _. 𝟘)
  step_lasts distinct i h e = distinct
      (sym (ok.reads (monomial F i) i h ∙ monomial_same F i) ∙ ap (λ z. coefficient z i) (sym (step_power i) ∙ e) ∙ ok.reads (λ _. 𝟘) i h)

  -- an element whose constant has an inverse is a unit
  pub constant_unit : (u : E) (b : A) → T (lawful u) → coefficient u 0 ⊗ b ≡ 𝟙 → (w : E) × UnitOf (truncated F P d) u w
  constant_unit u b hu e = unit_modulo (truncated F P d) truncated_ring step_ends u (pack constant) (pack rest) hu (ok.inside _) (ok.inside _)
      (ok.first _ _ (λ j h. ap₂ ◌⊕◌ (ok.reads _ j h ∙ times j h) (ok.reads _ j h ∙ moved j h) ∙ whole j))
    where
      constant : ℕ → A
      constant j = b ⊗ monomial F 0 j

      rest : ℕ → A
      rest j = ⊖ (b ⊗ coefficient u (suc j))

      times : (j : ℕ) → j < d → product F (coefficient u) (coefficient (pack constant)) j ≡ b ⊗ coefficient u j
      times j h =
          cut_right (coefficient u) constant j h ∙ product_comm F j (coefficient u) constant
          ∙ product_scale F j b (monomial F 0) (coefficient u) ∙ ap (λ z. b ⊗ z) (one_product F j (coefficient u))

      moved : (j : ℕ) → j < d → product F (coefficient (pack (monomial F 1))) (coefficient (pack rest)) j ≡ product F (monomial F 1) rest j
      moved j h = cut_left (monomial F 1) _ j h ∙ cut_right (monomial F 1) rest j h

      whole : (j : ℕ) → b ⊗ coefficient u j ⊕ product F (monomial F 1) rest j ≡ monomial F 0 j
      whole zero = ap₂ ◌⊕◌ (mul_comm b (coefficient u 0) ∙ e) (monomial_below F 1 0 rest (omega arith)) ∙ add_zero 𝟙
      whole (suc j) =
          ap (λ z. b ⊗ coefficient u (suc j) ⊕ z) (monomial_from F 1 (suc j) rest (omega arith) ∙ ap rest (omega arith))
          ∙ add_neg (b ⊗ coefficient u (suc j))

  -- the zero element splits into step^d and one
  pub split_zero : 1 ≤ d → (a : E) → a ≡ pack (λ _. 𝟘) → Split (truncated F P d) a d (pack (monomial F 0))
  split_zero low a e = record {
    whole = e ∙ sym step_ends ∙ sym (truncated_ring.mul_one _ (power_lawful d));
    low = omega arith;
    zero_end = λ _. refl;
    end_zero = λ _. e;
    unit = (pack (monomial F 0), record { left = ok.inside _; right = ok.inside _; product = truncated_ring.mul_one _ (ok.inside _) });
  }
    where
      power_lawful : (i : ℕ) → T (lawful (power (truncated F P d) (pack (monomial F 1)) i))
      power_lawful i = rw step_power (ok.inside _)

  -- an element whose lowest nonzero coefficient is that of x^v, and is u's constant, splits into step^v and u
  pub split_at : 𝟙 ≢ 𝟘 → (a u : E) (v : ℕ) (b : A) → v < d → T (lawful a) → T (lawful u)
      → ((j : ℕ) → j < v → coefficient a j ≡ 𝟘) → ((j : ℕ) → v ≤ j → j < d → coefficient a j ≡ coefficient u (j - v))
      → coefficient a v ⊗ b ≡ 𝟙 → Split (truncated F P d) a v u
  split_at distinct a u v b hv ha hu below from unit = record {
    whole = sym (ap (λ z. pack (product F (coefficient z) (coefficient u))) (step_power v)
        ∙ ok.first _ _ (λ j h. cut_left (monomial F v) (coefficient u) j h ∙ at j h (dec_lt j v)) ∙ ok.back a ha);
    low = omega arith;
    zero_end = λ z. absurd (nonzero z);
    end_zero = λ z. absurd (omega arith);
    unit = constant_unit u b hu (ap (λ z. z ⊗ b) (sym (from v (omega arith) hv ∙ ap (coefficient u) (omega arith))) ∙ unit);
  }
    where
      at : (j : ℕ) → j < d → Dec (j < v) → product F (monomial F v) (coefficient u) j ≡ coefficient a j
      at j h (yes lt) = monomial_below F v j (coefficient u) lt ∙ sym (below j lt)
      at j h (no ge) = monomial_from F v j (coefficient u) (omega arith) ∙ sym (from j (omega arith) h)

      nonzero : a ≢ pack (λ _. 𝟘)
      nonzero z = distinct (sym unit ∙ ap (λ y. y ⊗ b) (ap (λ y. coefficient y v) z ∙ ok.reads _ v hv) ∙ Sums.zero_mul F b)

  pub split_moved : 𝟙 ≢ 𝟘 → (a : E) (v : ℕ) (b : A) → v < d → T (lawful a) → ((j : ℕ) → j < v → coefficient a j ≡ 𝟘)
      → coefficient a v ⊗ b ≡ 𝟙 → Split (truncated F P d) a v (pack (λ j. coefficient a (v + j)))
  split_moved distinct a v b hv ha below unit =
      split_at distinct a (pack (λ j. coefficient a (v + j))) v b hv ha (ok.inside _) below
      (λ j le lt. ap (coefficient a) (omega arith) ∙ sym (ok.reads _ (j - v) (omega arith))) unit

  -- the lowest nonzero coefficient below n, if there is one
  abbrev Lowest : (ℕ → A) → ℕ → Type 0
  Lowest f n = ((j : ℕ) → j < n → f j ≡ 𝟘) ⊎ ((v : ℕ) × (v < n) × ((j : ℕ) → j < v → f j ≡ 𝟘) × ((b : A) × (f v ⊗ b ≡ 𝟙)))

  lowest : Field F → (f : ℕ → A) (n : ℕ) → Lowest f n
  lowest field f zero = inl (λ j h. absurd (omega arith))
  lowest field f (suc n) = more (lowest field f n) (field (f n))
    where
      more : Lowest f n → (f n ≡ 𝟘) ⊎ ((b : A) × (f n ⊗ b ≡ 𝟙)) → Lowest f (suc n)
      more (inr h) _ = inr (h.0, omega (arith, h.1), h.2, h.3)
      more (inl none) (inr h) = inr (n, omega arith, none, h)
      more (inl none) (inl e) = inl (λ j h. upto j h (dec_lt j n))
        where
          upto : (j : ℕ) → j < suc n → Dec (j < n) → f j ≡ 𝟘
          upto j h (yes lt) = none j lt
          upto j h (no ge) = ap f (let s : j ≡ n = omega arith in s) ∙ e

  -- The theorem: over a field, the polynomials cut at x^d are a chain ring of depth d with step x.
  pub truncated_laws : Field F → 𝟙 ≢ 𝟘 → 1 ≤ d → d ≤ 31 → Laws (truncated F P d)
  truncated_laws field distinct low high = record {
    ring_laws = truncated_ring;
    depth_low = low;
    depth_high = high;
    power_not = step_lasts distinct;
    power_end = step_ends;
    splits = λ a ha. split a ha (lowest field (coefficient a) d);
  }
    where
      split : (a : E) → T (lawful a) → Lowest (coefficient a) d → (v : ℕ) × (u : E) × Split (truncated F P d) a v u
      split a ha (inl none) = (d, pack (monomial F 0), split_zero low a (sym (ok.back a ha) ∙ ok.first _ _ none))
      split a ha (inr h) = (h.0, pack (λ j. coefficient a (h.0 + j)), split_moved distinct a h.0 h.3.0 h.1 ha h.2 h.3.1)
