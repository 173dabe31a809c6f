-- Polynomials in x over a commutative ring, cut at x^d, however an element holds its coefficients.
use Rattle.std.specs.Prelude.{◌≡◌, ℕ, zero, suc, ◌-◌, ◌<◌, Bool, T, ◌⊎◌}
use Rattle.ring.specs.Commutative.{CommRing, sum}
use Rattle.ring.specs.Ring.{Ring}

module _ {A : Type 0} (F : CommRing A) where
  infixl 60 ◌⊕◌
  infixl 70 ◌⊗◌
  infix 80 ⊖◌
  open F use {𝟘, 𝟙, ◌⊕◌, ◌⊗◌, ⊖◌}

  -- the coefficient of x^k in a product: f 0 × g k + f 1 × g (k - 1) + .. + f k × g 0
  unfoldable pub product : (ℕ → A) → (ℕ → A) → ℕ → A
  product f g k = sum F (suc k) (λ i. f i ⊗ g (k - i))

  -- the coefficients of x^i
  abbrev pub monomial : ℕ → ℕ → A
  monomial zero zero = 𝟙
  monomial zero (suc j) = 𝟘
  monomial (suc i) zero = 𝟘
  monomial (suc i) (suc j) = monomial i j

  -- every element but zero has an inverse
  abbrev pub Field : Type 0
  Field = (a : A) → (a ≡ 𝟘) ⊎ ((b : A) × (a ⊗ b ≡ 𝟙))

-- how coefficients are held: which elements are lawful, what coefficient one has, and the element that has given ones
pub record Packing (E A : Type 0) : Type 0 where
  pub lawful : E → Bool
  pub coefficient : E → ℕ → A
  pub pack : (ℕ → A) → E

-- lawful elements are the same as their first d coefficients
pub record Packs {E A : Type 0} (P : Packing E A) (d : ℕ) : Type 0 where
  pub inside : (f : ℕ → A) → T (P.lawful (P.pack f))
  pub reads : (f : ℕ → A) (j : ℕ) → j < d → P.coefficient (P.pack f) j ≡ f j
  pub first : (f g : ℕ → A) → ((j : ℕ) → j < d → f j ≡ g j) → P.pack f ≡ P.pack g
  pub back : (a : E) → T (P.lawful a) → P.pack (P.coefficient a) ≡ a

-- the ring of polynomials over F cut at x^d, with step x
abbrev pub truncated : {E A : Type 0} → CommRing A → Packing E A → ℕ → Ring E
truncated F P d = record {
  depth = d;
  lawful = P.lawful;
  zero = P.pack (λ _. F.𝟘);
  one = P.pack (monomial F 0);
  step = P.pack (monomial F 1);
  add = λ a b. P.pack (λ j. F.◌⊕◌ (P.coefficient a j) (P.coefficient b j));
  sub = λ a b. P.pack (λ j. F.◌⊕◌ (P.coefficient a j) (F.⊖◌ (P.coefficient b j)));
  mul = λ a b. P.pack (product F (P.coefficient a) (P.coefficient b));
}
