-- A commutative ring whose laws have no premise, with sums and powers: what the lawful elements of a kind form, as a type.
use Rattle.std.specs.Prelude.{◌≡◌, ℕ, zero, suc}

pub record CommRing (A : Type 0) : Type 0 where
  infixl 60 ◌⊕◌
  infixl 70 ◌⊗◌
  infix 80 ⊖◌
  pub 𝟘 : A
  pub 𝟙 : A
  pub ◌⊕◌ : A → A → A
  pub ◌⊗◌ : A → A → A
  pub ⊖◌ : A → A
  pub add_assoc : (x y z : A) → (x ⊕ y) ⊕ z ≡ x ⊕ (y ⊕ z)
  pub add_comm : (x y : A) → x ⊕ y ≡ y ⊕ x
  pub add_zero : (x : A) → x ⊕ 𝟘 ≡ x
  pub add_neg : (x : A) → x ⊕ (⊖ x) ≡ 𝟘
  pub mul_assoc : (x y z : A) → (x ⊗ y) ⊗ z ≡ x ⊗ (y ⊗ z)
  pub mul_comm : (x y : A) → x ⊗ y ≡ y ⊗ x
  pub mul_one : (x : A) → x ⊗ 𝟙 ≡ x
  pub distrib : (x y z : A) → x ⊗ (y ⊕ z) ≡ (x ⊗ y) ⊕ (x ⊗ z)

module _ {A : Type 0} (R : CommRing A) where
  infixl 60 ◌⊕◌
  infixl 70 ◌⊗◌
  open R use {𝟘, 𝟙, ◌⊕◌, ◌⊗◌}

  -- f 0 + f 1 + .. + f (n - 1)
  unfoldable pub sum : ℕ → (ℕ → A) → A
  sum zero f = 𝟘
  sum (suc n) f = sum n f ⊕ f n

  unfoldable pub power : A → ℕ → A
  power x zero = 𝟙
  power x (suc n) = power x n ⊗ x
