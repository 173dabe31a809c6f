-- Polynomials and sequences over a commutative ring: a polynomial is its coefficients from the lowest, a sequence its words.
use mathlib.Core.Path.{◌≡◌}
use Prim.Native.Nat.{ℕ, zero, suc, ◌+◌, ◌-◌}
use native.Mathlib.Decide.{dec_lt}
use Rattle.ring.specs.Commutative.{CommRing, sum}

-- a if it holds, else b
unfoldable pub choose : {A P : Type 0} → Dec P → A → A → A
choose (yes _) a b = a
choose (no _) a b = b

module _ {A : Type 0} (R : CommRing A) where
  infixl 60 ◌⊕◌
  infixl 70 ◌⊗◌
  infix 80 ⊖◌
  open R use {𝟘, 𝟙, ◌⊕◌, ◌⊗◌, ⊖◌}

  -- p + c f
  abbrev pub plus : (ℕ → A) → A → (ℕ → A) → ℕ → A
  plus p c f j = p j ⊕ c ⊗ f j

  -- y^k p
  unfoldable pub shift : ℕ → (ℕ → A) → ℕ → A
  shift k p j = choose (dec_lt j k) 𝟘 (p (j - k))

  -- the words of S before e, continued by the recurrence of the monic polynomial p of degree L; the word k wants k + 1 rounds
  unfoldable pub rounds : ℕ → (ℕ → A) → ℕ → (ℕ → A) → ℕ → ℕ → A
  rounds L p e S zero k = 𝟘
  rounds L p e S (suc r) k = choose (dec_lt k e) (S k) (⊖ sum R L (λ j. p j ⊗ rounds L p e S r (k - L + j)))

  unfoldable pub run : ℕ → (ℕ → A) → ℕ → (ℕ → A) → ℕ → A
  run L p e S k = rounds L p e S (suc k) k

  -- the polynomial p with N coefficients at the word t of w: p₀ w(t) + .. + p(N-1) w(t + N - 1)
  unfoldable pub act : ℕ → (ℕ → A) → (ℕ → A) → ℕ → A
  act N p w t = sum R N (λ j. p j ⊗ w (t + j))

  -- w obeys the monic polynomial q of degree D
  pub record Obeys (D : ℕ) (q w : ℕ → A) : Type 0 where
    pub monic : q D ≡ 𝟙
    pub cancels : (t : ℕ) → act (suc D) q w t ≡ 𝟘
