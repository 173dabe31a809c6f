-- Strong induction on the native numbers.
use Rattle.std.proofs.Common.{ℕ, zero, suc, ◌<◌, arith}

module _ (P : ℕ → Type 0) (step : (n : ℕ) → ((m : ℕ) → m < n → P m) → P n) where
  below : (n m : ℕ) → m < n → P m
  below zero m h = absurd (omega arith)
  below (suc n) m h = step m (λ k less. below n k (omega arith))

  pub strong : (n : ℕ) → P n
  strong n = below (suc n) n (omega arith)
