-- Multiples of y: y^k p has at a place the value that p has k words later.
use Rattle.std.proofs.Common.{◌≡◌, ℕ, suc, ◌+◌, ◌-◌, ◌*◌, ◌/◌, ◌%◌, ◌≤◌, sym, ◌∙◌, ap₂, arith}
use native.Mathlib.Nat.{add-mul-div_right, add-mul-mod_self_right}
use Rattle.recurrence.proofs.Polynomials.{shift, act}
use Rattle.recurrence.proofs.Captures.{Capture, Chain, Below, Monic, value, Counts, Zeros, Cancels}
use Rattle.recurrence.proofs.Recurrences as Rec

module _ {A : Type 0} (C : Capture A) (chain : Chain C) where
  open C use {ring as R, words as e, channels as n, at as S}

  shift_below : (k m : ℕ) (p : ℕ → A) → Below C m p → Below C (k + m) (shift R k p)
  shift_below k m p below j h = Rec.shift_at R k p j (omega arith) ∙ below (j - k) (omega arith)

  pub shift_monic : (k i m : ℕ) (p : ℕ → A) → Monic C i m p → Monic C i (k + m) (shift R k p)
  shift_monic k i m p monic = record {
    below = λ j h. shift_below k (suc m) p monic.below j (omega arith);
    top = Rec.shift_after R k p m ∙ monic.top;
  }

  value_shift : (k m : ℕ) (p : ℕ → A) → Below C (suc m) p → k + m ≤ e → (q : ℕ) → value C (shift R k p) q ≡ value C p (q + k * n)
  unfolding value
  value_shift k m p below h q =
      Rec.act_stretch R (k + suc m) (suc e) (shift R k p) (λ j. S j (q % n)) (q / n) (omega arith) (shift_below k (suc m) p below)
      ∙ Rec.act_shift R k (suc m) p (λ j. S j (q % n)) (q / n)
      ∙ sym (Rec.act_stretch R (suc m) (suc e) p (λ j. S j (q % n)) (q / n + k) (omega arith) below)
      ∙ sym (ap₂ (λ c t. act R (suc e) p (λ j. S j c) t) (add-mul-mod_self_right q k n) (add-mul-div_right q k chain.wide))

  counts_shift : (k m q : ℕ) → Counts C (k + m) q → Counts C m (q + k * n)
  counts_shift k m q h = omega (arith, add-mul-div_right q k {z = n} chain.wide)

  pub zeros_shift : (k m a : ℕ) (p : ℕ → A) → Below C (suc m) p → k + m ≤ e → Zeros C m a p → Zeros C (k + m) (a - k * n) (shift R k p)
  zeros_shift k m a p below h zeros r b counts = value_shift k m p below h r ∙ zeros (r + k * n) (omega arith) (counts_shift k m r counts)

  pub cancels_shift : (k m : ℕ) (p : ℕ → A) → Below C (suc m) p → k + m ≤ e → Cancels C m p → Cancels C (k + m) (shift R k p)
  cancels_shift k m p below h cancels r counts = value_shift k m p below h r ∙ cancels (r + k * n) (counts_shift k m r counts)
