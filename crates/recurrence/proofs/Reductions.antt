-- Answers by level, the run that the answer of level 0 continues, and reduction by the answers.
use mathlib.Core.Path.{◌≡◌}
use Prim.Native.Nat.{ℕ, ◌+◌, ◌-◌, ◌<◌, ◌≤◌}
use Rattle.recurrence.proofs.Polynomials.{plus, shift, run}
use Rattle.recurrence.proofs.Captures.{Capture, Leads, Monic, Cancels}

module _ {A : Type 0} (C : Capture A) where
  infix 80 ⊖◌
  open C use {ring as R, step, depth as d, words as e, channels as n, at as S}
  open R use {𝟘, ⊖◌}

  -- p, of degree L and beginning with step^i, cancels the capture, and nothing of its level and a smaller degree does
  pub record Answer (i L : ℕ) (p : ℕ → A) : Type 0 where
    pub monic : Monic C i L p
    pub cancels : Cancels C L p
    pub least : (m : ℕ) (f : ℕ → A) → Leads C i m f → Cancels C m f → L ≤ m

  -- channel c, continued by the monic polynomial p of degree L
  abbrev pub channel : ℕ → (ℕ → A) → ℕ → ℕ → A
  channel L p c = run R L p e (λ k. S k c)

  -- the answers of all levels, found by a long enough capture
  pub record Answers (L : ℕ → ℕ) (P : ℕ → ℕ → A) : Type 0 where
    pub answer : (i : ℕ) → i < d → Answer i (L i) (P i)
    pub half : L 0 + L 0 ≤ e

  -- what cannot be reduced
  pub record Small (L : ℕ → ℕ) (r : ℕ → A) : Type 0 where
    pub level : ℕ
    pub degree : ℕ
    pub level_within : level < d
    pub leads : Leads C level degree r
    pub small : degree < L level

  -- f is reduced to r by the answers
  pub data Reduces (L : ℕ → ℕ) (P : ℕ → ℕ → A) (r : ℕ → A) : (ℕ → A) → Type 0 where
    none_left : ((j : ℕ) → r j ≡ 𝟘) → Reduces L P r r
    small_left : Small L r → Reduces L P r r
    reduce : {f : ℕ → A} (i m : ℕ) → i < d → (lead : Leads C i m f) → L i ≤ m
        → Reduces L P r (plus R f (⊖ lead.top.unit) (shift R (m - L i) (P i))) → Reduces L P r f
