-- What makes the polynomials kept enough, over any capture: v q is the valuation kept at the place q, the depth where nothing is kept.
use mathlib.Core.Path.{◌≡◌}
use mathlib.Core.Logic.{◌⊎◌}
use Prim.Native.Nat.{ℕ, ◌+◌, ◌/◌, ◌<◌, ◌≤◌}
use Rattle.recurrence.proofs.Captures.{Capture, Below, Leads, Monic, Multiple, Valued, value, First, Cancels}

module _ {A : Type 0} (C : Capture A) where
  open C use {ring as R, depth as d, words as e, channels as n}
  open R use {𝟘}

  -- whatever has degree below m ≤ s, and q zero places, has at q a multiple of what is kept there
  abbrev pub Complete : ℕ → (ℕ → ℕ) → Type 0
  Complete s v = (m : ℕ) (f : ℕ → A) → m ≤ s → Below C m f
      → (q : ℕ) → q / n + m ≤ e → ((r : ℕ) → r < q → value C f r ≡ 𝟘) → Multiple C (v q) (value C f q)

  -- nothing of level i and degree below s cancels
  abbrev pub NoneBelow : ℕ → ℕ → Type 0
  NoneBelow i s = (m : ℕ) (f : ℕ → A) → m < s → Leads C i m f → Cancels C m f → ⊥

  -- p, of degree s, cancels, or nothing kept takes its first value that is not zero away
  abbrev pub Stuck : ℕ → (ℕ → ℕ) → (ℕ → A) → Type 0
  Stuck s v p = Cancels C s p ⊎ ((q : ℕ) × (w : ℕ) × First C s q p × Valued C w (value C p q) × (w < v q))

  -- the stuck polynomials p of degree s, by level, and the valuations kept after them
  pub record Round (s : ℕ) (v : ℕ → ℕ) (p : ℕ → ℕ → A) (v' : ℕ → ℕ) : Type 0 where
    pub monic : (i : ℕ) → i < d → Monic C i s (p i)
    pub stuck : (i : ℕ) → i < d → Stuck s v (p i)
    pub smaller : (q : ℕ) → v' q ≤ v q
    pub kept : (i q w : ℕ) → i < d → First C s q (p i) → Valued C w (value C (p i) q) → v' q ≤ w
