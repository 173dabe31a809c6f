-- Captures over a chain ring without premises: values at places, cancelling, and the best polynomial of a degree and level.
use mathlib.Core.Path.{◌≡◌}
use mathlib.Core.Logic.{◌≢◌}
use Prim.Native.Nat.{ℕ, suc, ◌+◌, ◌/◌, ◌%◌, ◌<◌, ◌≤◌}
use Rattle.ring.specs.Commutative.{CommRing, power}
use Rattle.recurrence.proofs.Polynomials.{act}

-- e words of n channels over a ring, and the ring's element step, whose power d is zero
pub record Capture (A : Type 0) : Type 0 where
  pub ring : CommRing A
  pub step : A
  pub depth : ℕ
  pub words : ℕ
  pub channels : ℕ
  pub at : ℕ → ℕ → A

module _ {A : Type 0} (C : Capture A) where
  infixl 70 ◌⊗◌
  open C use {ring as R, step, depth as d, words as e, channels as n, at as S}
  open R use {𝟘, 𝟙, ◌⊗◌}

  -- a is step^v times a unit
  pub record Valued (v : ℕ) (a : A) : Type 0 where
    pub within : v ≤ d
    pub unit : A
    pub inverse : A
    pub inverts : unit ⊗ inverse ≡ 𝟙
    pub is : a ≡ power R step v ⊗ unit

  -- every element is a power of step times a unit, and step^d is the first power that is zero
  pub record Chain : Type 0 where
    pub wide : 0 < n
    pub deep : 0 < d
    pub ends : power R step d ≡ 𝟘
    pub lasts : (v : ℕ) → v < d → power R step v ≢ 𝟘
    pub level : A → ℕ
    pub split : (a : A) → Valued (level a) a

  -- a is a multiple of step^v
  pub record Multiple (v : ℕ) (a : A) : Type 0 where
    pub part : A
    pub is : a ≡ power R step v ⊗ part

  -- p has degree less than m
  abbrev pub Below : ℕ → (ℕ → A) → Type 0
  Below m p = (j : ℕ) → m ≤ j → p j ≡ 𝟘

  -- p has degree m and level i
  pub record Leads (i m : ℕ) (p : ℕ → A) : Type 0 where
    pub below : Below (suc m) p
    pub top : Valued i (p m)

  -- p has degree m and begins with step^i
  pub record Monic (i m : ℕ) (p : ℕ → A) : Type 0 where
    pub below : Below (suc m) p
    pub top : p m ≡ power R step i

  -- the value of p at the place q: word q / n, channel q % n
  unfoldable pub value : (ℕ → A) → ℕ → A
  value p q = act R (suc e) p (λ k. S k (q % n)) (q / n)

  -- a polynomial of degree m is held to the place q
  abbrev pub Counts : ℕ → ℕ → Type 0
  Counts m q = q / n + m < e

  -- a polynomial of degree m begins with q zero places
  abbrev pub Zeros : ℕ → ℕ → (ℕ → A) → Type 0
  Zeros m q p = (r : ℕ) → r < q → Counts m r → value p r ≡ 𝟘

  -- the first place where a polynomial of degree m is not zero
  pub record First (m q : ℕ) (p : ℕ → A) : Type 0 where
    pub counts : Counts m q
    pub zeros : Zeros m q p
    pub here : value p q ≢ 𝟘

  abbrev pub Cancels : ℕ → (ℕ → A) → Type 0
  Cancels m p = (r : ℕ) → Counts m r → value p r ≡ 𝟘

  -- none of degree m and level i begins with more zero places
  abbrev pub Best : ℕ → ℕ → (ℕ → A) → Type 0
  Best i m p = (f : ℕ → A) → Leads i m f → (q : ℕ) → Zeros m q f → Zeros m q p
