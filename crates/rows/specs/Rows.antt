-- What is done with polynomials in memory, lowest coefficient first: cleared, begun, scaled and taken from one another.
use Rattle.std.specs.Prelude.{◌≡◌, ℕ, zero, suc, ◌<◌, ◌≤◌, T, List, length, slice_index_or}
use Rattle.ring.specs.Ring.{Ring, Laws}
use Rattle.ring.specs.Commutative.{power}
use Rattle.ring.specs.Lawful.{Lawful, Is, lifted, step_of, hold, cells, AllLawful, level_of}

-- every element is zero
abbrev pub Clear : {E : Type 0} → Ring E → List E → Type 0
Clear R xs = (j : ℕ) → slice_index_or xs j R.zero ≡ R.zero

module _ {E : Type 0} {R : Ring E} (L : Laws R) where
  -- the memory xs holds the coefficients of p
  abbrev pub Holds : List E → (ℕ → Lawful L) → Type 0
  Holds xs p = (j : ℕ) → Is L (slice_index_or xs j R.zero) (p j)

  -- step^i alone
  unfoldable pub constant : ℕ → ℕ → Lawful L
  constant i zero = power (lifted L) (step_of L) i
  constant i (suc j) = (lifted L).𝟘

  -- a = b × c
  pub record Quotient (a b c : E) : Type 0 where
    pub lawful : T (R.lawful c)
    pub product : hold L a ≡ (lifted L).◌⊗◌ (hold L b) (hold L c)

  -- what can be taken from row: c times other, of degree below n
  pub record ToScale (c : E) (row other : List E) (n : ℕ) : Type 0 where
    pub factor : T (R.lawful c)
    pub lawful : AllLawful L row
    pub lawful_other : AllLawful L other
    pub room : n ≤ length row
    pub room_other : n ≤ length other
    pub below : (j : ℕ) → n ≤ j → cells L other j ≡ (lifted L).𝟘

  -- a has a smaller valuation than b
  abbrev pub Lower : E → E → Type 0
  Lower a b = level_of L (hold L a) < level_of L (hold L b)
