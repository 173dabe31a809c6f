-- Which polynomials are enough to keep on the way to the shortest ones.
-- The places of e words of n channels are numbered word by word: place q is channel q % n of word q / n.
use Rattle.std.specs.Prelude.{◌≡◌, ◌⊎◌, ℕ, suc, ◌+◌, ◌/◌, ◌%◌, ◌<◌, ◌≤◌, T}
use Rattle.ring.specs.Ring.{Ring, power, Split}
use Rattle.recurrence.specs.Polynomials.{Lawful, Within, Degree, Leads, value}
use Rattle.recurrence.specs.Words.{Cancels}

module _ {E : Type 0} (R : Ring E) where
  -- a is a multiple of step^v
  pub record Multiple (v : ℕ) (a : E) : Type 0 where
    pub part : E
    pub lawful : T (R.lawful part)
    pub is : a ≡ R.mul (power R R.step v) part

  -- p has degree m and leading coefficient step^i
  pub record Normal (i m : ℕ) (p : ℕ → E) : Type 0 where
    pub lawful : Lawful R p
    pub above : Within R (suc m) p
    pub top : p m ≡ power R R.step i

  module _ (n e : ℕ) (S : ℕ → ℕ → E) where
    -- the value of p, of degree m, at the place q
    abbrev pub value_at : ℕ → (ℕ → E) → ℕ → E
    value_at m p q = value R m p (S (q % n)) (q / n)

    -- the place q counts for a polynomial of degree m: all the words that it reads there are held
    abbrev pub Counts : ℕ → ℕ → Type 0
    Counts m q = q / n + m < e

    -- p, of degree m, begins with q zero places
    abbrev pub Zeros : ℕ → ℕ → (ℕ → E) → Type 0
    Zeros m q p = (r : ℕ) → r < q → Counts m r → value_at m p r ≡ R.zero

    -- Something of valuation v q is kept at each place q, the depth where nothing is. This is complete below degree s: every polynomial of a
    -- degree below s that begins with q zero places has a multiple of step^(v q) at q, so that what is kept there can clear it.
    abbrev pub Complete : ℕ → (ℕ → ℕ) → Type 0
    Complete s v = (m : ℕ) (f : ℕ → E) → m < s → Lawful R f → Degree R m f
        → (q : ℕ) → Counts m q → Zeros m q f → Multiple (v q) (value_at m f q)

    -- p, of degree s, is stuck: it cancels the words, or has at its first place that is not zero a smaller valuation than is kept there
    abbrev pub Stuck : ℕ → (ℕ → ℕ) → (ℕ → E) → Type 0
    Stuck s v p = Cancels R n e S p
        ⊎ ((q : ℕ) × (w : ℕ) × (u : E) × Counts s q × Zeros s q p × Split R (value_at s p q) w u × (w < v q))

    -- p is the best of degree s and level i: none of them begins with more zero places, and if one of them cancels the words, so does p
    pub record Best (i s : ℕ) (p : ℕ → E) : Type 0 where
      pub zeros : (f : ℕ → E) → Lawful R f → Leads R i s f → (q : ℕ) → Zeros s q f → Zeros s q p
      pub cancels : (f : ℕ → E) → Lawful R f → Leads R i s f → Cancels R n e S f → Cancels R n e S p

    -- v' keeps no less than v, and whatever stands at the first place of a polynomial p i, of degree s, that is not zero
    pub record Keeps (s : ℕ) (v : ℕ → ℕ) (p : ℕ → ℕ → E) (v' : ℕ → ℕ) : Type 0 where
      pub smaller : (q : ℕ) → v' q ≤ v q
      pub kept : (i q w : ℕ) (u : E) → i < R.depth → Counts s q → Zeros s q (p i) → w < R.depth → Split R (value_at s (p i) q) w u → v' q ≤ w
