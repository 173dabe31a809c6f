-- Polynomials and endless lists over a kind. A polynomial is its coefficients by place, from the lowest, and a list its elements.
use Rattle.std.specs.Prelude.{◌≡◌, ◌≢◌, cond, ℕ, suc, ◌+◌, ◌-◌, ◌<◌, ◌≤◌, T, ltb}
use Rattle.ring.specs.Ring.{Ring, sum, Split}

module _ {E : Type 0} (R : Ring E) where
  -- every element is lawful
  abbrev pub Lawful : (ℕ → E) → Type 0
  Lawful p = (j : ℕ) → T (R.lawful (p j))

  -- every coefficient is zero
  abbrev pub Zero : (ℕ → E) → Type 0
  Zero p = (j : ℕ) → p j ≡ R.zero

  -- only the first m coefficients may differ from zero
  abbrev pub Within : ℕ → (ℕ → E) → Type 0
  Within m p = (j : ℕ) → m ≤ j → p j ≡ R.zero

  -- p has degree m: its coefficient at m is not zero, and those above are. The zero polynomial has no degree
  pub record Degree (m : ℕ) (p : ℕ → E) : Type 0 where
    pub above : Within (suc m) p
    pub top : p m ≢ R.zero

  -- p has degree m and level i: its leading coefficient is step^i times a unit, and step^i is not zero. A zero polynomial has no level
  pub record Leads (i m : ℕ) (p : ℕ → E) : Type 0 where
    pub within : i < R.depth
    pub above : Within (suc m) p
    pub unit : E
    pub top : Split R (p m) i unit

  -- p has degree m and leading coefficient one
  pub record Monic (m : ℕ) (p : ℕ → E) : Type 0 where
    pub above : Within (suc m) p
    pub top : p m ≡ R.one

  -- the value of p, of degree m, on the list w at the place t: p₀ w(t) + p₁ w(t + 1) + .. + p(m) w(t + m)
  abbrev pub value : ℕ → (ℕ → E) → (ℕ → E) → ℕ → E
  value m p w t = sum R (suc m) (λ j. R.mul (p j) (w (t + j)))

  -- y^k p
  abbrev pub shift : ℕ → (ℕ → E) → ℕ → E
  shift k p j = cond (ltb j k) R.zero (p (j - k))

  -- the list w obeys the monic polynomial q of degree D: its value on w is zero at every place
  pub record Obeys (D : ℕ) (q w : ℕ → E) : Type 0 where
    pub lawful : Lawful q
    pub monic : Monic D q
    pub cancels : (t : ℕ) → value D q w t ≡ R.zero
