-- Reduction by polynomials P of leading coefficient step^i, one a level, of degree L i.
use Rattle.std.specs.Prelude.{◌≡◌, ◌≢◌, ℕ, suc, ◌-◌, ◌<◌, ◌≤◌}
use Rattle.ring.specs.Ring.{Ring}
use Rattle.recurrence.specs.Polynomials.{Within, Leads, shift}

module _ {E : Type 0} (R : Ring E) where
  module _ (L : ℕ → ℕ) (P : ℕ → ℕ → E) where
    -- f, of degree m and level v with m ≥ L v, becomes g by one step: u y^(m - L v) P(v) is taken away, where the leading coefficient of f is
    -- step^v times the unit u; any such u will do
    pub record Step (f g : ℕ → E) : Type 0 where
      pub level : ℕ
      pub degree : ℕ
      pub leads : Leads R level degree f
      pub far : L level ≤ degree
      pub taken : (j : ℕ) → g j ≡ R.sub (f j) (R.mul leads.unit (shift R (degree - L level) (P level) j))

    -- no step is possible: r is zero, or its degree is below the length of its level
    abbrev pub Irreducible : (ℕ → E) → Type 0
    Irreducible r = (v m : ℕ) → Leads R v m r → m < L v

    -- r is a rest of f: what some steps leave, where no further step is possible
    pub data Rest (r : ℕ → E) : (ℕ → E) → Type 0 where
      done : {f : ℕ → E} → Irreducible f → ((j : ℕ) → r j ≡ f j) → Rest r f
      more : {f g : ℕ → E} → Step f g → Rest r g → Rest r f

  -- p has k coefficients up to its last that is not zero
  pub record Coefficients (k : ℕ) (p : ℕ → E) : Type 0 where
    pub past : Within R k p
    pub last : (j : ℕ) → k ≡ suc j → p j ≢ R.zero
