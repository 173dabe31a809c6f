-- What the parts of the operations answer.
use Rattle.std.specs.Prelude.{◌≡◌, ℕ, ◌<◌, ◌≤◌, T, ◌≢◌, List, length, slice_index}
use Rattle.ring.specs.Truncated.{product, monomial}
use Rattle.inverses.specs.Bases.{listed}
use Rattle.truncated.specs.declared.polynomial.Polynomial.{Polynomial}
use Rattle.truncated.specs.Remainders.{Remainder, remainders}
use Rattle.truncated.specs.Polynomials.{eight}

-- v is the number of zeros that xs begins with, d at most
pub record Leading (d : ℕ) (xs : List ℕ) (v : ℕ) : Type 0 where
  pub within : v ≤ d
  pub below : (j : ℕ) → j < v → slice_index xs j ≡ 0
  pub stops : v < d → slice_index xs v ≢ 0

-- of eight places the first i hold f, the others 0
pub record Filled (f : ℕ → ℕ) (xs : List ℕ) (i : ℕ) : Type 0 where
  pub long : length xs ≡ 8
  pub front : (j : ℕ) → j < i → slice_index xs j ≡ f j
  pub rest : (j : ℕ) → i ≤ j → slice_index xs j ≡ 0

module _ (p : ℕ) (h : T (listed p)) (d : ℕ) where
  -- x^i
  abbrev pub x_to : ℕ → Polynomial
  x_to i = (eight p h d).pack (monomial (remainders p h) i)

  -- the coefficients of a × b
  abbrev pub product_of : Polynomial → Polynomial → ℕ → Remainder p
  product_of a b = product (remainders p h) ((eight p h d).coefficient a) ((eight p h d).coefficient b)
