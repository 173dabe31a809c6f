-- Memory that a caller lends: what lies in it, and what a call has written there.
use Rattle.std.specs.Prelude.{◌≡◌, List, ℕ, ◌+◌, ◌<◌, ◌≤◌, T, length, get_or}
use Rattle.ring.specs.Ring.{Ring}

-- new is old with f 0 to f (m - 1) written from the place `from` on; all else is as it was
pub record Written {E : Type 0} (old new : List E) (from m : ℕ) (f : ℕ → E) : Type 0 where
  pub size : length new ≡ length old
  pub there : (i : ℕ) → i < m → (d : E) → get_or new (from + i) d ≡ f i
  pub before : (k : ℕ) → k < from → (d : E) → get_or new k d ≡ get_or old k d
  pub after : (k : ℕ) → from + m ≤ k → (d : E) → get_or new k d ≡ get_or old k d

module _ {E : Type 0} (R : Ring E) where
  -- the element at a place, zero past the end; so a list is the polynomial with these coefficients, from the lowest
  abbrev pub at : List E → ℕ → E
  at xs j = get_or xs j R.zero

  -- one of the first m elements is not lawful
  abbrev pub Unlawful : List E → ℕ → Type 0
  Unlawful xs m = (j : ℕ) × (j < m) × (¬ T (R.lawful (at xs j)))
