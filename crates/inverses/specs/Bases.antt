-- The bases, and what the inverse of a remainder is.
use Rattle.std.specs.Prelude.{◌≡◌, Bool, false, ◌||◌, cond, List, [], ◌∷◌, ℕ, ◌+◌, ◌*◌, ◌%◌, ◌<◌, ◌≤◌, eqb}

abbrev pub bases : List ℕ
bases = 2 ∷ 3 ∷ 5 ∷ 7 ∷ 11 ∷ 13 ∷ 17 ∷ 19 ∷ 23 ∷ 29 ∷ 31 ∷ 127 ∷ 251 ∷ []

abbrev pub among : ℕ → List ℕ → Bool
among p [] = false
among p (x ∷ xs) = eqb p x || among p xs

unfoldable pub listed : ℕ → Bool
listed p = among p bases

-- the sum of the numbers before p
abbrev pub before : ℕ → List ℕ → ℕ
before p [] = 0
before p (x ∷ xs) = cond (eqb p x) 0 (x + before p xs)

-- where the remainders of the base p begin, when those of each base follow those of the one before
unfoldable pub start : ℕ → ℕ
start p = before p bases

-- x is the inverse of r modulo p; 0 for 0, and for what is no remainder
pub record Inverse (p r x : ℕ) : Type 0 where
  pub below : x < p
  pub product : 1 ≤ r → r < p → (r * x) % p ≡ 1
  pub zero : r ≡ 0 → x ≡ 0
  pub past : p ≤ r → x ≡ 0
