-- Fields of a line, parted by blanks.
use Rattle.std.specs.Prelude.{◌≡◌, ℕ, ◌^◌, ◌<◌, ◌⊎◌, List, [], ◌∷◌, ◌++◌, length, Some, decimal, Option, ◌≢◌, slice_index}

-- the field that stands before the first blank, and what follows that blank; without one, the whole line, and nothing
pub record Cut (line field rest : List ℕ) : Type 0 where
  pub parts : (line ≡ field ++ (32 ∷ rest)) ⊎ ((line ≡ field) × (rest ≡ []))
  pub whole : (i : ℕ) → i < length field → slice_index field i ≢ 32

-- the next field is cut off, and where it is a number's decimals, that number is answered
pub record Reads (line rest : List ℕ) (r : Option ℕ) : Type 0 where
  pub field : List ℕ
  pub cut : Cut line field rest
  pub number : (n : ℕ) → n < 2 ^ 32 → field ≡ decimal n → r ≡ Some n
