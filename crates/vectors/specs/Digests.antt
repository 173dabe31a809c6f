-- A number that tells what numbers stand in a row.
use Rattle.std.specs.Prelude.{ℕ, ◌+◌, ◌*◌, ◌%◌, ◌^◌, List}
use Rattle.std.specs.List.{fold}

abbrev pub with_number : ℕ → ℕ → ℕ
with_number d c = (d * 31 + c) % 2 ^ 32

-- d × 31 + c modulo 2^32, from this d on, for each number c
abbrev pub digest : ℕ → List ℕ → ℕ
digest d numbers = fold (λ e c. with_number e c) d numbers
