-- Polynomials over the field of two elements, cut at x^d: bit j of a number is the coefficient of x^j.
use Rattle.std.specs.Prelude.{ℕ, zero, suc, ◌+◌, ◌*◌, ◌/◌, ◌%◌, ◌^◌, Bool, cond, ◌==◌, nat_lt}
use Rattle.ring.specs.Ring.{Ring}
use Rattle.ring.specs.Truncated.{Packing, truncated}
use Rattle.bits.specs.Two.{two}

abbrev pub odd : ℕ → Bool
odd a = a % 2 == 1

-- bit j
abbrev pub bit : ℕ → ℕ → Bool
bit a j = odd (a / 2 ^ j)

-- the number below 2^d with the bits f
abbrev pub number : ℕ → (ℕ → Bool) → ℕ
number zero f = 0
number (suc d) f = cond (f 0) 1 0 + 2 * number d (λ j. f (suc j))

abbrev pub binary : ℕ → Packing ℕ Bool
binary d = record { lawful = λ a. nat_lt a (2 ^ d); coefficient = bit; pack = number d }

abbrev pub bits : ℕ → Ring ℕ
bits d = truncated two (binary d) d
