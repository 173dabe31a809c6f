-- Polynomials over the numbers modulo p, cut at x^d and held in eight places, the constant first.
use Rattle.std.specs.Prelude.{ℕ, zero, suc, Bool, true, cond, ◌&&◌, T, ltb, List, map, length, ◌==◌, nat_lt, slice_index}
use Rattle.std.specs.List.{range_with_len}
use Rattle.ring.specs.Ring.{Ring}
use Rattle.ring.specs.Truncated.{Packing, truncated}
use Rattle.inverses.specs.Bases.{listed}
use Rattle.truncated.specs.declared.polynomial.Polynomial.{Polynomial}
use Rattle.truncated.specs.Remainders.{Remainder, remainder, remainders}

-- the first d places hold numbers below p, the others numbers below 1
abbrev pub bound : ℕ → ℕ → ℕ → ℕ
bound p d j = cond (nat_lt j d) p 1

-- f holds below n
unfoldable pub every : ℕ → (ℕ → Bool) → Bool
every zero f = true
every (suc n) f = every n f && f n

abbrev pub fits : ℕ → ℕ → List ℕ → Bool
fits p d xs = length xs == 8 && every 8 (λ j. ltb (slice_index xs j) (bound p d j))

-- the eight places of the coefficients f, cut at x^d
unfoldable pub places : ℕ → (ℕ → ℕ) → List ℕ
places d f = map (λ j. cond (nat_lt j d) (f j) 0) (range_with_len 0 8)

module _ (p : ℕ) (h : T (listed p)) (d : ℕ) where
  abbrev pub eight : Packing Polynomial (Remainder p)
  eight = record {
    lawful = λ a. fits p d a.coefficients;
    coefficient = λ a j. remainder p h (slice_index a.coefficients j);
    pack = λ f. record { coefficients = places d (λ j. (f j).0) };
  }

  abbrev pub polynomials : Ring Polynomial
  polynomials = truncated (remainders p h) eight d
