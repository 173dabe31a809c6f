-- The sum and the difference of polynomials, place by place.
use Rattle.std.proofs.Common.{◌≡◌, ℕ, ◌+◌, ◌-◌, ◌*◌, ◌%◌, ◌<◌, cond, nat_lt, T, List, length, get_or, sym, ap, ◌∙◌, arith}
use native.Mathlib.Nat.{mod_self, zero-mod}
use Rattle.ring.specs.Commutative.{CommRing}
use Rattle.ring.proofs.Sums as Sums
use Rattle.inverses.specs.Bases.{listed}
use Rattle.inverses.proofs.Bases.{listed_low}
use Rattle.truncated.specs.declared.polynomial.Polynomial.{Polynomial}
use Rattle.truncated.specs.Remainders.{Remainder, remainder, remainders, remainder_add, remainder_mul, same_remainder}
use Rattle.truncated.specs.Polynomials.{polynomials}
use Rattle.truncated.proofs.Places.{filled_places, same_places}

module _ (p : ℕ) (h : T (listed p)) (d : ℕ) where
  abbrev F : CommRing (Remainder p)
  F = remainders p h

  whole : F.◌⊕◌ (remainder p h (p - 1)) F.𝟙 ≡ F.𝟘
  whole = sym (remainder_add p h (p - 1) 1)
      ∙ same_remainder p h (ap (λ (n : ℕ). n % p) (let s : p - 1 + 1 ≡ p = omega (arith, listed_low p h) in s) ∙ mod_self p ∙ sym (zero-mod p))

  minus : (r : Remainder p) → F.◌⊗◌ (remainder p h (p - 1)) r ≡ F.⊖◌ r
  minus r = Sums.neg_of F _ r
      (ap (F.◌⊕◌ (F.◌⊗◌ (remainder p h (p - 1)) r)) (sym (Sums.one_mul F r)) ∙ sym (Sums.distrib_right F (remainder p h (p - 1)) F.𝟙 r)
      ∙ ap (λ x. F.◌⊗◌ x r) whole ∙ Sums.zero_mul F r)

  -- whatever the places of a and b hold
  pub add_is : (a b : Polynomial) (xs : List ℕ) → length xs ≡ 8
      → ((j : ℕ) → j < 8 → get_or xs j 0 ≡ cond (nat_lt j d) ((get_or a.coefficients j 0 + get_or b.coefficients j 0) % p) 0)
      → ◌≡◌ {A = Polynomial} (record { coefficients = xs }) ((polynomials p h d).add a b)
  add_is a b xs long each = same_places _ _ (filled_places d _ xs long
      (λ j lt. each j lt ∙ ap (λ (n : ℕ). cond (nat_lt j d) n 0) (ap (λ r. r.0) (remainder_add p h (get_or a.coefficients j 0) (get_or b.coefficients j 0)))))

  pub sub_is : (a b : Polynomial) (xs : List ℕ) → length xs ≡ 8
      → ((j : ℕ) → j < 8 → get_or xs j 0 ≡ cond (nat_lt j d) ((get_or a.coefficients j 0 + (p - 1) * get_or b.coefficients j 0) % p) 0)
      → ◌≡◌ {A = Polynomial} (record { coefficients = xs }) ((polynomials p h d).sub a b)
  sub_is a b xs long each = same_places _ _ (filled_places d _ xs long
      (λ j lt. each j lt ∙ ap (λ (n : ℕ). cond (nat_lt j d) n 0) (ap (λ r. r.0) (
      remainder_add p h (get_or a.coefficients j 0) ((p - 1) * get_or b.coefficients j 0)
      ∙ ap (F.◌⊕◌ (remainder p h (get_or a.coefficients j 0))) (remainder_mul p h (p - 1) (get_or b.coefficients j 0) ∙ minus (remainder p h (get_or b.coefficients j 0)))))))
