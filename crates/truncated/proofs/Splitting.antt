-- Taking the zeros off that a polynomial begins with splits it.
use Rattle.std.proofs.Common.{◌≡◌, ℕ, ◌+◌, ◌-◌, ◌%◌, ◌<◌, ◌≤◌, T, ◌⊎◌, get_or, sym, ap, ◌∙◌, subst, inl, inr, mod-eq_of_lt, arith}
use native.Mathlib.Nat.{zero-mod}
use native.Mathlib.Decide.{dec_lt}
use Rattle.std.proofs.lemmas.List.{get_or_past}
use Rattle.ring.specs.Ring.{Split}
use Rattle.ring.proofs.Truncated.{split_zero, split_moved}
use Rattle.inverses.specs.Bases.{listed}
use Rattle.truncated.specs.declared.polynomial.Polynomial.{Polynomial}
use Rattle.truncated.specs.Remainders.{Remainder, remainder, remainders, remainders_field, remainders_distinct}
use Rattle.truncated.specs.Polynomials.{fits, eight, polynomials}
use Rattle.truncated.specs.Laws.{places_of, lawful_long, lawful_below, lawful_zero, eight_packs}
use Rattle.truncated.specs.Operations.{Leading, Filled, x_to}

module _ (p : ℕ) (h : T (listed p)) (d : ℕ) (low : 1 ≤ d) (high : d ≤ 8) where
  pub split_none : (a u : Polynomial) (v : ℕ) → v ≡ d → T (fits p d a.coefficients) → Leading d a.coefficients v → u ≡ x_to p h d 0
      → Split (polynomials p h d) a v u
  split_none a u v e ha l eu =
      subst (λ (n : ℕ). Split (polynomials p h d) a n u) (sym e)
      (subst (Split (polynomials p h d) a d) (sym eu) (split_zero (remainders p h) (eight_packs p h d high) low a
      (sym ((eight_packs p h d high).back a ha) ∙ (eight_packs p h d high).first _ _ (λ j lt. ap (remainder p h) (l.below j (omega arith))))))

  moved_is : (a u : Polynomial) (v : ℕ) → v ≤ d → T (fits p d a.coefficients) → Filled (λ j. get_or a.coefficients (v + j) 0) u.coefficients (d - v)
      → u ≡ (eight p h d).pack (λ j. (eight p h d).coefficient a (v + j))
  moved_is a u v le ha f = ap (λ xs. record { coefficients = xs })
      (places_of d (λ j. ((eight p h d).coefficient a (v + j)).0) u.coefficients f.long (λ j _ _. at j (dec_lt j (d - v))) (λ j _ ge. f.rest j (omega arith)))
    where
      past : (j : ℕ) → d ≤ v + j → Dec (v + j < 8) → get_or a.coefficients (v + j) 0 ≡ 0
      past j ge (yes lt) = lawful_zero p h d a ha (v + j) lt ge
      past j ge (no not) = get_or_past a.coefficients (v + j) 0 (omega (arith, lawful_long p h d a ha))

      at : (j : ℕ) → Dec (j < d - v) → get_or u.coefficients j 0 ≡ get_or a.coefficients (v + j) 0 % p
      at j (yes lt) = f.front j lt ∙ sym (mod-eq_of_lt (lawful_below p h d a ha (v + j) (omega arith) (omega arith)))
      at j (no not) = f.rest j (omega arith) ∙ sym (ap (λ (n : ℕ). n % p) (past j (omega arith) (dec_lt (v + j) 8)) ∙ zero-mod p)

  pub split_some : (a u : Polynomial) (v : ℕ) → v < d → T (fits p d a.coefficients) → Leading d a.coefficients v
      → Filled (λ j. get_or a.coefficients (v + j) 0) u.coefficients (d - v) → Split (polynomials p h d) a v u
  split_some a u v lt ha l f =
      subst (Split (polynomials p h d) a v) (sym (moved_is a u v (omega arith) ha f)) (by (remainders_field p h ((eight p h d).coefficient a v)))
    where
      by : ((eight p h d).coefficient a v ≡ remainder p h 0) ⊎ ((b : Remainder p) × ((remainders p h).◌⊗◌ ((eight p h d).coefficient a v) b ≡ remainder p h 1))
          → Split (polynomials p h d) a v ((eight p h d).pack (λ j. (eight p h d).coefficient a (v + j)))
      by (inl e) = absurd (l.stops lt
          (sym (mod-eq_of_lt (lawful_below p h d a ha v (omega arith) lt)) ∙ ap (λ (r : Remainder p). r.0) e ∙ zero-mod p))
      by (inr i) = split_moved (remainders p h) (eight_packs p h d high) (remainders_distinct p h) a v i.0 lt ha
          (λ j less. ap (remainder p h) (l.below j less)) i.1
