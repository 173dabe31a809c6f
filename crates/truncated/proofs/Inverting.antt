-- The loop that inverts a unit, a coefficient a turn.
use Rattle.std.proofs.Common.{◌≡◌, ℕ, zero, suc, ◌+◌, ◌-◌, ◌*◌, ◌%◌, ◌<◌, ◌≤◌, T, ◌≢◌, List, length, get_or, set, sym, refl, ap, ◌∙◌, subst, mod-lt, mod-eq_of_lt, arith, length-set, get_or-set_other, get_or-set_same}
use native.Mathlib.Decide.{dec_lt, ℕ_discrete}
use Rattle.ring.specs.Commutative.{CommRing}
use Rattle.ring.specs.Truncated.{product, monomial}
use Rattle.ring.specs.Lawful.{same_element, lawful_ring}
use Rattle.ring.proofs.Sums as Sums
use Rattle.ring.proofs.Units.{inverse_unique}
use Rattle.ring.proofs.Convolution.{product_zero, product_upto, inverse_next}
use Rattle.ring.proofs.Truncated.{truncated_ring}
use Rattle.inverses.specs.Bases.{listed, Inverse}
use Rattle.inverses.proofs.Bases.{listed_low}
use Rattle.truncated.specs.declared.polynomial.Polynomial.{Polynomial}
use Rattle.truncated.specs.Remainders.{Remainder, remainder, remainders, remainder_mul, remainders_distinct, same_remainder}
use Rattle.truncated.specs.Polynomials.{fits, places, polynomials}
use Rattle.truncated.specs.Laws.{places_of, eight_packs}
use Rattle.truncated.proofs.Places.{zeros, zeros_at}

module _ (p : ℕ) (h : T (listed p)) (d : ℕ) (high : d ≤ 8) where
  abbrev F : CommRing (Remainder p)
  F = remainders p h

  -- the coefficients in some places
  abbrev pub at : List ℕ → ℕ → Remainder p
  at xs j = remainder p h (get_or xs j 0)

  -- w inverts u as far as x^k
  pub record Inverted (u : Polynomial) (w : List ℕ) (k : ℕ) : Type 0 where
    pub long : length w ≡ 8
    pub below : (j : ℕ) → get_or w j 0 < p
    pub rest : (j : ℕ) → k ≤ j → get_or w j 0 ≡ 0
    pub eq : (j : ℕ) → j < k → product (remainders p h) (at u.coefficients) (at w) j ≡ monomial (remainders p h) 0 j

  inverse_is : (r b : ℕ) → 1 ≤ r → r < p → Inverse p r b → F.◌⊗◌ (remainder p h r) (remainder p h b) ≡ F.𝟙
  inverse_is r b one lt i =
      sym (remainder_mul p h r b) ∙ same_remainder p h (i.product one lt ∙ sym (mod-eq_of_lt (let s : 1 < p = omega (arith, listed_low p h) in s)))

  pub inverted_start : (u : Polynomial) (b : ℕ) → 1 ≤ get_or u.coefficients 0 0 → get_or u.coefficients 0 0 < p → Inverse p (get_or u.coefficients 0 0) b
      → Inverted u (set (zeros 8) 0 b) 1
  inverted_start u b one lt i = record {
    long = refl;
    below = λ j. first j;
    rest = λ j le. after j le;
    eq = λ j less. subst (λ (k : ℕ). product F (at u.coefficients) (at (set (zeros 8) 0 b)) k ≡ monomial F 0 k) (let s : 0 ≡ j = omega arith in s)
        (product_zero F (at u.coefficients) (at (set (zeros 8) 0 b)) ∙ inverse_is (get_or u.coefficients 0 0) b one lt i);
  }
    where
      first : (j : ℕ) → get_or (set (zeros 8) 0 b) j 0 < p
      first zero = i.below
      first (suc j) = let z = zeros_at 7 j in omega (arith, listed_low p h)

      after : (j : ℕ) → 1 ≤ j → get_or (set (zeros 8) 0 b) j 0 ≡ 0
      after zero le = absurd (omega arith)
      after (suc j) le = zeros_at 7 j

  pub inverted_next : (u : Polynomial) (w : List ℕ) (k s b x : ℕ) → 1 ≤ k → k < 8 → 1 ≤ get_or u.coefficients 0 0 → get_or u.coefficients 0 0 < p
      → Inverse p (get_or u.coefficients 0 0) b → s ≡ (product F (at u.coefficients) (at w) k).0 → x ≡ (p - s) * b % p
      → Inverted u w k → Inverted u (set w k x) (k + 1)
  inverted_next u w zero s b x low top one lt i es ex v = absurd (omega arith)
  inverted_next u w (suc k) s b x low top one lt i es ex v = record {
    long = length-set w (suc k) x ∙ v.long;
    below = λ j. under j (ℕ_discrete j (suc k));
    rest = λ j le. other j (omega arith) ∙ v.rest j (omega arith);
    eq = λ j less. upto j less (dec_lt j (suc k));
  }
    where
      other : (j : ℕ) → j ≢ suc k → get_or (set w (suc k) x) j 0 ≡ get_or w j 0
      other j ne = get_or-set_other w (suc k) j x 0 ne

      here : get_or (set w (suc k) x) (suc k) 0 ≡ x
      here = get_or-set_same w (suc k) x 0 (omega (arith, v.long))

      under : (j : ℕ) → Dec (j ≡ suc k) → get_or (set w (suc k) x) j 0 < p
      under j (yes e) =
          let m = mod-lt ((p - s) * b) {m = p} (omega (arith, listed_low p h)) in
          let z : get_or (set w (suc k) x) j 0 ≡ x = ap (λ (n : ℕ). get_or (set w (suc k) x) n 0) e ∙ here in
          omega arith
      under j (no ne) = let z = other j ne in omega (arith, v.below j)

      front : (j : ℕ) → j ≤ k → at (set w (suc k) x) j ≡ at w j
      front j le = ap (remainder p h) (other j (omega arith))

      next : at (set w (suc k) x) (suc k) ≡ F.◌⊗◌ (F.⊖◌ (product F (at u.coefficients) (at w) (suc k))) (remainder p h b)
      next =
          ap (remainder p h) (here ∙ ex)
          ∙ same_remainder p h (mod-eq_of_lt (mod-lt ((p - s) * b) {m = p} (omega (arith, listed_low p h))))
          ∙ remainder_mul p h (p - s) b ∙ ap (λ (n : ℕ). F.◌⊗◌ (remainder p h (p - n)) (remainder p h b)) es

      upto : (j : ℕ) → j < suc k + 1 → Dec (j < suc k) → product F (at u.coefficients) (at (set w (suc k) x)) j ≡ monomial F 0 j
      upto j less (yes lt) =
          product_upto F j (at u.coefficients) (at (set w (suc k) x)) (at u.coefficients) (at w) (λ i _. refl) (λ i le. front i (omega arith)) ∙ v.eq j lt
      upto j less (no ge) = subst (λ (n : ℕ). product F (at u.coefficients) (at (set w (suc k) x)) n ≡ monomial F 0 n) (let s : suc k ≡ j = omega arith in s)
          (inverse_next F k (at u.coefficients) (at w) (at (set w (suc k) x)) (remainder p h b) (inverse_is (get_or u.coefficients 0 0) b one lt i) front
          (ap (remainder p h) (v.rest (suc k) (omega arith))) next)

  pub inverted_whole : (u v : Polynomial) (w : List ℕ) (k : ℕ) → k ≡ d → T (fits p d u.coefficients) → T (fits p d v.coefficients)
      → (polynomials p h d).mul u v ≡ (polynomials p h d).one → Inverted u w k → ◌≡◌ {A = Polynomial} (record { coefficients = w }) v
  inverted_whole u v w k e hu hv unit i =
      ap (λ (z : (a : Polynomial) × T (fits p d a.coefficients)). z.0)
      (inverse_unique (lawful_ring (polynomials p h d) (truncated_ring (remainders p h) (eight_packs p h d high))) (u, hu) (W, hw) (v, hv) (same_element (polynomials p h d) product_one) (same_element (polynomials p h d) unit))
    where
      W : Polynomial
      W = record { coefficients = w }

      held : w ≡ places d (λ j. (at w j).0)
      held = places_of d (λ j. (at w j).0) w i.long (λ j _ _. sym (mod-eq_of_lt (i.below j))) (λ j _ le. i.rest j (omega arith))

      hw : T (fits p d w)
      hw = subst (λ (xs : List ℕ). T (fits p d xs)) (sym held) ((eight_packs p h d high).inside (at w))

      product_one : (polynomials p h d).mul u W ≡ (polynomials p h d).one
      product_one = (eight_packs p h d high).first _ _ (λ j lt. i.eq j (omega arith))

  -- the constant of a unit is not zero
  pub unit_constant : 1 ≤ d → (u v : Polynomial) → (polynomials p h d).mul u v ≡ (polynomials p h d).one → 1 ≤ get_or u.coefficients 0 0
  unit_constant low u v unit = above (get_or u.coefficients 0 0) refl
    where
      one : F.◌⊗◌ (at u.coefficients 0) (at v.coefficients 0) ≡ F.𝟙
      one = sym ((eight_packs p h d high).reads (product F (at u.coefficients) (at v.coefficients)) 0 low ∙ product_zero F (at u.coefficients) (at v.coefficients))
          ∙ ap (λ (a : Polynomial). at a.coefficients 0) unit ∙ (eight_packs p h d high).reads (monomial F 0) 0 low

      above : (n : ℕ) → get_or u.coefficients 0 0 ≡ n → 1 ≤ n
      above zero e = absurd (remainders_distinct p h (sym one ∙ ap (λ (n : ℕ). F.◌⊗◌ (remainder p h n) (at v.coefficients 0)) e ∙ Sums.zero_mul F (at v.coefficients 0)))
      above (suc n) e = omega arith
