-- The elements of each kind can be gone through and compared.
use Rattle.std.proofs.Common.{◌≡◌, ℕ, zero, suc, ◌<◌, Bool, true, false, ◌&&◌, T, eqb, ltb, List, [], ◌∷◌, get_or, sym, refl, ap, subst, ap₂, arith, eqb→eq, ltb→lt}
use native.Mathlib.Decide.{dec_lt}
use lib.Dec.{eqb_refl}
use lib.ListN.{get_or-eq_default}
use Rattle.ring.specs.Ring.{Ring}
use Rattle.inverses.specs.Bases.{listed}
use Rattle.inverses.proofs.Bases.{both_left, both_right, listed_low}
use Rattle.inverses.proofs.Rule.{each_below, below_at}
use Rattle.truncated.specs.declared.polynomial.Polynomial.{Polynomial}
use Rattle.truncated.specs.Polynomials.{fits, places, polynomials}
use Rattle.truncated.specs.Laws.{places_of, lawful_long, lawful_below, lawful_zero}
use Rattle.known.proofs.Tests.{join, Finite}

-- where all that is lawful is a number below m
abbrev pub numbers : (R : Ring ℕ) (m : ℕ) → ((a : ℕ) → T (R.lawful a) → T (ltb a m)) → Finite R
numbers R m below = record {
  each = each_below m;
  complete = λ f t a h. below_at m f t a (ltb→lt a m (below a h));
  same = eqb;
  is_same = eqb→eq;
  same_is = eqb_refl;
}

-- two lists are the same
abbrev equal : List ℕ → List ℕ → Bool
equal [] [] = true
equal [] (y ∷ ys) = false
equal (x ∷ xs) [] = false
equal (x ∷ xs) (y ∷ ys) = eqb x y && equal xs ys

pub is_equal : (xs ys : List ℕ) → T (equal xs ys) → xs ≡ ys
is_equal [] [] t = refl
is_equal [] (y ∷ ys) t = absurd t
is_equal (x ∷ xs) [] t = absurd t
is_equal (x ∷ xs) (y ∷ ys) t = ap₂ ◌∷◌ (eqb→eq x y (both_left (eqb x y) (equal xs ys) t)) (is_equal xs ys (both_right (eqb x y) (equal xs ys) t))

pub equal_is : (xs : List ℕ) → T (equal xs xs)
equal_is [] = tt
equal_is (x ∷ xs) = join (eqb x x) (equal xs xs) (eqb_refl x) (equal_is xs)

-- the list c 0, .., c (d - 1)
abbrev first : ℕ → (ℕ → ℕ) → List ℕ
first zero c = []
first (suc d) c = c 0 ∷ first d (λ j. c (suc j))

first_at : (d : ℕ) (c : ℕ → ℕ) (j : ℕ) → j < d → get_or (first d c) j 0 ≡ c j
first_at zero c j h = absurd (omega arith)
first_at (suc d) c zero h = refl
first_at (suc d) c (suc j) h = first_at d (λ j. c (suc j)) j (omega arith)

-- the test passes for every list of d numbers below p
abbrev each_list : ℕ → ℕ → (List ℕ → Bool) → Bool
each_list p zero f = f []
each_list p (suc d) f = each_below p (λ a. each_list p d (λ rest. f (a ∷ rest)))

each_list_at : (p d : ℕ) (f : List ℕ → Bool) → T (each_list p d f) → (c : ℕ → ℕ) → ((j : ℕ) → j < d → c j < p) → T (f (first d c))
each_list_at p zero f t c h = t
each_list_at p (suc d) f t c h =
    each_list_at p d (λ rest. f (c 0 ∷ rest)) (below_at p (λ a. each_list p d (λ rest. f (a ∷ rest))) t (c 0) (h 0 (omega arith)))
    (λ j. c (suc j)) (λ j b. h (suc j) (omega arith))

module _ (p : ℕ) (q : T (listed p)) (d : ℕ) where
  -- the polynomial with these coefficients
  abbrev made : List ℕ → Polynomial
  made xs = record { coefficients = places d (λ j. get_or xs j 0) }

  pub all_made : (f : Polynomial → Bool) → T (each_list p d (λ xs. f (made xs))) → (a : Polynomial) → T (fits p d a.coefficients) → T (f a)
  all_made f t a h = subst (λ z. T (f z)) (ap (λ (xs : List ℕ). record { coefficients = xs }) (sym whole)) (each_list_at p d (λ xs. f (made xs)) t c (λ j lt. below j lt (dec_lt j 8)))
    where
      c : ℕ → ℕ
      c j = get_or a.coefficients j 0

      below : (j : ℕ) → j < d → Dec (j < 8) → c j < p
      below j lt (yes k) = lawful_below p q d a h j k lt
      below j lt (no k) = rw (get_or-eq_default a.coefficients 0 {n = j} (omega (arith, lawful_long p q d a h))) (omega (arith, listed_low p q))

      whole : a.coefficients ≡ places d (λ j. get_or (first d c) j 0)
      whole = places_of d (λ j. get_or (first d c) j 0) a.coefficients (lawful_long p q d a h) (λ j _ lt. sym (first_at d c j lt)) (lawful_zero p q d a h)

  abbrev pub coefficients : Finite (polynomials p q d)
  coefficients = record {
    each = λ f. each_list p d (λ xs. f (made xs));
    complete = all_made;
    same = λ a b. equal a.coefficients b.coefficients;
    is_same = λ a b t. ap (λ (xs : List ℕ). record { coefficients = xs }) (is_equal a.coefficients b.coefficients t);
    same_is = λ a. equal_is a.coefficients;
  }
