-- Loops that fill eight places from the first on.
use Rattle.std.proofs.Common.{cond, nat_lt, ◌≡◌, ℕ, zero, suc, ◌+◌, ◌-◌, ◌*◌, ◌%◌, ◌<◌, ◌≤◌, Bool, true, false, T, eqb, ltb, List, [], ◌∷◌, length, get_or, set, sym, refl, ap, ◌∙◌, subst, ap₂, mod-eq_of_lt, mul-le-mul, arith, lt→ltb, length-set, get_or-set_other, get_or-set_same}
use native.Mathlib.Nat.{zero-mod}
use native.Mathlib.Decide.{dec_lt, ℕ_discrete}
use lib.ListN.{take}
use mathlib.Core.List.{reverse}
use Rattle.std.specs.List.{zip, sum_by}
use Rattle.std.proofs.lemmas.List.{get_or-reverse, length-reverse, get_or-take, length-take, get_or_past}
use Rattle.std.proofs.lemmas.List.Sums.{sum_by-cons}
use Rattle.std.proofs.lemmas.List.FromFn.{fill_by_all}
use Rattle.ring.specs.Commutative.{sum}
use Rattle.ring.specs.Truncated.{product, monomial}
use Rattle.ring.proofs.Sums as Sums
use Rattle.ring.proofs.Convolution.{monomial_same, monomial_other}
use Rattle.inverses.specs.Bases.{listed}
use Rattle.inverses.proofs.Bases.{listed_low}
use Rattle.truncated.specs.declared.polynomial.Polynomial.{Polynomial}
use Rattle.truncated.specs.Remainders.{remainder, remainders, remainder_add, remainder_mul}
use Rattle.truncated.specs.Polynomials.{bound, fits, places}
use Rattle.truncated.specs.Laws.{every_of, places_of, lawful_bound, both}
use Rattle.truncated.specs.Operations.{product_of}

abbrev pub zeros : ℕ → List ℕ
zeros zero = []
zeros (suc n) = 0 ∷ zeros n

pub zeros_at : (n j : ℕ) → get_or (zeros n) j 0 ≡ 0
zeros_at zero j = refl
zeros_at (suc n) zero = refl
zeros_at (suc n) (suc j) = zeros_at n j

pub filled_places : (d : ℕ) (f : ℕ → ℕ) (xs : List ℕ) → length xs ≡ 8 → ((j : ℕ) → j < 8 → get_or xs j 0 ≡ cond (nat_lt j d) (f j) 0) → xs ≡ places d f
unfolding places
filled_places d f xs long each = fill_by_all (λ j. cond (nat_lt j d) (f j) 0) xs 8 0 long each

-- cut at x, only the constant is left
pub one_place : (f : ℕ → ℕ) (d x : ℕ) → d ≡ 1 → x ≡ f 0 → x ∷ 0 ∷ 0 ∷ 0 ∷ 0 ∷ 0 ∷ 0 ∷ 0 ∷ [] ≡ places d f
unfolding places
one_place f d x one e = rw one (ap (λ (n : ℕ). n ∷ 0 ∷ 0 ∷ 0 ∷ 0 ∷ 0 ∷ 0 ∷ 0 ∷ []) e)

-- a polynomial is its places
pub same_places : (xs ys : List ℕ) → xs ≡ ys → ◌≡◌ {A = Polynomial} (record { coefficients = xs }) (record { coefficients = ys })
same_places xs ys e = ap (λ (zs : List ℕ). record { coefficients = zs }) e

-- the products of numbers at like places, summed
abbrev pub multiplied : ℕ × ℕ → ℕ
multiplied z = z.0 * z.1

abbrev pub paired : List ℕ → List ℕ → ℕ
paired xs ys = sum_by multiplied (zip xs ys)

pub paired_high : (xs ys : List ℕ) → ((j : ℕ) → get_or xs j 0 ≤ 255) → ((j : ℕ) → get_or ys j 0 ≤ 255) → paired xs ys ≤ 65025 * length xs
paired_high [] ys hx hy = omega arith
paired_high (x ∷ xs) [] hx hy = omega arith
paired_high (x ∷ xs) (y ∷ ys) hx hy =
    let xy : x * y ≤ 255 * 255 = mul-le-mul (hx 0) (hy 0) in
    omega (arith, xy, paired_high xs ys (λ j. hx (suc j)) (λ j. hy (suc j)), sum_by-cons multiplied (x, y) (zip xs ys))

pub high_part : (n : ℕ) (xs : List ℕ) → ((j : ℕ) → get_or xs j 0 ≤ 255) → (j : ℕ) → get_or (take n xs) j 0 ≤ 255
high_part n xs high j = at (dec_lt j n)
  where
    at : Dec (j < n) → get_or (take n xs) j 0 ≤ 255
    at (yes lt) = omega (arith, get_or-take n xs j 0 lt, high j)
    at (no ge) = omega (arith, get_or_past (take n xs) j 0 (omega (arith, length-take n xs)))

pub high_back : (xs : List ℕ) → ((j : ℕ) → get_or xs j 0 ≤ 255) → (j : ℕ) → get_or (reverse xs) j 0 ≤ 255
high_back xs high j = at (dec_lt j (length xs))
  where
    at : Dec (j < length xs) → get_or (reverse xs) j 0 ≤ 255
    at (yes lt) = omega (arith, get_or-reverse xs j 0 lt, high (length xs - 1 - j))
    at (no ge) = omega (arith, get_or_past (reverse xs) j 0 (omega (arith, length-reverse xs)))

module _ (p : ℕ) (h : T (listed p)) (d : ℕ) where
  pub no_places : zeros 8 ≡ places d (λ _. (remainder p h 0).0)
  no_places = places_of d _ (zeros 8) refl (λ j _ _. zeros_at 8 j ∙ sym (zero-mod p)) (λ j _ _. zeros_at 8 j)

  pub monomial_places : (i : ℕ) → i < d → d ≤ 8 → set (zeros 8) i 1 ≡ places d (λ j. (monomial (remainders p h) i j).0)
  monomial_places i lt high = places_of d _ (set (zeros 8) i 1) (length-set (zeros 8) i 1) (λ j l _. at j (ℕ_discrete j i))
      (λ j _ le. get_or-set_other (zeros 8) i j 1 0 (omega arith) ∙ zeros_at 8 j)
    where
      at : (j : ℕ) → Dec (j ≡ i) → get_or (set (zeros 8) i 1) j 0 ≡ (monomial (remainders p h) i j).0
      at j (yes e) =
          let one : 1 % p ≡ 1 = mod-eq_of_lt (let s : 1 < p = omega (arith, listed_low p h) in s) in
          ap (λ (k : ℕ). get_or (set (zeros 8) i 1) k 0) e ∙ get_or-set_same (zeros 8) i 1 0 (let s : i < 8 = omega arith in s)
          ∙ sym (ap (λ (k : ℕ). (monomial (remainders p h) i k).0) e ∙ ap (λ r. r.0) (monomial_same (remainders p h) i) ∙ one)
      at j (no ne) =
          get_or-set_other (zeros 8) i j 1 0 ne ∙ zeros_at 8 j ∙ sym (ap (λ r. r.0) (monomial_other (remainders p h) i j ne) ∙ zero-mod p)

  pub monomial_past : (i : ℕ) → d ≤ i → zeros 8 ≡ places d (λ j. (monomial (remainders p h) i j).0)
  monomial_past i le =
      places_of d _ (zeros 8) refl
      (λ j _ lt. zeros_at 8 j ∙ sym (ap (λ r. r.0) (monomial_other (remainders p h) i j (omega arith)) ∙ zero-mod p)) (λ j _ _. zeros_at 8 j)

  -- the terms of the product's coefficient of x^k
  abbrev pub term : Polynomial → Polynomial → ℕ → ℕ → (n : ℕ) × T (ltb n p)
  term a b k i = (remainders p h).◌⊗◌ (remainder p h (get_or a.coefficients i 0)) (remainder p h (get_or b.coefficients (k - i) 0))

  paired_is : (n : ℕ) (xs ys : List ℕ) → length xs ≡ n → length ys ≡ n
      → remainder p h (paired xs ys) ≡ sum (remainders p h) n (λ j. (remainders p h).◌⊗◌ (remainder p h (get_or xs j 0)) (remainder p h (get_or ys j 0)))
  unfolding sum
  paired_is zero [] ys m n = refl
  paired_is zero (x ∷ xs) ys m n = absurd (omega arith)
  paired_is (suc k) [] ys m n = absurd (omega arith)
  paired_is (suc k) (x ∷ xs) [] m n = absurd (omega arith)
  paired_is (suc k) (x ∷ xs) (y ∷ ys) m n =
      ap (remainder p h) (sum_by-cons multiplied (x, y) (zip xs ys)) ∙ remainder_add p h (x * y) (paired xs ys)
      ∙ ap₂ (remainders p h).◌⊕◌ (remainder_mul p h x y) (paired_is k xs ys (omega arith) (omega arith)) ∙ sym (Sums.sum_front (remainders p h) k _)

  -- the first places of a, and those of b from the last on
  pub convolved : (a b : Polynomial) (k : ℕ) → length (take (k + 1) a.coefficients) ≡ k + 1 → length (take (k + 1) b.coefficients) ≡ k + 1
      → remainder p h (paired (take (k + 1) a.coefficients) (reverse (take (k + 1) b.coefficients))) ≡ sum (remainders p h) (k + 1) (term a b k)
  convolved a b k m n =
      let ys = take (k + 1) b.coefficients in
      paired_is (k + 1) (take (k + 1) a.coefficients) (reverse ys) m (length-reverse ys ∙ n)
      ∙ Sums.sum_ext (remainders p h) (k + 1) _ _ (λ j lt. ap₂ (λ (s t : ℕ). (remainders p h).◌⊗◌ (remainder p h s) (remainder p h t)) (get_or-take (k + 1) a.coefficients j 0 lt)
      (get_or-reverse ys j 0 (omega arith) ∙ ap (λ (i : ℕ). get_or ys i 0) (let e : length ys - 1 - j ≡ k - j = omega arith in e) ∙ get_or-take (k + 1) b.coefficients (k - j) 0 (omega arith)))

  -- the test of the places
  pub all_fit : (a : Polynomial) → length a.coefficients ≡ 8 → ((j : ℕ) → j < 8 → get_or a.coefficients j 0 < bound p d j) → true ≡ fits p d a.coefficients
  all_fit a long all = at (fits p d a.coefficients)
      (both (eqb (length a.coefficients) 8) _ (subst (λ (n : ℕ). T (eqb n 8)) (sym long) tt) (every_of 8 _ (λ j lt. lt→ltb _ (bound p d j) (all j lt))))
    where
      at : (b : Bool) → T b → true ≡ b
      at true t = refl
      at false t = absurd t

  pub one_does_not : (a : Polynomial) (j : ℕ) → j < 8 → bound p d j ≤ get_or a.coefficients j 0 → false ≡ fits p d a.coefficients
  one_does_not a j lt le = at (fits p d a.coefficients) (λ t. omega (arith, lawful_bound p h d a t j lt))
    where
      at : (b : Bool) → (T b → ⊥) → false ≡ b
      at true none = absurd (none tt)
      at false none = refl

  pub product_is : (a b : Polynomial) (k i n : ℕ) → i ≡ k + 1 → remainder p h n ≡ sum (remainders p h) i (term a b k) → n % p ≡ (product_of p h d a b k).0
  unfolding product
  product_is a b k i n e s =
      ap (λ r. r.0) (s ∙ ap (λ (m : ℕ). sum (remainders p h) m (term a b k)) (let t : i ≡ suc k = omega arith in t))
