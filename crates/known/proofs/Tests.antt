-- Tests that the checker computes, and what it means that they pass.
use Rattle.std.proofs.Common.{◌≡◌, ℕ, zero, suc, ◌<◌, Bool, true, false, ◌&&◌, T, List, [], ◌∷◌, length, get_or, le_of_suc-le-suc, not-suc-le-zero, arith}
use Rattle.std.specs.List.{AllByRecursion}
use Rattle.ring.specs.Ring.{Ring}
use Rattle.inverses.proofs.Bases.{both_left, both_right}
use Rattle.inverses.proofs.Rule.{each_below}

pub join : (a b : Bool) → T a → T b → T (a && b)
join true b s t = t
join false b s t = absurd s

pub below_from : (n : ℕ) (f : ℕ → Bool) → ((k : ℕ) → k < n → T (f k)) → T (each_below n f)
below_from zero f h = tt
below_from (suc n) f h = join (f n) (each_below n f) (h n (omega arith)) (below_from n f (λ k b. h k (omega arith)))

-- the test passes at every element of the list
abbrev pub every : {A : Type 0} → (A → Bool) → List A → Bool
every f [] = true
every f (x ∷ xs) = f x && every f xs

pub every_at : {A : Type 0} (f : A → Bool) (xs : List A) → T (every f xs) → (j : ℕ) (d : A) → j < length xs → T (f (get_or xs j d))
every_at f [] t j d h = absurd (not-suc-le-zero h)
every_at f (x ∷ xs) t zero d h = both_left (f x) (every f xs) t
every_at f (x ∷ xs) t (suc j) d h = every_at f xs (both_right (f x) (every f xs) t) j d (le_of_suc-le-suc h)

pub every_all : {A : Type 0} (f : A → Bool) (P : A → Type 0) → ((a : A) → T (f a) → P a) → (xs : List A) → T (every f xs) → AllByRecursion P xs
every_all f P h [] t = tt
every_all f P h (x ∷ xs) t = (h x (both_left (f x) (every f xs) t), every_all f P h xs (both_right (f x) (every f xs) t))

-- tests that all pass
abbrev pub all : List Bool → Bool
all = every (λ b. b)

pub each_of : (tests : List Bool) → T (all tests) → AllByRecursion T tests
each_of tests t = every_all (λ b. b) T (λ b t. t) tests t

-- the elements of a ring can be gone through and compared: `each` says whether a test passes for all that are lawful
pub record Finite {E : Type 0} (R : Ring E) : Type 0 where
  pub each : (E → Bool) → Bool
  pub complete : (f : E → Bool) → T (each f) → (a : E) → T (R.lawful a) → T (f a)
  pub same : E → E → Bool
  pub is_same : (a b : E) → T (same a b) → a ≡ b
  pub same_is : (a : E) → T (same a a)
