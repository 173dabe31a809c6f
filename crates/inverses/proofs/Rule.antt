-- The rule of the table of inverses: one test over all of it, which the checker computes, and what it says at each entry.
use mathlib.Core.Path.{◌≡◌, sym, subst}
use mathlib.Core.Bool.{Bool, true, ◌&&◌}
use Prim.Native.Nat.{ℕ, zero, suc, ◌+◌, ◌*◌, ◌%◌, ◌<◌, ◌≤◌}
use native.Mathlib.Nat.{not-suc-le-zero}
use native.Mathlib.Omega.{arith}
use native.Mathlib.Decide.{ℕ_discrete}
use lib.Dec.{T, eqb, eqb→eq, ltb, ltb→lt, leb, leb→le}
use lib.ListN.{get_or}
use Rattle.inverses.specs.declared.table.TheConstants.{INVERSES}
use Rattle.inverses.specs.Bases.{bases, before, listed, start, Inverse}
use Rattle.inverses.proofs.Bases.{both_left, both_right, each, listed_each, listed_low}

-- the test f passes below n
abbrev pub each_below : ℕ → (ℕ → Bool) → Bool
each_below zero f = true
each_below (suc n) f = f n && each_below n f

last_or : (n : ℕ) (f : ℕ → Bool) (k : ℕ) → T (f n) → (k < n → T (f k)) → k < suc n → Dec (k ≡ n) → T (f k)
last_or n f k t ih h (yes e) = subst (λ (x : ℕ). T (f x)) (sym e) t
last_or n f k t ih h (no ne) = ih (omega arith)

pub below_at : (n : ℕ) (f : ℕ → Bool) → T (each_below n f) → (k : ℕ) → k < n → T (f k)
below_at zero f t k h = absurd (not-suc-le-zero h)
below_at (suc n) f t k h = last_or n f k (both_left (f n) (each_below n f) t) (below_at n f (both_right (f n) (each_below n f) t) k) h (ℕ_discrete k n)

-- x is the inverse of r modulo p, and 0 at 0
abbrev right : ℕ → ℕ → ℕ → Bool
right p zero x = eqb x 0
right p (suc r) x = ltb x p && eqb ((suc r * x) % p) 1

right_is : (p r x : ℕ) → 2 ≤ p → r < p → T (right p r x) → Inverse p r x
right_is p zero x low lt t =
    let e = eqb→eq x 0 t in
    record { below = omega arith; product = λ one _. absurd (omega arith); zero = λ _. e; past = λ le. absurd (omega arith) }
right_is p (suc r) x low lt t =
    let a = ltb→lt x p (both_left (ltb x p) (eqb ((suc r * x) % p) 1) t) in
    let b = eqb→eq ((suc r * x) % p) 1 (both_right (ltb x p) (eqb ((suc r * x) % p) 1) t) in
    record { below = a; product = λ _ _. b; zero = λ e. absurd (omega arith); past = λ le. absurd (omega arith) }

abbrev pub at : ℕ → ℕ → ℕ
at p r = get_or INVERSES (before p bases + r) 0

abbrev row : ℕ → Bool
row p = each_below p (λ r. right p r (at p r))

whole : T (each row bases)
whole =
    tt

-- so each entry is the inverse of its remainder
pub entry : (p : ℕ) → T (listed p) → (r : ℕ) → r < p → Inverse p r (get_or INVERSES (start p + r) 0)
unfolding start
entry p h r lt = right_is p r (at p r) (listed_low p h) lt (below_at p (λ r. right p r (at p r)) (listed_each row whole p h) r lt)

-- and each base is a prime: every remainder but 0 has an inverse
pub has_inverse : (p : ℕ) → T (listed p) → (r : ℕ) → r < p → (x : ℕ) × Inverse p r x
has_inverse p h r lt = (_, entry p h r lt)

pub start_fits : (p : ℕ) → T (listed p) → start p + p ≤ 538
unfolding start
start_fits p h = leb→le (before p bases + p) 538 (listed_each (λ x. leb (before x bases + x) 538) tt p h)
