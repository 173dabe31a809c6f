-- Sums and differences of numbers modulo p that are found by comparing.
use Rattle.std.proofs.Common.{◌≡◌, ℕ, zero, suc, ◌+◌, ◌-◌, ◌*◌, ◌%◌, ◌<◌, ◌≤◌, sym, ap, ◌∙◌, mul_comm, arith}
use Rattle.std.proofs.lemmas.Nat.{mod-mul-add}

-- n is a multiple of p and r, which is below p
rest_is : (n p k r : ℕ) → n ≡ k * p + r → r < p → r ≡ n % p
rest_is n p k r e lt = sym (ap (λ (m : ℕ). m % p) e ∙ mod-mul-add k p r lt)

one_less : (p y : ℕ) → 1 ≤ p → (p - 1) * y + y ≡ p * y
one_less zero y one = absurd (omega arith)
one_less (suc q) y one =
    let e : suc q - 1 ≡ q = omega arith in
    rw e (let m : suc q * y ≡ q * y + y = omega arith in sym m)

pub once_less : (n p : ℕ) → p ≤ n → n - p < p → n - p ≡ n % p
once_less n p le lt = rest_is n p 1 (n - p) (omega arith) lt

pub less_is : (x y p : ℕ) → 1 ≤ p → y ≤ x → x - y < p → x - y ≡ (x + (p - 1) * y) % p
less_is x y p one le lt =
    let e = one_less p y one in
    let m = mul_comm p y in
    rest_is _ p y (x - y) (omega (arith, e, m)) lt

pub more_is : (x y p : ℕ) → 1 ≤ p → x < y → p - (y - x) < p → y - x ≤ p → p - (y - x) ≡ (x + (p - 1) * y) % p
more_is x y p one lt less within =
    let e = one_less p y one in
    let f = one_less y p (omega arith) in
    let m = mul_comm p y in
    rest_is _ p (y - 1) (p - (y - x)) (omega (arith, e, f, m)) less
