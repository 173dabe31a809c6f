-- A number above 0 is a power of two, of the number of zero bits that it ends in, times an odd number.
use Rattle.std.proofs.Common.{◌≡◌, ℕ, zero, suc, ◌+◌, ◌*◌, ◌/◌, ◌%◌, ◌^◌, ◌<◌, sym, refl, ap, ◌∙◌, mul_assoc, mul_comm, one-mul, pow-suc, arith}
use native.Mathlib.Nat.{mul-div_cancel_left}
use lib.Count.{count_trailing_zeros, under}
use Rattle.residue.specs.Modulo.{Parts}
use Rattle.residue.specs.Laws.{power_pos}

twice : (t o : ℕ) → 2 ^ suc t * o ≡ 2 * (2 ^ t * o)
twice t o = ap (λ z. z * o) (pow-suc 2 t ∙ mul_comm (2 ^ t) 2) ∙ mul_assoc 2 (2 ^ t) o

turn : (m n t : ℕ) → n % 2 ≡ m → 0 < n → (0 < n / 2 → (q : ℕ) × (n / 2 ≡ 2 ^ t * (2 * q + 1))) → (q : ℕ) × (n ≡ 2 ^ under m t * (2 * q + 1))
turn zero n t e pos rest = let r = rest (omega arith) in (r.0, omega (arith, r.1, twice t (2 * r.0 + 1)))
turn (suc m) n t e pos rest = (n / 2, omega (arith, one-mul (2 * (n / 2) + 1)))

pub trailing : (k n : ℕ) → 0 < n → n < 2 ^ k → (q : ℕ) × (n ≡ 2 ^ count_trailing_zeros k n * (2 * q + 1))
unfolding count_trailing_zeros
trailing zero n pos h = absurd (omega arith)
trailing (suc k) n pos h = turn (n % 2) n (count_trailing_zeros k (n / 2)) refl pos (λ p. trailing k (n / 2) p (omega (arith, pow-suc 2 k)))

pub parts_binary : (k a : ℕ) → 0 < a → a < 2 ^ k → Parts 2 a (count_trailing_zeros k a) (a / 2 ^ count_trailing_zeros k a)
parts_binary k a pos h =
    let r = trailing k a pos h in
    let v : ℕ = count_trailing_zeros k a in
    let q_is : a / 2 ^ v ≡ 2 * r.0 + 1 = ap (λ x. x / 2 ^ v) r.1 ∙ mul-div_cancel_left (2 * r.0 + 1) (power_pos 2 (omega arith) v) in
    record { whole = ap (λ x. x * 2 ^ v) q_is ∙ mul_comm (2 * r.0 + 1) (2 ^ v) ∙ sym r.1; rest = λ z. absurd (let e = ap (λ x. x % 2) q_is in omega arith) }
