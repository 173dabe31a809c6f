-- A factor of a product may be reduced first.
use Rattle.std.proofs.Common.{◌≡◌, ℕ, ◌+◌, ◌*◌, ◌/◌, ◌%◌, sym, ap, ◌∙◌, mul_assoc, mul_comm, add-mul}
use native.Mathlib.Nat.{mod-add-div, add-mul-mod_self_left}

pub mul_mod_left : (a b m : ℕ) → (a % m * b) % m ≡ (a * b) % m
mul_mod_left a b m =
    sym (ap (λ x. (x * b) % m) (sym (mod-add-div a m))
    ∙ ap (λ x. x % m) (add-mul (a % m) (m * (a / m)) b ∙ ap (λ x. a % m * b + x) (mul_assoc m (a / m) b))
    ∙ add-mul-mod_self_left (a % m * b) m (a / m * b))

pub mul_mod_right : (a b m : ℕ) → (a * (b % m)) % m ≡ (a * b) % m
mul_mod_right a b m = ap (λ x. x % m) (mul_comm a (b % m)) ∙ mul_mod_left b a m ∙ ap (λ x. x % m) (mul_comm b a)
