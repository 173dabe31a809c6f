-- The numbers modulo p^d.
use Rattle.std.specs.Prelude.{◌≡◌, ℕ, ◌+◌, ◌-◌, ◌*◌, ◌%◌, ◌^◌, ◌≢◌, nat_lt}
use Rattle.ring.specs.Ring.{Ring}

abbrev pub modulo : ℕ → ℕ → Ring ℕ
modulo p d = record {
  depth = d;
  lawful = λ a. nat_lt a (p ^ d);
  zero = 0;
  one = 1;
  step = p % p ^ d;
  add = λ a b. (a + b) % p ^ d;
  sub = λ a b. (a + (p ^ d - b)) % p ^ d;
  mul = λ a b. (a * b) % p ^ d;
}

-- a = p^v × u, and p does not divide u
pub record Parts (p a v u : ℕ) : Type 0 where
  pub whole : u * p ^ v ≡ a
  pub rest : u % p ≢ 0
