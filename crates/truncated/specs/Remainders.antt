-- The numbers modulo a listed base p are a field.
use Rattle.std.specs.Prelude.{◌≡◌, ℕ, zero, suc, ◌+◌, ◌-◌, ◌*◌, ◌%◌, ◌<◌, T, ◌≢◌, ◌⊎◌, nat_lt}
use Rattle.std.proofs.Common.{sym, ap, ◌∙◌, inl, inr, add_comm, add_assoc, add-zero, mul_comm, mul_assoc, mul-one, mul-add, mod-lt, mod-eq_of_lt, arith, ltb→lt, lt→ltb}
use mathlib.Core.HLevel.{Σ_prop_path}
use Rattle.std.proofs.Math.Nat.{mod-add-mod, add-mod-mod, mod_self, zero-mod}
use Rattle.std.proofs.Math.Dec.{T_prop}
use Rattle.ring.specs.Commutative.{CommRing}
use Rattle.ring.specs.Truncated.{Field}
use Rattle.ring.proofs.Remainders.{mul_mod_left, mul_mod_right}
use Rattle.inverses.specs.Bases.{listed}
use Rattle.inverses.proofs.Bases.{listed_low}
use Rattle.inverses.proofs.Rule.{has_inverse}

abbrev pub Remainder : ℕ → Type 0
Remainder p = (n : ℕ) × T (nat_lt n p)

module _ (p : ℕ) (h : T (listed p)) where
  pub same_remainder : {a b : Remainder p} → a.0 ≡ b.0 → a ≡ b
  same_remainder e = Σ_prop_path (λ n. T_prop (nat_lt n p)) e

  abbrev pub remainder : ℕ → Remainder p
  remainder n = (n % p, lt→ltb (n % p) p (mod-lt n (omega (arith, listed_low p h))))

  pub remainder_same : (a : Remainder p) → a.0 % p ≡ a.0
  remainder_same a = mod-eq_of_lt (ltb→lt a.0 p a.1)

  abbrev pub remainders : CommRing (Remainder p)
  remainders = record {
    𝟘 = remainder 0;
    𝟙 = remainder 1;
    ◌⊕◌ = λ a b. remainder (a.0 + b.0);
    ◌⊗◌ = λ a b. remainder (a.0 * b.0);
    ⊖◌ = λ a. remainder (p - a.0);
    add_assoc = λ a b c. same_remainder
        (mod-add-mod (a.0 + b.0) p c.0 ∙ ap (λ (n : ℕ). n % p) (add_assoc a.0 b.0 c.0) ∙ sym (add-mod-mod a.0 (b.0 + c.0) p));
    add_comm = λ a b. same_remainder (ap (λ (n : ℕ). n % p) (add_comm a.0 b.0));
    add_zero = λ a. same_remainder (add-mod-mod a.0 0 p ∙ ap (λ (n : ℕ). n % p) (add-zero a.0) ∙ remainder_same a);
    add_neg = λ a. same_remainder
        (add-mod-mod a.0 (p - a.0) p ∙ ap (λ (n : ℕ). n % p) (let lt = ltb→lt a.0 p a.1 in let e : a.0 + (p - a.0) ≡ p = omega arith in e)
        ∙ mod_self p ∙ sym (mod-eq_of_lt (let e : 0 < p = omega (arith, listed_low p h) in e)));
    mul_assoc = λ a b c. same_remainder
        (mul_mod_left (a.0 * b.0) c.0 p ∙ ap (λ (n : ℕ). n % p) (mul_assoc a.0 b.0 c.0) ∙ sym (mul_mod_right a.0 (b.0 * c.0) p));
    mul_comm = λ a b. same_remainder (ap (λ (n : ℕ). n % p) (mul_comm a.0 b.0));
    mul_one = λ a. same_remainder (mul_mod_right a.0 1 p ∙ ap (λ (n : ℕ). n % p) (mul-one a.0) ∙ remainder_same a);
    distrib = λ a b c. same_remainder
        (mul_mod_right a.0 (b.0 + c.0) p ∙ ap (λ (n : ℕ). n % p) (mul-add a.0 b.0 c.0)
        ∙ sym (mod-add-mod (a.0 * b.0) p (a.0 * c.0 % p) ∙ add-mod-mod (a.0 * b.0) (a.0 * c.0) p));
  }

  pub remainder_add : (m n : ℕ) → remainder (m + n) ≡ remainders.◌⊕◌ (remainder m) (remainder n)
  remainder_add m n = same_remainder (sym (mod-add-mod m p (n % p) ∙ add-mod-mod m n p))

  pub remainder_mul : (m n : ℕ) → remainder (m * n) ≡ remainders.◌⊗◌ (remainder m) (remainder n)
  remainder_mul m n = same_remainder (sym (mul_mod_left m (n % p) p ∙ mul_mod_right m n p))

  one_below : 1 < p
  one_below = omega (arith, listed_low p h)

  pub remainders_distinct : remainder 1 ≢ remainder 0
  remainders_distinct e =
      let one : 1 % p ≡ 1 = mod-eq_of_lt one_below in
      let none = zero-mod p in
      let z : 1 % p ≡ 0 % p = ap (λ (a : Remainder p). a.0) e in
      omega arith

  pub remainders_field : Field remainders
  remainders_field a = at a.0 a.1
    where
      at : (n : ℕ) (t : T (nat_lt n p)) → (◌≡◌ {A = Remainder p} (n, t) (remainder 0)) ⊎ ((b : Remainder p) × (remainder (n * b.0) ≡ remainder 1))
      at zero t = inl (same_remainder (sym (zero-mod p)))
      at (suc n) t =
          let lt = ltb→lt (suc n) p t in
          let i = has_inverse p h (suc n) lt in
          inr ((i.0, lt→ltb i.0 p i.1.below), same_remainder (i.1.product (omega arith) lt ∙ sym (mod-eq_of_lt one_below)))
