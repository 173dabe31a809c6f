-- Newton's iteration modulo p^d, from the inverse modulo p.
use Rattle.std.proofs.Common.{◌≡◌, ℕ, suc, ◌+◌, ◌-◌, ◌*◌, ◌/◌, ◌%◌, ◌^◌, ◌<◌, ◌≤◌, T, ltb, ◌≢◌, sym, ap, ◌∙◌, subst, mod-lt, mod-eq_of_lt, pow-suc, zero-mul, arith}
use Prim.Native.Nat.{◌∣◌}
use native.Mathlib.Nat.{mod-mod_of_dvd, dvd-mul_left, zero-mod}
use Rattle.ring.specs.Ring.{RingLaws, power}
use Rattle.ring.proofs.Remainders.{mul_mod_left}
use Rattle.ring.proofs.Units.{Inverts, inverts_whole}
use Rattle.inverses.specs.Bases.{listed, Inverse}
use Rattle.inverses.proofs.Bases.{listed_low}
use Rattle.residue.specs.Modulo.{modulo}
use Rattle.residue.specs.Laws.{power_one, ring_laws, powers, powers_end, minus, minus_lawful, below_lawful, inverse_modulo}

module _ (p d : ℕ) (h : T (listed p)) (deep : 1 ≤ d) where
  low : 2 ≤ p
  low = listed_low p h

  abbrev modulo_laws : RingLaws (modulo p d)
  modulo_laws = ring_laws p d (listed_low p h) deep

  abbrev ends : power (modulo p d) (p % p ^ d) d ≡ 0
  ends = powers_end p d (listed_low p h) deep

  -- if p does not divide u, w inverts u as far as the n-th power of the step
  abbrev pub Known : ℕ → ℕ → ℕ → Type 0
  Known u w n = T (ltb u (p ^ d)) → u % p ≢ 0 → Inverts (modulo p d) modulo_laws ends u w n

  pub first : (u w : ℕ) → Inverse p (u % p) w → Known u w 1
  first u w i hu ne =
      let q : ℕ = u * w / p in
      let lt : u % p < p = mod-lt u (omega (arith, low)) in
      let e : (u * w) % p ≡ 1 = sym (mul_mod_left u w p) ∙ i.product (omega arith) lt in
      let s : power (modulo p d) (p % p ^ d) 1 ≡ p % p ^ d = powers p d low deep 1 ∙ ap (λ x. x % p ^ d) (power_one p) in
      record {
        lawful = below_lawful p d h deep w i.below;
        rest = minus p d h deep q;
        rest_lawful = minus_lawful p d h deep q;
        eq = ap (λ x. ((u * w) % p ^ d + (x * minus p d h deep q) % p ^ d) % p ^ d) s ∙ inverse_modulo p d h deep u w e;
      }

  -- what has an inverse is not divided by p
  undivided : (u w : ℕ) → (u * w) % p ^ d ≡ 1 → u % p ≢ 0
  undivided u w e z =
      let d_is : suc (d - 1) ≡ d = omega arith in
      let divides : p ∣ p ^ d = subst (λ (x : ℕ). p ∣ x) (sym (pow-suc p (d - 1)) ∙ ap (λ (x : ℕ). p ^ x) d_is) (dvd-mul_left p (p ^ (d - 1))) in
      let one : (u * w) % p ≡ 1 = sym (mod-mod_of_dvd p (u * w) divides) ∙ ap (λ (x : ℕ). x % p) e ∙ mod-eq_of_lt low in
      let none : (u * w) % p ≡ 0 = sym (mul_mod_left u w p) ∙ ap (λ (x : ℕ). (x * w) % p) z ∙ ap (λ (x : ℕ). x % p) (zero-mul w) ∙ zero-mod p in
      omega arith

  pub last : (u w v n : ℕ) → d ≤ n → Known u w n → T (ltb u (p ^ d)) → T (ltb v (p ^ d)) → (u * v) % p ^ d ≡ 1 → w ≡ v
  last u w v n le known hu hv e = inverts_whole (modulo p d) modulo_laws ends u w v n hu le (known hu (undivided u v e)) hv e
