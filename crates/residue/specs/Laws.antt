-- The numbers modulo p^d keep the laws of a kind.
use Rattle.std.specs.Prelude.{◌≡◌, ℕ, zero, suc, ◌+◌, ◌-◌, ◌*◌, ◌/◌, ◌%◌, ◌^◌, ◌<◌, ◌≤◌, T, ◌≢◌, nat_lt, refl}
use Rattle.std.proofs.Math.Path.{sym, ap}
use Rattle.std.proofs.Common.{subst, ◌∙◌, add_comm, add_assoc, mul_comm, mul_assoc, mul_left_comm, mul-one, mul-add, mod-lt, div-add-mod', pow-suc, le-mul_of_pos_right, le_trans, lt_of_lt_of_le, le_refl, zero-mul, one-mul, not-le_of_lt, lt_of_not-le, arith, ltb→lt, lt→ltb}
use Rattle.std.proofs.Math.Nat.{mod-add-mod, add-mod-mod, mod-eq_of_lt, mod_self, add-mod_right, mod-add-div, div-add-mod, add-mul-mod_self_left, pow-zero, pow-le-pow_right, mul-lt-mul_of_pos_left, zero-mod, div-lt_self}
use Rattle.std.proofs.Math.Decide.{ℕ_discrete}
use Rattle.ring.specs.Ring.{RingLaws, Laws, power, UnitOf, Split}
use Rattle.ring.proofs.Remainders.{mul_mod_left, mul_mod_right}
use Rattle.ring.proofs.Strong.{strong}
use Rattle.ring.proofs.Units.{unit_modulo}
use Rattle.inverses.specs.Bases.{listed}
use Rattle.inverses.proofs.Bases.{listed_low}
use Rattle.inverses.proofs.Rule.{has_inverse}
use Rattle.residue.specs.Modulo.{modulo, Parts}

pub power_one : (p : ℕ) → p ^ 1 ≡ p
power_one p = pow-suc p 0 ∙ ap (λ x. x * p) (pow-zero p) ∙ one-mul p

-- powers of what is 2 or more
module _ (p : ℕ) (low : 2 ≤ p) where
  pub power_pos : (i : ℕ) → 0 < p ^ i
  power_pos zero = rw pow-zero (omega arith)
  power_pos (suc i) = le_trans (power_pos i) (pow-le-pow_right {n = p} (omega arith) {i = i} {j = suc i} (omega arith))

  pub power_up : (i j : ℕ) → i ≤ j → p ^ i ≤ p ^ j
  power_up i j le = pow-le-pow_right {n = p} (omega arith) le

  power_grows : (i : ℕ) → p ^ i < p ^ suc i
  power_grows i = rw pow-suc (subst (λ x. x < p ^ i * p) (mul-one (p ^ i)) (mul-lt-mul_of_pos_left {m = 1} {n = p} {k = p ^ i} low (power_pos i)))

  pub power_below : (i j : ℕ) → i < j → p ^ i < p ^ j
  power_below i j lt = lt_of_lt_of_le (power_grows i) (power_up (suc i) j lt)

-- a number above 0 is p^v × u with u not divided by p
module _ (p : ℕ) (low : 2 ≤ p) where
  pub rest_pos : (u : ℕ) → u % p ≢ 0 → 0 < u
  rest_pos zero ne = absurd (ne (zero-mod p))
  rest_pos (suc u) ne = omega arith

  pub exact : (a : ℕ) → a % p ≡ 0 → a / p * p ≡ a
  exact a z = let m = div-add-mod' a p in omega arith

  pub quotient_pos : (a : ℕ) → 0 < a → a % p ≡ 0 → 0 < a / p
  quotient_pos a pos z = at (a / p) (exact a z)
    where
      at : (q : ℕ) → q * p ≡ a → 0 < q
      at zero e = absurd (let f = zero-mul p in omega arith)
      at (suc q) e = omega arith

  pub parts : (a : ℕ) → 0 < a → (v : ℕ) × (u : ℕ) × Parts p a v u
  parts = strong (λ a. 0 < a → (v : ℕ) × (u : ℕ) × Parts p a v u) (λ a smaller pos. at a smaller pos (ℕ_discrete (a % p) 0))
    where
      at : (a : ℕ) → ((b : ℕ) → b < a → 0 < b → (v : ℕ) × (u : ℕ) × Parts p b v u) → 0 < a → Dec (a % p ≡ 0) → (v : ℕ) × (u : ℕ) × Parts p a v u
      at a smaller pos (no ne) = (0, a, record { whole = ap (λ x. a * x) (pow-zero p) ∙ mul-one a; rest = ne })
      at a smaller pos (yes z) =
          let r = smaller (a / p) (div-lt_self pos low) (quotient_pos a pos z) in
          let e = ap (λ x. r.1 * x) (pow-suc p r.0) ∙ sym (mul_assoc r.1 (p ^ r.0) p) ∙ ap (λ x. x * p) r.2.whole ∙ exact a z in
          (suc r.0, r.1, record { whole = e; rest = r.2.rest })

module _ (p d : ℕ) (low : 2 ≤ p) (deep : 1 ≤ d) where
  pos : 0 < p ^ d
  pos = power_pos p low d

  pub above_one : 1 < p ^ d
  above_one = subst (λ x. x < p ^ d) (pow-zero p) (power_below p low 0 d deep)

  inside : (n : ℕ) → T (nat_lt (n % p ^ d) (p ^ d))
  inside n = lt→ltb (n % p ^ d) (p ^ d) (mod-lt n pos)

  kept : (a : ℕ) → T (nat_lt a (p ^ d)) → a % p ^ d ≡ a
  kept a h = mod-eq_of_lt (ltb→lt a (p ^ d) h)

  pub ring_laws : RingLaws (modulo p d)
  ring_laws = record {
    zero_lawful = lt→ltb 0 (p ^ d) pos;
    one_lawful = lt→ltb 1 (p ^ d) above_one;
    step_lawful = inside p;
    add_lawful = λ a b _ _. inside (a + b);
    sub_lawful = λ a b _ _. inside (a + (p ^ d - b));
    mul_lawful = λ a b _ _. inside (a * b);
    add_comm = λ a b _ _. ap (λ x. x % p ^ d) (add_comm a b);
    add_assoc = λ a b c _ _ _. simp (mod-add-mod, add-mod-mod, add_assoc);
    add_zero = λ a h. ap (λ x. x % p ^ d) (omega arith) ∙ kept a h;
    sub_add = λ a b ha hb.
        let below = ltb→lt b (p ^ d) hb in
        let e : a + (p ^ d - b) + b ≡ a + p ^ d = omega arith in
        mod-add-mod (a + (p ^ d - b)) (p ^ d) b ∙ ap (λ x. x % p ^ d) e ∙ add-mod_right a (p ^ d) ∙ kept a ha;
    mul_comm = λ a b _ _. ap (λ x. x % p ^ d) (mul_comm a b);
    mul_assoc = λ a b c _ _ _. simp (mul_mod_left, mul_mod_right, mul_assoc);
    mul_one = λ a h. ap (λ x. x % p ^ d) (mul-one a) ∙ kept a h;
    mul_add = λ a b c _ _ _. simp (mul_mod_right, mod-add-mod, add-mod-mod, mul-add);
  }

  pub powers : (i : ℕ) → power (modulo p d) (p % p ^ d) i ≡ p ^ i % p ^ d
  unfolding power
  powers zero = sym (ap (λ x. x % p ^ d) (pow-zero p) ∙ mod-eq_of_lt above_one)
  powers (suc i) =
      ap (λ x. (x * (p % p ^ d)) % p ^ d) (powers i) ∙ mul_mod_left (p ^ i) (p % p ^ d) (p ^ d) ∙ mul_mod_right (p ^ i) p (p ^ d)
      ∙ ap (λ x. x % p ^ d) (sym (pow-suc p i))

  pub powers_end : power (modulo p d) (p % p ^ d) d ≡ 0
  powers_end = powers d ∙ mod_self (p ^ d)

  powers_not : (i : ℕ) → i < d → power (modulo p d) (p % p ^ d) i ≢ 0
  powers_not i lt e =
      let z : p ^ i ≡ 0 = sym (mod-eq_of_lt (power_below p low i d lt)) ∙ sym (powers i) ∙ e in
      let q = power_pos p low i in
      omega arith

-- units and splits, for a base that is listed
module _ (p d : ℕ) (h : T (listed p)) (deep : 1 ≤ d) where
  low : 2 ≤ p
  low = listed_low p h

  size_pos : 0 < p ^ d
  size_pos = power_pos p low d

  -- minus q, so that q is taken away by adding
  abbrev pub minus : ℕ → ℕ
  minus q = (p ^ d - q % p ^ d) % p ^ d

  filled : (q : ℕ) → q + (p ^ d - q % p ^ d) ≡ p ^ d * (q / p ^ d + 1)
  filled q =
      let a = mod-add-div q (p ^ d) in
      let b = mod-lt q size_pos in
      let c = mul-add (p ^ d) (q / p ^ d) 1 in
      let e = mul-one (p ^ d) in
      omega arith

  -- an inverse modulo p is one modulo the step
  pub inverse_modulo : (u w : ℕ) → (u * w) % p ≡ 1
      → ((u * w) % p ^ d + (p % p ^ d * minus (u * w / p)) % p ^ d) % p ^ d ≡ 1
  inverse_modulo u w e =
      let q : ℕ = u * w / p in
      let n_is : p * q + 1 ≡ u * w = ap (λ x. p * q + x) (sym e) ∙ div-add-mod (u * w) p in
      let g : ((u * w) % p ^ d + (p % p ^ d * minus q) % p ^ d) % p ^ d ≡ (u * w + p * (p ^ d - q % p ^ d)) % p ^ d
      = simp (mod-add-mod, add-mod-mod, mul_mod_left, mul_mod_right) in
      let k : u * w + p * (p ^ d - q % p ^ d) ≡ 1 + p * (q + (p ^ d - q % p ^ d))
      = let c = mul-add p q (p ^ d - q % p ^ d) in omega arith in
      let z : p * (q + (p ^ d - q % p ^ d)) ≡ p ^ d * (p * (q / p ^ d + 1)) = ap (λ x. p * x) (filled q) ∙ mul_left_comm p (p ^ d) (q / p ^ d + 1) in
      g ∙ ap (λ x. x % p ^ d) (k ∙ ap (λ x. 1 + x) z) ∙ add-mul-mod_self_left 1 (p ^ d) (p * (q / p ^ d + 1)) ∙ mod-eq_of_lt (above_one p d low deep)

  pub minus_lawful : (q : ℕ) → T (nat_lt (minus q) (p ^ d))
  minus_lawful q = lt→ltb (minus q) (p ^ d) (mod-lt (p ^ d - q % p ^ d) size_pos)

  base_le : p ≤ p ^ d
  base_le = subst (λ (x : ℕ). x ≤ p ^ d) (power_one p) (power_up p low 1 d deep)

  pub below_lawful : (w : ℕ) → w < p → T (nat_lt w (p ^ d))
  below_lawful w lt = lt→ltb w (p ^ d) (omega (arith, base_le))

  -- what p does not divide is a unit
  unit : (u : ℕ) → u < p ^ d → u % p ≢ 0 → (w : ℕ) × UnitOf (modulo p d) u w
  unit u lt ne =
      let i = has_inverse p h (u % p) (mod-lt u (omega (arith, low))) in
      let w : ℕ = i.0 in
      let e : (u * w) % p ≡ 1 = sym (mul_mod_left u w p) ∙ i.1.product (omega arith) (mod-lt u (omega (arith, low))) in
      unit_modulo (modulo p d) (ring_laws p d low deep) (powers_end p d low deep) u w (minus (u * w / p))
      (lt→ltb u (p ^ d) lt) (below_lawful w i.1.below) (minus_lawful (u * w / p)) (inverse_modulo u w e)

  pub split_zero : Split (modulo p d) 0 d 1
  split_zero =
      let one = lt→ltb 1 (p ^ d) (above_one p d low deep) in
      record {
        whole = sym (ap (λ x. (x * 1) % p ^ d) (powers_end p d low deep) ∙ zero-mod (p ^ d));
        low = le_refl d;
        zero_end = λ _. refl;
        end_zero = λ _. refl;
        unit = (1, record { left = one; right = one; product = mod-eq_of_lt (above_one p d low deep) });
      }

  pub split_parts : (a v u : ℕ) → T (nat_lt a (p ^ d)) → Parts p a v u → Split (modulo p d) a v u
  split_parts a v u la s =
      let lt = ltb→lt a (p ^ d) la in
      let u_pos = rest_pos p low u s.rest in
      let u_le : u ≤ a = subst (λ (x : ℕ). u ≤ x) s.whole (le-mul_of_pos_right u (power_pos p low v)) in
      let p_le : p ^ v ≤ a = subst (λ (x : ℕ). p ^ v ≤ x) (mul_comm (p ^ v) u ∙ s.whole) (le-mul_of_pos_right (p ^ v) u_pos) in
      let v_lt : v < d = lt_of_not-le (λ le. not-le_of_lt lt (le_trans (power_up p low d v le) p_le)) in
      record {
        whole = sym (ap (λ x. (x * u) % p ^ d) (powers p d low deep v) ∙ mul_mod_left (p ^ v) u (p ^ d) ∙ ap (λ x. x % p ^ d) (mul_comm (p ^ v) u ∙ s.whole) ∙ mod-eq_of_lt lt);
        low = omega arith;
        zero_end = λ z. absurd (omega arith);
        end_zero = λ z. absurd (omega arith);
        unit = unit u (omega arith) s.rest;
      }

  splits : (a : ℕ) → T (nat_lt a (p ^ d)) → (v : ℕ) × (u : ℕ) × Split (modulo p d) a v u
  splits zero la = (d, 1, split_zero)
  splits (suc a) la = let s = parts p low (suc a) (omega arith) in (s.0, s.1, split_parts (suc a) s.0 s.1 la s.2)

  pub laws : d ≤ 31 → Laws (modulo p d)
  laws high = record {
    ring_laws = ring_laws p d low deep;
    depth_low = deep;
    depth_high = high;
    power_not = powers_not p d low deep;
    power_end = powers_end p d low deep;
    splits = splits;
  }
