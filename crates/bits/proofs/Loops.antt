-- The loops that multiply and divide bit polynomials, a coefficient a turn.
use Rattle.std.proofs.Common.{◌≡◌, ℕ, ◌+◌, ◌-◌, ◌*◌, ◌/◌, ◌%◌, ◌^◌, ◌<◌, ◌≤◌, Bool, true, false, T, ltb, sym, refl, ap, ◌∙◌, subst, ap₂, pow-suc, div-one, add-one, arith, ltb→lt}
use native.Mathlib.Nat.{pow-zero, div-eq_of_lt, div-div-eq-div-mul}
use lib.Bits.{bit_xor, bit_and}
use Rattle.ring.specs.Commutative.{CommRing}
use Rattle.ring.specs.Ring.{RingLaws, power}
use Rattle.ring.specs.Truncated.{product, monomial}
use Rattle.ring.specs.Lawful.{lawful_ring}
use Rattle.ring.proofs.Sums as Sums
use Rattle.ring.proofs.Units.{inverts_whole}
use Rattle.ring.proofs.Convolution.{product_zero}
use Rattle.ring.proofs.Truncated.{truncated_ring, step_ends, step_power}
use Rattle.bits.specs.Two.{two, and}
use Rattle.bits.specs.Bits.{odd, bit, bits}
use Rattle.bits.specs.Laws.{bit_zero, binary_packs}
use Rattle.bits.proofs.Operations.{zero_is, one_is, one_shifted, power_is, add_is, shift_is, even_is, odd_is, half_fits, odd_xor}

-- in any commutative ring
module _ {A : Type 0} (F : CommRing A) where
  infixl 60 ◌⊕◌
  infixl 70 ◌⊗◌
  open F use {𝟘, 𝟙, ◌⊕◌, ◌⊗◌, add_assoc, add_comm, add_zero, mul_assoc, mul_comm, mul_one, distrib}

  multiply_odd : (s sum x z : A) → (sum ⊕ x) ⊕ (s ⊗ x) ⊗ z ≡ sum ⊕ x ⊗ (s ⊗ z ⊕ 𝟙)
  multiply_odd s sum x z = simp (distrib, mul_one, mul_assoc, Sums.mul_left_comm F, add_assoc, add_comm)

  multiply_even : (s sum x z : A) → sum ⊕ (s ⊗ x) ⊗ z ≡ sum ⊕ x ⊗ (s ⊗ z)
  multiply_even s sum x z = simp (mul_assoc, Sums.mul_left_comm F)

  divide_odd : (u w p s z : A) → u ⊗ (w ⊕ p) ⊕ (p ⊗ s) ⊗ z ≡ u ⊗ w ⊕ p ⊗ (s ⊗ z ⊕ u)
  divide_odd u w p s z = simp (distrib, mul_assoc, mul_comm, add_assoc, add_comm)

module _ (d : ℕ) (low : 1 ≤ d) (high : d ≤ 31) where
  abbrev L : RingLaws (bits d)
  L = truncated_ring two (binary_packs d)

  abbrev ring : CommRing ((a : ℕ) × T (ltb a (2 ^ d)))
  ring = lawful_ring (bits d) (truncated_ring two (binary_packs d))

  fits : {a b : ℕ} → a ≡ b → T (ltb b (2 ^ d)) → T (ltb a (2 ^ d))
  fits e h = subst (λ (n : ℕ). T (ltb n (2 ^ d))) (sym e) h

  -- before turn i of the product a × b: sum + x × y = a × b, where y is what is left of b
  pub record Multiplied (a b sum x y i : ℕ) : Type 0 where
    pub sum_fits : T (ltb sum (2 ^ d))
    pub x_fits : T (ltb x (2 ^ d))
    pub y_fits : T (ltb y (2 ^ d))
    pub y_is : y ≡ b / 2 ^ i
    pub eq : (bits d).add sum ((bits d).mul x y) ≡ (bits d).mul a b

  pub multiplied_start : (a b : ℕ) → T (ltb a (2 ^ d)) → T (ltb b (2 ^ d)) → Multiplied a b 0 a b 0
  multiplied_start a b ha hb = record {
    sum_fits = fits (zero_is d) L.zero_lawful;
    x_fits = ha;
    y_fits = hb;
    y_is = sym (ap (λ (n : ℕ). b / n) (pow-zero 2) ∙ div-one b);
    eq = ap (λ (n : ℕ). (bits d).add n ((bits d).mul a b)) (zero_is d) ∙ ap (λ z. z.0) (Sums.zero_add ring ((bits d).mul a b, L.mul_lawful a b ha hb));
  }

  half_next : (b y i : ℕ) → y ≡ b / 2 ^ i → y / 2 ≡ b / 2 ^ (i + 1)
  half_next b y i e = ap (λ (n : ℕ). n / 2) e ∙ div-div-eq-div-mul b (2 ^ i) 2 ∙ ap (λ (n : ℕ). b / n) (sym (ap (λ (n : ℕ). 2 ^ n) (add-one i) ∙ pow-suc 2 i))

  pub multiplied_odd : (a b m sum x y i sum' : ℕ) → m ≡ 2 ^ d - 1 → odd y ≡ true → sum' ≡ bit_xor sum x → Multiplied a b sum x y i
      → Multiplied a b sum' (bit_and ((x * 2) % 4294967296) m) (y / 2) (i + 1)
  multiplied_odd a b m sum x y i sum' e o es h =
      let x_is = shift_is d high x m e h.x_fits in
      let sum_is_lem = es ∙ add_is d sum x h.sum_fits h.x_fits in
      record {
        sum_fits = fits sum_is_lem (L.add_lawful sum x h.sum_fits h.x_fits);
        x_fits = fits x_is (L.mul_lawful _ x L.step_lawful h.x_fits);
        y_fits = half_fits d y h.y_fits;
        y_is = half_next b y i h.y_is;
        eq = ap₂ (λ (p q : ℕ). (bits d).add p ((bits d).mul q (y / 2))) sum_is_lem x_is
            ∙ ap (λ z. z.0) (multiply_odd ring ((bits d).step, L.step_lawful) (sum, h.sum_fits) (x, h.x_fits) (y / 2, half_fits d y h.y_fits))
            ∙ ap (λ (n : ℕ). (bits d).add sum ((bits d).mul x n)) (sym (odd_is d low y h.y_fits o)) ∙ h.eq;
      }

  pub multiplied_even : (a b m sum x y i sum' : ℕ) → m ≡ 2 ^ d - 1 → odd y ≡ false → sum' ≡ sum → Multiplied a b sum x y i
      → Multiplied a b sum' (bit_and ((x * 2) % 4294967296) m) (y / 2) (i + 1)
  multiplied_even a b m sum x y i sum' e o es h =
      let x_is = shift_is d high x m e h.x_fits in
      record {
        sum_fits = fits es h.sum_fits;
        x_fits = fits x_is (L.mul_lawful _ x L.step_lawful h.x_fits);
        y_fits = half_fits d y h.y_fits;
        y_is = half_next b y i h.y_is;
        eq = ap₂ (λ (p q : ℕ). (bits d).add p ((bits d).mul q (y / 2))) es x_is
            ∙ ap (λ z. z.0) (multiply_even ring ((bits d).step, L.step_lawful) (sum, h.sum_fits) (x, h.x_fits) (y / 2, half_fits d y h.y_fits))
            ∙ ap (λ (n : ℕ). (bits d).add sum ((bits d).mul x n)) (sym (even_is d y h.y_fits o)) ∙ h.eq;
      }

  pub multiplied_whole : (a b sum x y i : ℕ) → i ≡ d → T (ltb b (2 ^ d)) → Multiplied a b sum x y i → sum ≡ (bits d).mul a b
  multiplied_whole a b sum x y i e hb h =
      let y_is : y ≡ (bits d).zero = h.y_is ∙ ap (λ (n : ℕ). b / 2 ^ n) e ∙ div-eq_of_lt (ltb→lt b (2 ^ d) hb) ∙ zero_is d in
      let none : (bits d).mul x y ≡ (bits d).zero = ap ((bits d).mul x) y_is ∙ ap (λ z. z.0) (Sums.mul_zero ring (x, h.x_fits)) in
      sym (L.add_zero sum h.sum_fits) ∙ ap ((bits d).add sum) (sym none) ∙ h.eq

  -- before turn i of the division of 1 by u: u × w + step^i × r = 1
  pub record Divided (u w r i : ℕ) : Type 0 where
    pub w_fits : T (ltb w (2 ^ d))
    pub r_fits : T (ltb r (2 ^ d))
    pub eq : (bits d).add ((bits d).mul u w) ((bits d).mul (power (bits d) (bits d).step i) r) ≡ (bits d).one

  power_fits : (i : ℕ) → T (ltb (power (bits d) (bits d).step i) (2 ^ d))
  power_fits i = fits (step_power two (binary_packs d) i) ((binary_packs d).inside _)

  pub divided_start : (u : ℕ) → T (ltb u (2 ^ d)) → Divided u 0 1 0
  unfolding power
  divided_start u hu =
      let one = L.one_lawful in
      record {
        w_fits = fits (zero_is d) L.zero_lawful;
        r_fits = fits (one_is d low) one;
        eq = ap₂ (λ (p q : ℕ). (bits d).add ((bits d).mul u p) ((bits d).mul (bits d).one q)) (zero_is d) (one_is d low)
            ∙ ap₂ (bits d).add (ap (λ z. z.0) (Sums.mul_zero ring (u, hu))) (L.mul_one (bits d).one one)
            ∙ ap (λ z. z.0) (Sums.zero_add ring ((bits d).one, one));
      }

  power_next : (i : ℕ) → power (bits d) (bits d).step (i + 1) ≡ (bits d).mul (power (bits d) (bits d).step i) (bits d).step
  unfolding power
  power_next i = ap (power (bits d) (bits d).step) (add-one i)

  pub divided_odd : (u w r i w' r' : ℕ) → i < d → T (ltb u (2 ^ d)) → odd u ≡ true → odd r ≡ true
      → w' ≡ bit_xor w (1 * 2 ^ i % 4294967296) → r' ≡ bit_xor r u → Divided u w r i → Divided u w' (r' / 2) (i + 1)
  divided_odd u w r i w' r' lt hu ou or ew er h = record {
    w_fits = fits w_is (L.add_lawful w _ h.w_fits (power_fits i));
    r_fits = half_fits d r' taken_fits;
    eq = ap₂ (λ (p q : ℕ). (bits d).add ((bits d).mul u p) ((bits d).mul q (r' / 2))) w_is (power_next i)
        ∙ ap (λ z. z.0) (divide_odd ring (u, hu) (w, h.w_fits) (power (bits d) (bits d).step i, power_fits i) ((bits d).step, L.step_lawful) (r' / 2, half_fits d r' taken_fits))
        ∙ ap (λ (n : ℕ). (bits d).add ((bits d).mul u w) ((bits d).mul (power (bits d) (bits d).step i) n)) back ∙ h.eq;
  }
    where
      w_is : w' ≡ (bits d).add w (power (bits d) (bits d).step i)
      w_is = ew ∙ ap (bit_xor w) (one_shifted i (omega arith) ∙ power_is d i lt) ∙ add_is d w _ h.w_fits (power_fits i)

      taken : r' ≡ (bits d).add r u
      taken = er ∙ add_is d r u h.r_fits hu

      taken_fits : T (ltb r' (2 ^ d))
      taken_fits = fits taken (L.add_lawful r u h.r_fits hu)

      even : odd r' ≡ false
      even = ap odd er ∙ odd_xor r u ∙ ap₂ two.◌⊕◌ or ou

      back : (bits d).add ((bits d).mul (bits d).step (r' / 2)) u ≡ r
      back = ap (λ (n : ℕ). (bits d).add n u) (sym (even_is d r' taken_fits even) ∙ taken) ∙ L.sub_add r u h.r_fits hu

  pub divided_even : (u w r i w' r' : ℕ) → odd r ≡ false → w' ≡ w → r' ≡ r → Divided u w r i → Divided u w' (r' / 2) (i + 1)
  divided_even u w r i w' r' or ew er h =
      let half = half_fits d r h.r_fits in
      record {
        w_fits = fits ew h.w_fits;
        r_fits = fits (ap (λ (n : ℕ). n / 2) er) half;
        eq = ap₂ (λ (p q : ℕ). (bits d).add ((bits d).mul u p) ((bits d).mul (power (bits d) (bits d).step (i + 1)) (q / 2))) ew er
            ∙ ap (λ (n : ℕ). (bits d).add ((bits d).mul u w) n)
            (ap (λ (n : ℕ). (bits d).mul n (r / 2)) (power_next i) ∙ L.mul_assoc _ _ _ (power_fits i) L.step_lawful half
            ∙ ap ((bits d).mul (power (bits d) (bits d).step i)) (sym (even_is d r h.r_fits or)))
            ∙ h.eq;
      }

  pub divided_whole : (u w r v i : ℕ) → d ≤ i → T (ltb u (2 ^ d)) → Divided u w r i → T (ltb v (2 ^ d)) → (bits d).mul u v ≡ (bits d).one → w ≡ v
  divided_whole u w r v i le hu h hv e =
      inverts_whole (bits d) L (step_ends two (binary_packs d)) u w v i hu le
      (record { lawful = h.w_fits; rest = r; rest_lawful = h.r_fits; eq = h.eq }) hv e

  -- a unit is odd
  pub unit_odd : (u w : ℕ) → (bits d).mul u w ≡ (bits d).one → odd u ≡ true
  unit_odd u w e =
      sym (bit_zero u)
      ∙ left (bit u 0) (bit w 0) (sym ((binary_packs d).reads (product two (bit u) (bit w)) 0 low ∙ product_zero two (bit u) (bit w))
      ∙ ap (λ (n : ℕ). bit n 0) e ∙ (binary_packs d).reads (monomial two 0) 0 low)
    where
      left : (a b : Bool) → and a b ≡ true → a ≡ true
      left true b h = refl
      left false b h = h
