-- What the operations of a machine word are in the ring of bit polynomials.
use Rattle.std.proofs.Common.{◌≡◌, ℕ, zero, suc, ◌+◌, ◌-◌, ◌*◌, ◌/◌, ◌%◌, ◌^◌, ◌<◌, ◌≤◌, Bool, true, false, cond, T, eqb, ltb, ◌≢◌, sym, refl, ap, ◌∙◌, ap₂, mod-lt, mod-eq_of_lt, mul_comm, one-mul, pow-suc, arith, ltb→lt, lt→ltb, pow_pos, pow_mono}
use native.Mathlib.Nat.{pow-zero, pow-succ', zero-mod, zero-div}
use lib.Arith.{mod-mul}
use lib.Pow.{pow-lt}
use lib.Bits.{bit_xor, bit_and, differ, xor_step, xor_shr, xor_lt, xor_shifted, and_mask}
use Rattle.ring.specs.Ring.{power}
use Rattle.ring.specs.Truncated.{product, monomial}
use Rattle.ring.proofs.Convolution.{monomial_below, monomial_from}
use Rattle.ring.proofs.Truncated.{cut_left, step_power}
use Rattle.bits.specs.Two.{two, xor}
use Rattle.bits.specs.Bits.{odd, bit, number, bits}
use Rattle.bits.specs.Laws.{bit_zero, bit_suc, odd_rest, binary_packs}

low_differ : (x r s : ℕ) → r < 2 → s < 2 → odd (x * 2 + differ r s) ≡ xor (eqb r 1) (eqb s 1)
low_differ x zero zero hr hs = ap (λ (n : ℕ). eqb n 1) (let e : (x * 2 + 0) % 2 ≡ 0 = omega arith in e)
low_differ x zero (suc zero) hr hs = ap (λ (n : ℕ). eqb n 1) (let e : (x * 2 + 1) % 2 ≡ 1 = omega arith in e)
low_differ x (suc zero) zero hr hs = ap (λ (n : ℕ). eqb n 1) (let e : (x * 2 + 1) % 2 ≡ 1 = omega arith in e)
low_differ x (suc zero) (suc zero) hr hs = ap (λ (n : ℕ). eqb n 1) (let e : (x * 2 + 0) % 2 ≡ 0 = omega arith in e)
low_differ x zero (suc (suc s)) hr hs = absurd (omega arith)
low_differ x (suc zero) (suc (suc s)) hr hs = absurd (omega arith)
low_differ x (suc (suc r)) s hr hs = absurd (omega arith)

pub odd_xor : (a b : ℕ) → odd (bit_xor a b) ≡ xor (odd a) (odd b)
odd_xor a b = ap odd (xor_step a b) ∙ low_differ (bit_xor (a / 2) (b / 2)) (a % 2) (b % 2) (mod-lt a (omega arith)) (mod-lt b (omega arith))

bit_xor_is : (a b j : ℕ) → bit (bit_xor a b) j ≡ xor (bit a j) (bit b j)
bit_xor_is a b j = ap odd (xor_shr a b j) ∙ odd_xor (a / 2 ^ j) (b / 2 ^ j)

-- the first d bits of a number are its remainder
number_mod : (d a : ℕ) → number d (bit a) ≡ a % 2 ^ d
number_mod zero a = let e = mod-lt a {m = 1} (omega arith) in let f = pow-zero 2 in rw pow-zero (omega arith)
number_mod (suc d) a =
    let rest : number d (λ j. bit a (suc j)) ≡ a / 2 % 2 ^ d = (binary_packs d).first _ _ (λ j _. bit_suc a j) ∙ number_mod d (a / 2) in
    let low : cond (bit a 0) 1 0 ≡ a % 2 = ap (λ (b : Bool). cond b 1 0) (bit_zero a) ∙ odd_rest a in
    let m = mod-mul a {m = 2 ^ d} {c = 2} (pow_pos d) (omega arith) in
    ap₂ (λ (x y : ℕ). x + 2 * y) low rest ∙ (let e : a % 2 + 2 * (a / 2 % 2 ^ d) ≡ a % (2 ^ d * 2) = omega (arith, m) in e) ∙ ap (λ (n : ℕ). a % n) (sym (pow-suc 2 d))

pub even_rest : (a : ℕ) → odd a ≡ false → a % 2 ≡ 0
even_rest a e = sym (ap (λ (b : Bool). cond b 1 0) (sym e) ∙ odd_rest a)

odd_one : (a : ℕ) → odd a ≡ true → a % 2 ≡ 1
odd_one a e = sym (ap (λ (b : Bool). cond b 1 0) (sym e) ∙ odd_rest a)

even_twice : (x : ℕ) → odd (2 * x) ≡ false
even_twice x = ap (λ (n : ℕ). eqb n 1) (let e : (2 * x) % 2 ≡ 0 = omega arith in e)

-- the bits of twice a number
bit_twice : (x j : ℕ) → bit (2 * x) (suc j) ≡ bit x j
bit_twice x j = bit_suc (2 * x) j ∙ ap (λ (n : ℕ). bit n j) (let e : 2 * x / 2 ≡ x = omega arith in e)

bit_none : (j : ℕ) → bit 0 j ≡ false
bit_none j = ap odd (zero-div (2 ^ j))

bit_power : (i j : ℕ) → bit (2 ^ i) j ≡ monomial two i j
bit_power zero zero = refl
bit_power zero (suc j) = bit_suc 1 j ∙ bit_none j
bit_power (suc i) zero = bit_zero (2 ^ suc i) ∙ ap odd (pow-succ' 2 i) ∙ even_twice (2 ^ i)
bit_power (suc i) (suc j) = ap (λ (n : ℕ). bit n (suc j)) (pow-succ' 2 i) ∙ bit_twice (2 ^ i) j ∙ bit_power i j

module _ (d : ℕ) where
  abbrev Fits : ℕ → Type 0
  Fits a = T (ltb a (2 ^ d))

  pub zero_is : 0 ≡ (bits d).zero
  zero_is = sym (zero-mod (2 ^ d)) ∙ sym (number_mod d 0) ∙ (binary_packs d).first _ _ (λ j _. bit_none j)

  monomial_is : (i : ℕ) → 2 ^ i % 2 ^ d ≡ number d (monomial two i)
  monomial_is i = sym (number_mod d (2 ^ i)) ∙ (binary_packs d).first _ _ (λ j _. bit_power i j)

  -- 1 shifted left by i is step^i
  pub power_is : (i : ℕ) → i < d → 2 ^ i ≡ power (bits d) (bits d).step i
  power_is i h = sym (mod-eq_of_lt (pow-lt h)) ∙ monomial_is i ∙ sym (step_power two (binary_packs d) i)

  pub one_is : 1 ≤ d → 1 ≡ (bits d).one
  one_is low = sym (mod-eq_of_lt (let h : 2 ^ 0 < 2 ^ d = pow-lt low in h)) ∙ monomial_is 0

  pub step_is : (m : ℕ) → m ≡ 2 ^ d - 1 → bit_and 2 m ≡ (bits d).step
  step_is m e = ap (bit_and 2) e ∙ and_mask 2 d ∙ monomial_is 1

  pub add_is : (a b : ℕ) → T (ltb a (2 ^ d)) → T (ltb b (2 ^ d)) → bit_xor a b ≡ (bits d).add a b
  add_is a b ha hb =
      sym ((binary_packs d).first _ _ (λ j _. sym (bit_xor_is a b j))
      ∙ (binary_packs d).back (bit_xor a b) (lt→ltb (bit_xor a b) (2 ^ d) (xor_lt d a b (ltb→lt a (2 ^ d) ha) (ltb→lt b (2 ^ d) hb))))

  double_is : (x : ℕ) → (bits d).mul (bits d).step x ≡ (2 * x) % 2 ^ d
  double_is x = (binary_packs d).first _ _ (λ j h. cut_left two (binary_packs d) (monomial two 1) (bit x) j h ∙ at j) ∙ number_mod d (2 * x)
    where
      at : (j : ℕ) → product two (monomial two 1) (bit x) j ≡ bit (2 * x) j
      at zero = monomial_below two 1 0 (bit x) (omega arith) ∙ sym (bit_zero (2 * x) ∙ even_twice x)
      at (suc j) = monomial_from two 1 (suc j) (bit x) (omega arith) ∙ ap (bit x) (let e : suc j - 1 ≡ j = omega arith in e) ∙ sym (bit_twice x j)

  -- a shift left by one, masked
  pub shift_is : d ≤ 31 → (x m : ℕ) → m ≡ 2 ^ d - 1 → T (ltb x (2 ^ d)) → bit_and ((x * 2) % 4294967296) m ≡ (bits d).mul (bits d).step x
  shift_is high x m e hx =
      let below = ltb→lt x (2 ^ d) hx in
      let big : 2 ^ d ≤ 2 ^ 31 = pow_mono high in
      ap₂ bit_and (mod-eq_of_lt (let h : x * 2 < 4294967296 = omega arith in h) ∙ mul_comm x 2) e ∙ and_mask (2 * x) d ∙ sym (double_is x)

  -- an even number is step times its half
  pub even_is : (y : ℕ) → T (ltb y (2 ^ d)) → odd y ≡ false → y ≡ (bits d).mul (bits d).step (y / 2)
  even_is y hy e =
      let r = even_rest y e in
      sym (double_is (y / 2) ∙ ap (λ (n : ℕ). n % 2 ^ d) (let s : 2 * (y / 2) ≡ y = omega arith in s) ∙ mod-eq_of_lt (ltb→lt y (2 ^ d) hy))

  -- and an odd one is that and one
  pub odd_is : 1 ≤ d → (y : ℕ) → T (ltb y (2 ^ d)) → odd y ≡ true → y ≡ (bits d).add ((bits d).mul (bits d).step (y / 2)) (bits d).one
  odd_is low y hy e =
      let r = odd_one y e in
      let below = ltb→lt y (2 ^ d) hy in
      let h : y / 2 * 2 < 2 ^ d = omega arith in
      let one : 2 ^ 0 < 2 ^ d = pow-lt low in
      let half : (bits d).mul (bits d).step (y / 2) ≡ y / 2 * 2
      = double_is (y / 2) ∙ ap (λ (n : ℕ). n % 2 ^ d) (mul_comm 2 (y / 2)) ∙ mod-eq_of_lt h in
      sym (ap₂ (bits d).add half (sym (one_is low)) ∙ sym (add_is (y / 2 * 2) 1 (lt→ltb _ (2 ^ d) h) (lt→ltb 1 (2 ^ d) one))
      ∙ xor_shifted (y / 2) 1 1 (omega arith) ∙ (let s : y / 2 * 2 + 1 ≡ y = omega arith in s))

  pub half_fits : (y : ℕ) → T (ltb y (2 ^ d)) → T (ltb (y / 2) (2 ^ d))
  half_fits y h = let below = ltb→lt y (2 ^ d) h in lt→ltb (y / 2) (2 ^ d) (omega arith)

-- the test of the lowest bit
pub odd_taken : (y : ℕ) → bit_and y 1 ≡ 1 → odd y ≡ true
odd_taken y e = ap (λ (n : ℕ). eqb n 1) (sym (and_mask y 1) ∙ e)

pub even_left : (y : ℕ) → bit_and y 1 ≢ 1 → odd y ≡ false
even_left y ne =
    let e = and_mask y 1 in
    let m = mod-lt y {m = 2} (omega arith) in
    ap (λ (n : ℕ). eqb n 1) (let z : y % 2 ≡ 0 = omega arith in z)

-- 1 shifted left in a word
pub one_shifted : (i : ℕ) → i < 32 → 1 * 2 ^ i % 4294967296 ≡ 2 ^ i
one_shifted i h = ap (λ (n : ℕ). n % 4294967296) (one-mul (2 ^ i)) ∙ mod-eq_of_lt (let s : 2 ^ i < 2 ^ 32 = pow-lt h in s)
