-- The number of trailing zeros is the valuation.
use Rattle.std.proofs.Common.{◌≡◌, ℕ, zero, suc, ◌+◌, ◌-◌, ◌/◌, ◌%◌, ◌^◌, ◌<◌, ◌≤◌, Bool, true, false, T, eqb, ltb, sym, refl, ap, ◌∙◌, subst, mod-lt, div-le_self, arith, ltb→lt, lt→ltb, pow_mono, shr-shr}
use native.Mathlib.Nat.{pow-zero, pow-succ', div-eq_of_lt}
use native.Mathlib.Decide.{dec_lt}
use lib.Count.{count_trailing_zeros, under}
use Rattle.ring.specs.Ring.{Split}
use Rattle.ring.proofs.Truncated.{split_zero, split_at}
use Rattle.bits.specs.Two.{two}
use Rattle.bits.specs.Bits.{odd, bit, bits}
use Rattle.bits.specs.Laws.{bit_zero, bit_suc, binary_packs, two_distinct}
use Rattle.bits.proofs.Operations.{zero_is, one_is}

-- the lowest bit of a that is set is bit v
pub record Lowest (a v : ℕ) : Type 0 where
  pub below : (j : ℕ) → j < v → bit a j ≡ false
  pub set : bit a v ≡ true

-- from the lowest bit and the rest
lowest_by : (a t r : ℕ) → a % 2 ≡ r → r < 2 → (r ≡ 0 → Lowest (a / 2) t) → Lowest a (under r t)
lowest_by a t zero e h rest =
    let l = rest refl in
    record { below = low; set = bit_suc a t ∙ l.set }
  where
    low : (j : ℕ) → j < suc t → bit a j ≡ false
    low zero lt = bit_zero a ∙ ap (λ (n : ℕ). eqb n 1) e
    low (suc j) lt = bit_suc a j ∙ (rest refl).below j (omega arith)
lowest_by a t (suc zero) e h rest = record { below = λ j lt. absurd (omega arith); set = bit_zero a ∙ ap (λ (n : ℕ). eqb n 1) e }
lowest_by a t (suc (suc r)) e h rest = absurd (omega arith)

pub trailing_lowest : (k a : ℕ) → 0 < a → a < 2 ^ k → Lowest a (count_trailing_zeros k a)
unfolding count_trailing_zeros
trailing_lowest zero a pos h = absurd (let e = pow-zero 2 in omega arith)
trailing_lowest (suc k) a pos h =
    lowest_by a (count_trailing_zeros k (a / 2)) (a % 2) refl (mod-lt a (omega arith))
    (λ e. trailing_lowest k (a / 2) (omega arith) (let p = pow-succ' 2 k in omega arith))

-- a number below 2^d has no bit from d on
set_below : (d a v : ℕ) → a < 2 ^ d → bit a v ≡ true → v < d
set_below d a v h e = at (dec_lt v d)
  where
    at : Dec (v < d) → v < d
    at (yes lt) = lt
    at (no ge) =
        let big : 2 ^ d ≤ 2 ^ v = pow_mono (omega arith) in
        let none : odd (a / 2 ^ v) ≡ false = ap odd (div-eq_of_lt (let s : a < 2 ^ v = omega arith in s)) in
        absurd (two_distinct (sym e ∙ none))

module _ (d : ℕ) (low : 1 ≤ d) where
  pub zero_split : (a : ℕ) → a ≡ 0 → Split (bits d) a d 1
  zero_split a e = subst (Split (bits d) a d) (sym (one_is d low)) (split_zero two (binary_packs d) low a (e ∙ zero_is d))

  pub shifted_split : (a v : ℕ) → Lowest a v → T (ltb a (2 ^ d)) → Split (bits d) a v (a / 2 ^ v)
  shifted_split a v l ha =
      let below = ltb→lt a (2 ^ d) ha in
      let less = div-le_self a (2 ^ v) in
      split_at two (binary_packs d) two_distinct a (a / 2 ^ v) v true (set_below d a v below l.set) ha
      (lt→ltb (a / 2 ^ v) (2 ^ d) (omega arith)) l.below (λ j le _. moved j le) (ap (λ (b : Bool). two.◌⊗◌ b true) l.set)
    where
      moved : (j : ℕ) → v ≤ j → bit a j ≡ bit (a / 2 ^ v) (j - v)
      moved j le =
          let e : v + (j - v) ≡ j = omega arith in
          sym (ap odd (shr-shr a v (j - v)) ∙ ap (λ (n : ℕ). odd (a / 2 ^ n)) e)
