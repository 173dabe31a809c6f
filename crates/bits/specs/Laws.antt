-- That numbers below 2^d are the same as their first d bits, and so that the polynomials in them keep the laws of a kind.
use Rattle.std.specs.Prelude.{◌≡◌, ℕ, zero, suc, ◌+◌, ◌*◌, ◌/◌, ◌%◌, ◌^◌, ◌<◌, ◌≤◌, Bool, true, false, cond, T, ◌≢◌, ◌==◌, nat_eq, refl}
use Rattle.std.proofs.Common.{sym, ap, ap₂, ◌∙◌, subst, inl, inr, mod-lt, div-one, arith, ltb→lt, lt→ltb}
use Rattle.std.proofs.Math.Nat.{pow-zero, pow-succ', div-div-eq-div-mul}
use Rattle.ring.specs.Ring.{Laws}
use Rattle.ring.specs.Truncated.{Field, Packs}
use Rattle.ring.proofs.Truncated.{truncated_laws}
use Rattle.bits.specs.Two.{two}
use Rattle.bits.specs.Bits.{odd, bit, number, binary, bits}

pub bit_zero : (a : ℕ) → bit a 0 ≡ odd a
bit_zero a = ap (λ (n : ℕ). odd (a / n)) (pow-zero 2) ∙ ap odd (div-one a)

pub bit_suc : (a j : ℕ) → bit a (suc j) ≡ bit (a / 2) j
bit_suc a j = ap (λ (n : ℕ). odd (a / n)) (pow-succ' 2 j) ∙ ap odd (sym (div-div-eq-div-mul a 2 (2 ^ j)))

pub odd_double : (b : Bool) (x : ℕ) → odd (cond b 1 0 + 2 * x) ≡ b
odd_double true x = ap (λ (n : ℕ). nat_eq n 1) (let e : (1 + 2 * x) % 2 ≡ 1 = omega arith in e)
odd_double false x = ap (λ (n : ℕ). nat_eq n 1) (let e : (0 + 2 * x) % 2 ≡ 0 = omega arith in e)

pub half_double : (b : Bool) (x : ℕ) → (cond b 1 0 + 2 * x) / 2 ≡ x
half_double true x = omega arith
half_double false x = omega arith

pub odd_rest : (a : ℕ) → cond (odd a) 1 0 ≡ a % 2
odd_rest a = at (a % 2) (mod-lt a (omega arith))
  where
    at : (r : ℕ) → r < 2 → cond (r == 1) 1 0 ≡ r
    at zero h = refl
    at (suc zero) h = refl
    at (suc (suc r)) h = absurd (omega arith)

number_below : (d : ℕ) (f : ℕ → Bool) → number d f < 2 ^ d
number_below zero f = rw pow-zero (omega arith)
number_below (suc d) f = rw pow-succ' (at (f 0) (number_below d (λ j. f (suc j))))
  where
    at : (b : Bool) → number d (λ j. f (suc j)) < 2 ^ d → cond b 1 0 + 2 * number d (λ j. f (suc j)) < 2 * 2 ^ d
    at true h = omega arith
    at false h = omega arith

number_first : (d : ℕ) (f g : ℕ → Bool) → ((j : ℕ) → j < d → f j ≡ g j) → number d f ≡ number d g
number_first zero f g e = refl
number_first (suc d) f g e =
    ap₂ (λ (b : Bool) (x : ℕ). cond b 1 0 + 2 * x) (e 0 (omega arith)) (number_first d (λ j. f (suc j)) (λ j. g (suc j)) (λ j h. e (suc j) (omega arith)))

number_reads : (d : ℕ) (f : ℕ → Bool) (j : ℕ) → j < d → bit (number d f) j ≡ f j
number_reads zero f j h = absurd (omega arith)
number_reads (suc d) f zero h = bit_zero (number (suc d) f) ∙ odd_double (f 0) (number d (λ j. f (suc j)))
number_reads (suc d) f (suc j) h =
    bit_suc (number (suc d) f) j ∙ ap (λ (n : ℕ). bit n j) (half_double (f 0) (number d (λ i. f (suc i)))) ∙ number_reads d (λ i. f (suc i)) j (omega arith)

number_back : (d a : ℕ) → a < 2 ^ d → number d (bit a) ≡ a
number_back zero a h = let e = pow-zero 2 in omega arith
number_back (suc d) a h =
    let e = pow-succ' 2 d in
    let rest : number d (λ j. bit a (suc j)) ≡ a / 2 = number_first d _ _ (λ j _. bit_suc a j) ∙ number_back d (a / 2) (omega arith) in
    ap₂ (λ (x y : ℕ). x + 2 * y) (ap (λ (b : Bool). cond b 1 0) (bit_zero a) ∙ odd_rest a) rest ∙ (let s : a % 2 + 2 * (a / 2) ≡ a = omega arith in s)

pub binary_packs : (d : ℕ) → Packs (binary d) d
binary_packs d = record {
  inside = λ f. lt→ltb (number d f) (2 ^ d) (number_below d f);
  reads = number_reads d;
  first = number_first d;
  back = λ a h. number_back d a (ltb→lt a (2 ^ d) h);
}

pub two_field : Field two
two_field true = inr (true, refl)
two_field false = inl refl

pub two_distinct : true ≢ false
two_distinct e = subst T e tt

pub bits_laws : (d : ℕ) → 1 ≤ d → d ≤ 31 → Laws (bits d)
bits_laws d low high = truncated_laws two (binary_packs d) two_field two_distinct low high
