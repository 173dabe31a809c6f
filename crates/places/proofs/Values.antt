-- The value of a polynomial at a place, as the code sums it.
use Rattle.std.proofs.Common.{◌≡◌, ℕ, suc, ◌+◌, ◌*◌, ◌/◌, ◌%◌, ◌<◌, ◌≤◌, T, ◌≢◌, List, get_or, refl, ap, ◌∙◌, subst, ap₂, add-one, arith}
use native.Mathlib.Nat.{add-mul-div_right, add-mul-mod_self_right}
use native.Mathlib.Decide.{dec_lt}
use Rattle.ring.specs.Ring.{Ring, Laws}
use Rattle.ring.specs.Lawful.{Lawful, Is, lifted, hold, cells, level_of}
use Rattle.ring.proofs.Lifts as Lifts
use Rattle.recurrence.specs.declared.shape.Shape.{Shape}
use Rattle.recurrence.proofs.Polynomials.{act}
use Rattle.recurrence.proofs.Captures.{Capture, Chain, Below, value, Zeros, Valued}
use Rattle.recurrence.proofs.Bridge.{to_zero, from_zero}
use Rattle.recurrence.proofs.Lift.{valued_of, chain_of}
use Rattle.recurrence.proofs.Recurrences as Rec
use Rattle.recurrence.specs.Words.{words}
use Rattle.places.specs.Places.{capture_of, Row}
use Rattle.places.proofs.Places.{wide}

module _ {E : Type 0} {R : Ring E} (L : Laws R) (shape : Shape) (ws : List E) where
  abbrev C : Capture (Lawful L)
  C = capture_of L shape ws

  abbrev n : ℕ
  n = shape.channels

  abbrev e : ℕ
  e = shape.count.words

  pub chain : Chain C
  chain = chain_of L (words R shape ws) n e (wide shape)

  pub valued_level : (x : Lawful L) → Valued C (level_of L x) x
  valued_level x = valued_of L (words R shape ws) n e x.0 _ x (level_of L x) (record { eq = refl }) (L.splits x.0 x.1).2

  -- the sum of the first j terms of the value of p at q
  abbrev pub partial : (ℕ → Lawful L) → ℕ → ℕ → Lawful L
  partial p q j = act (lifted L) j p (λ k. hold L (words R shape ws (q % n) k)) (q / n)

  pub partial_none : (p : ℕ → Lawful L) (q : ℕ) → partial p q 0 ≡ (lifted L).𝟘
  partial_none p q = Rec.act_none (lifted L) 0 p _ (q / n) (λ j h. absurd (omega arith))

  pub value_partial : (p : ℕ → Lawful L) (m q : ℕ) → m ≤ e → Below C (suc m) p → value C p q ≡ partial p q (suc m)
  unfolding value
  value_partial p m q h below = Rec.act_stretch (lifted L) (suc m) (suc e) p (λ k. hold L (words R shape ws (q % n) k)) (q / n) (omega arith) below

  -- what is read at the place q + j × n
  word_is : (q j : ℕ) (y : E) → T (R.lawful y) → y ≡ words R shape ws ((q + j * n) % n) ((q + j * n) / n) → Is L y (hold L (words R shape ws (q % n) (q / n + j)))
  word_is q j y lawful is =
      subst (λ z. Is L y (hold L z)) (is ∙ ap₂ (words R shape ws) (add-mul-mod_self_right q j n) (add-mul-div_right q j {z = n} (wide shape))) (Lifts.hold_is L y lawful)

  pub value_next : (m q j : ℕ) (row : List E) (x y a p r : E) → Row L shape ws m row
      → j < m + 1 → x ≡ get_or row j x → T (R.lawful y) → y ≡ words R shape ws ((q + j * n) % n) ((q + j * n) / n)
      → Is L a (partial (cells L row) q j)
      → (T (R.lawful x) → T (R.lawful y) → p ≡ R.mul x y)
      → (T (R.lawful a) → T (R.lawful p) → r ≡ R.add a p)
      → Is L r (partial (cells L row) q (j + 1))
  unfolding act
  value_next m q j row x y a p r fit h ex ly ey ea ep er =
      let ix = Lifts.read_is L row j x (omega (arith, fit.long, fit.small)) ex fit.lawful in
      rw add-one (Lifts.sum_turn L j _ ea ix (word_is q j y ly ey) refl ep er)

  -- one more place is zero
  pub zeros_on : (m q : ℕ) (p : ℕ → Lawful L) (a : E) → Zeros C m q p → Is L a (value C p q) → a ≡ R.zero → Zeros C m (q + 1) p
  zeros_on m q p a zeros is zero r below counts = at (dec_lt r q)
    where
      at : Dec (r < q) → value C p r ≡ (lifted L).𝟘
      at (yes k) = zeros r k counts
      at (no k) = let e' : r ≡ q = omega arith in ap (value C p) e' ∙ to_zero L is zero

  pub not_zero : (a : E) (x : Lawful L) → Is L a x → a ≢ R.zero → x ≢ (lifted L).𝟘
  not_zero a x is here e = here (from_zero L is e)
