-- What registers and loops refuse, and the lists that they have.
use Rattle.std.specs.Prelude.{◌≡◌, ℕ, ◌+◌, ◌-◌, ◌%◌, ◌<◌, cond, ◌≢◌, ◌⊎◌, List, [], ◌∷◌, length, ◌==◌}
use Rattle.ring.specs.declared.Refusal.{Refusal}
use Rattle.ring.specs.declared.Refusal.TheVariants.{Short, Foreign, Stages, Span}
use Rattle.ring.specs.Refusals.{Row, Passes, Refuses}
use Rattle.ring.specs.Ring.{Ring, Laws}
use Rattle.ring.specs.Commutative.{sum}
use Rattle.ring.specs.Lawful.{Lawful, lifted, cells}
use Rattle.recurrence.specs.Memory.{at, Unlawful}
use Rattle.recurrence.specs.Polynomials.{Obeys}
use Rattle.recurrence.proofs.Polynomials.{run}

-- the most stages of a register
abbrev pub most : ℕ
most = 128

-- how many stages a register of these coefficients has
abbrev pub degree : {E : Type 0} → List E → ℕ
degree coefficients = length coefficients - 1

module _ {E : Type 0} (R : Ring E) where
  -- short: fewer cells than stages; foreign: a coefficient or a first element that is not lawful; stages: no coefficient, a last one that is not one, or too many
  abbrev pub register_rows : List E → List E → List Row
  register_rows coefficients stages =
      (length stages < degree coefficients, Short)
      ∷ (Unlawful R coefficients (length coefficients) ⊎ Unlawful R stages (degree coefficients), Foreign)
      ∷ ((length coefficients ≡ 0) ⊎ (at R coefficients (degree coefficients) ≢ R.one) ⊎ (most < degree coefficients), Stages)
      ∷ []

  abbrev pub loop_rows : List E → List Row
  loop_rows elements = (Unlawful R elements (length elements), Foreign) ∷ (length elements ≡ 0, Span) ∷ []

  -- y^m - 1
  abbrev pub cyclic : ℕ → ℕ → E
  cyclic m j = cond (j == 0) (R.sub R.zero R.one) (cond (j == m) R.one R.zero)

  -- a register of these coefficients and first elements has the list w: it begins with the elements and obeys the polynomial; of what is refused it has zeros
  pub record Registers (coefficients stages : List E) (w : ℕ → E) : Type 0 where
    pub begins : Passes (register_rows coefficients stages) → (j : ℕ) → j < degree coefficients → w j ≡ at R stages j
    pub obeys : Passes (register_rows coefficients stages) → Obeys R (degree coefficients) (at R coefficients) w
    pub refused : (e : Refusal) → Refuses (register_rows coefficients stages) e → (t : ℕ) → w t ≡ R.zero

  -- a loop of these elements has the list w: it repeats them, and obeys y^m - 1, m their number; of what is refused it has zeros
  pub record Repeats (elements : List E) (w : ℕ → E) : Type 0 where
    pub repeats : Passes (loop_rows elements) → (t : ℕ) → w t ≡ at R elements (t % length elements)
    pub obeys : Passes (loop_rows elements) → Obeys R (length elements) (cyclic (length elements)) w
    pub refused : (e : Refusal) → Refuses (loop_rows elements) e → (t : ℕ) → w t ≡ R.zero

module _ {E : Type 0} {R : Ring E} (L : Laws R) where
  -- the sum of the values, each times its coefficient
  abbrev pub dot : List E → List E → Lawful L
  dot coefficients values = sum (lifted L) (length values) (λ j. (lifted L).◌⊗◌ (cells L coefficients j) (cells L values j))

  -- the values, continued: each later element is minus the sum of the coefficients times as many elements before it as there are values
  abbrev pub continued : List E → List E → ℕ → E
  continued coefficients values t = (run (lifted L) (length values) (cells L coefficients) (length values) (cells L values) t).0

  -- the elements from a place on, again and again
  abbrev pub repeated : List E → ℕ → ℕ → E
  repeated elements place t = (cells L elements ((place + t) % length elements)).0
