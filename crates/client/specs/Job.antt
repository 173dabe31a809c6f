-- What a job foretells.
use Rattle.std.specs.Prelude.{◌≡◌, ℕ, ◌+◌, ◌*◌, ◌<◌, ◌≤◌, List, length, Ok, Err, Result}
use Rattle.ring.specs.Ring.{Ring}
use Rattle.ring.specs.declared.Refusal.{Refusal}
use Rattle.recurrence.specs.Memory.{at}
use Rattle.recurrence.specs.Polynomials.{Obeys}

-- unless refused: if the list w obeys a monic polynomial of degree at most half of m, then next has its elements from place m on
abbrev pub Foreseen : {E : Type 0} → Ring E → (ℕ → E) → ℕ → Result Unit Refusal → List E → Type 0
Foreseen {E} R w m (Ok _) next = (D : ℕ) (q : ℕ → E) → Obeys R D q w → 2 * D ≤ m → (t : ℕ) → t < length next → at R next t ≡ w (m + t)
Foreseen {E} R w m (Err _) next = Unit {0}
