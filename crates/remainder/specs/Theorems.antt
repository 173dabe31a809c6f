-- What the calls tell of the words held, over every kind.
use Rattle.std.specs.Prelude.{◌≡◌, ℕ, ◌≤◌, ◌↔◌, List, length, Ok, Result}
use Rattle.ring.specs.Ring.{Ring}
use Rattle.ring.specs.declared.Refusal.{Refusal}
use Rattle.recurrence.specs.declared.shape.Shape.{Shape}
use Rattle.recurrence.specs.declared.shape.Level.{Level}
use Rattle.recurrence.specs.Memory.{at, Unlawful}
use Rattle.recurrence.specs.Polynomials.{Zero}
use Rattle.recurrence.specs.Findings.{Settled, CancelsRunOf}
use Rattle.recurrence.specs.Theorems.{Stands}
use Rattle.recurrence.specs.Lent.{ShortFinding}
use Rattle.remainder.specs.Calls.{Tried}

module _ {E : Type 0} (R : Ring E) where
  -- By a settled finding of the words S, a polynomial of lawful elements and at most 256 coefficients is tried without refusal, whatever it is;
  -- and what is left of it is nothing exactly if it cancels the run.
  abbrev pub TryTells : Type 0
  TryTells = (s : Shape) (levels : List Level) (fm : List E) (S : ℕ → ℕ → E)
      → Stands R s.channels s.count.words S levels fm → Settled s.count.words levels → (¬ ShortFinding R s fm)
      → (f f' : List E) (r : Result ℕ Refusal) → (¬ Unlawful R f (length f)) → length f ≤ 256 → Tried R s levels fm f r f'
      → ((n : ℕ) × (r ≡ Ok n))
      × ((r ≡ Ok 0) ↔ CancelsRunOf R s.count.words levels fm s.channels S (at R f))
      × (Zero R (at R f') ↔ CancelsRunOf R s.count.words levels fm s.channels S (at R f))
