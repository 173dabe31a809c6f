-- What find does, as one relation between what it is given and what it leaves.
use Rattle.std.specs.Prelude.{◌≡◌, ℕ, ◌+◌, ◌*◌, ◌<◌, ◌≤◌, ◌⊎◌, List, [], ◌∷◌, length, Result}
use Rattle.ring.specs.Ring.{Ring}
use Rattle.ring.specs.declared.Refusal.{Refusal}
use Rattle.ring.specs.declared.Refusal.TheVariants.{Short, Foreign}
use Rattle.ring.specs.Refusals.{Row, Call}
use Rattle.recurrence.specs.declared.shape.Shape.{Shape}
use Rattle.recurrence.specs.declared.shape.Level.{Level}
use Rattle.recurrence.specs.Memory.{at}
use Rattle.recurrence.specs.Words.{words}
use Rattle.recurrence.specs.Findings.{extent, Finding}
use Rattle.recurrence.specs.Lent.{ShortWords, ForeignWords, ShortFinding}

module _ {E : Type 0} (R : Ring E) (s : Shape) where
  -- how many elements work memory has
  abbrev pub work_size : ℕ
  work_size = (s.count.words * s.channels + 2 * R.depth + 12) * (s.count.words + s.channels + 1)

  -- why a find is refused
  abbrev pub seeking : List E → List E → List E → List Row
  seeking ws fm work =
      (ShortWords s ws ⊎ (ShortFinding R s fm ⊎ (length work < work_size)), Short)
      ∷ (ForeignWords R s ws, Foreign)
      ∷ []

  -- The finding of the words held is found: record and memory hold it, past it the memory is as it was, and work memory may hold anything.
  -- Refused, all three are as they were.
  abbrev pub Sought : (ws : List E) (levels : List Level) (fm work : List E) → Result Unit Refusal → (levels' : List Level) (fm' work' : List E) → Type 0
  Sought ws levels fm work r levels' fm' work' =
      Call (seeking ws fm work) r
      (λ _. Finding R s.count.words levels' fm' s.channels (words R s ws)
      × (length fm' ≡ length fm) × ((j : ℕ) → extent R s.count.words ≤ j → at R fm' j ≡ at R fm j) × (length work' ≡ length work))
      ((levels' ≡ levels) × (fm' ≡ fm) × (work' ≡ work))
