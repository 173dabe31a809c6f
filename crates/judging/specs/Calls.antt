-- What the calls do that ask something of a finding handed in, each as one relation between what it is given and what it answers.
-- A finding is judged by its form alone: one that is not this capture's is not refused, and the answers are what the definitions make of it.
use Rattle.std.specs.Prelude.{Bool, T, ◌↔◌, List, [], ◌∷◌, Result}
use Rattle.ring.specs.Ring.{Ring}
use Rattle.ring.specs.declared.Refusal.{Refusal}
use Rattle.ring.specs.declared.Refusal.TheVariants.{Short, Foreign, Stages}
use Rattle.ring.specs.Refusals.{Row, Call}
use Rattle.recurrence.specs.declared.shape.Shape.{Shape}
use Rattle.recurrence.specs.declared.shape.Level.{Level}
use Rattle.recurrence.specs.Findings.{Settled, Formed, RunsBack}
use Rattle.recurrence.specs.Lent.{ShortFinding, ForeignFinding}

module _ {E : Type 0} (R : Ring E) (s : Shape) (levels : List Level) (fm : List E) where
  -- why a finding is refused that is only looked at
  abbrev pub asking : List Row
  asking =
      (ShortFinding R s fm, Short)
      ∷ (ForeignFinding R s fm, Foreign)
      ∷ (¬ Formed R s.count.words levels fm, Stages)
      ∷ []

  -- whether the finding is settled
  abbrev pub AskedSettled : Result Bool Refusal → Type 0
  AskedSettled r = Call asking r (λ yes. T yes ↔ Settled s.count.words levels) (Unit {0})

  -- whether the finding can be run back
  abbrev pub AskedRunBack : Result Bool Refusal → Type 0
  AskedRunBack r = Call asking r (λ yes. T yes ↔ RunsBack R s.count.words levels fm) (Unit {0})
