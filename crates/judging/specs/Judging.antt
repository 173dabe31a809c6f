-- How a finding handed in is judged, whatever call it is for.
use Rattle.std.specs.Prelude.{◌≤◌, Bool, T, ◌⊎◌, List, [], ◌∷◌, length}
use Rattle.ring.specs.Ring.{Ring}
use Rattle.ring.specs.declared.Refusal.TheVariants.{Short, Foreign, Stages}
use Rattle.ring.specs.Refusals.{Row}
use Rattle.recurrence.specs.declared.shape.Shape.{Shape}
use Rattle.recurrence.specs.declared.shape.Level.{Level}
use Rattle.recurrence.specs.Memory.{Unlawful}
use Rattle.recurrence.specs.Findings.{extent, Formed}
use Rattle.recurrence.specs.Lent.{ShortFinding, ForeignFinding}

module _ {E : Type 0} (R : Ring E) (s : Shape) (levels : List Level) (fm : List E) where
  -- why a finding is refused; `lawful` tells whether all else that the call reads is lawful
  abbrev pub judging : Bool → List Row
  judging lawful =
      (ShortFinding R s fm, Short)
      ∷ (ForeignFinding R s fm ⊎ (¬ T lawful), Foreign)
      ∷ (¬ Formed R s.count.words levels fm, Stages)
      ∷ []

  -- a finding that is not refused
  pub record Sound : Type 0 where
    pub room : extent R s.count.words ≤ length fm
    pub lawful : ¬ Unlawful R fm (extent R s.count.words)
    pub formed : Formed R s.count.words levels fm
