-- What trying a polynomial by a finding handed in does, as one relation between what it is given and what it leaves.
-- A finding is judged by its form alone: one that is not this capture's is not refused, and the answers are what the definitions make of it.
use Rattle.std.specs.Prelude.{◌≡◌, ℕ, ◌<◌, ◌⊎◌, List, [], ◌∷◌, length, Result}
use Rattle.ring.specs.Ring.{Ring}
use Rattle.ring.specs.declared.Refusal.{Refusal}
use Rattle.ring.specs.declared.Refusal.TheVariants.{Short, Foreign, Stages, Unsettled, Span}
use Rattle.ring.specs.Refusals.{Row, Call}
use Rattle.recurrence.specs.declared.shape.Shape.{Shape}
use Rattle.recurrence.specs.declared.shape.Level.{Level}
use Rattle.recurrence.specs.Memory.{at, Unlawful}
use Rattle.recurrence.specs.Findings.{long, Settled, row, Formed}
use Rattle.recurrence.specs.Lent.{ShortFinding, ForeignFinding}
use Rattle.recurrence.specs.Reductions.{Rest, Coefficients}

module _ {E : Type 0} (R : Ring E) (s : Shape) (levels : List Level) (fm : List E) where
  abbrev pub trying : List E → List Row
  trying f =
      (ShortFinding R s fm, Short)
      ∷ (ForeignFinding R s fm ⊎ Unlawful R f (length f), Foreign)
      ∷ (¬ Formed R s.count.words levels fm, Stages)
      ∷ (¬ Settled s.count.words levels, Unsettled)
      ∷ (256 < length f, Span)
      ∷ []

  -- the polynomial f is tried: its memory then holds a rest of it by this finding, zeros above that to its end,
  -- and the number of coefficients left is answered
  abbrev pub Tried : List E → Result ℕ Refusal → List E → Type 0
  Tried f r f' =
      Call (trying f) r
      (λ n. Rest R (long levels) (row R s.count.words levels fm) (at R f') (at R f) × (length f' ≡ length f) × Coefficients R n (at R f'))
      (f' ≡ f)
