-- A finding that the judge refuses is refused for the same reason by the call that tries a polynomial.
use Rattle.std.proofs.Common.{◌<◌, Bool, T, ◌⊎◌, List, [], ◌∷◌, length, inl, inr, ⊎_elim}
use Rattle.ring.specs.Ring.{Ring}
use Rattle.ring.specs.declared.Refusal.{Refusal}
use Rattle.ring.specs.declared.Refusal.TheVariants.{Unsettled, Span}
use Rattle.ring.specs.Refusals.{Refuses}
use Rattle.recurrence.specs.declared.shape.Shape.{Shape}
use Rattle.recurrence.specs.declared.shape.Level.{Level}
use Rattle.recurrence.specs.Memory.{Unlawful}
use Rattle.recurrence.specs.Findings.{Formed, Settled}
use Rattle.recurrence.specs.Lent.{ShortFinding, ForeignFinding}
use Rattle.judging.specs.Judging.{judging}
use Rattle.judging.proofs.Judges.{refuses_as}
use Rattle.remainder.specs.Calls.{trying}

module _ {E : Type 0} (R : Ring E) (s : Shape) (levels : List Level) (fm : List E) (e : Refusal) where
  pub refuses_trying : (f : List E) (lawful : Bool) → (T lawful → ¬ Unlawful R f (length f)) → (¬ T lawful → Unlawful R f (length f))
      → Refuses (judging R s levels fm lawful) e → Refuses (trying R s levels fm f) e
  refuses_trying f lawful right wrong =
      refuses_as (ShortFinding R s fm) (ShortFinding R s fm) (ForeignFinding R s fm ⊎ (¬ T lawful)) (ForeignFinding R s fm ⊎ Unlawful R f (length f)) (¬ Formed R s.count.words levels fm)
      ((¬ Settled s.count.words levels, Unsettled) ∷ (256 < length f, Span) ∷ []) e
      ((λ z. z), λ z. z) (⊎_elim inl (λ z. inr (wrong z)), ⊎_elim inl (λ z. inr (λ t. right t z)))
