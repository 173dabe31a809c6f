-- What running on from a finding handed in does, as one relation between what it is given and what it leaves.
-- A finding is judged by its form alone: one that is not this capture's is not refused, and the answers are what the definitions make of it.
use Rattle.std.specs.Prelude.{◌≡◌, ℕ, ◌+◌, ◌*◌, ◌%◌, ◌<◌, ◌≢◌, ◌⊎◌, List, [], ◌∷◌, length, Result}
use Rattle.ring.specs.Ring.{Ring}
use Rattle.ring.specs.declared.Refusal.{Refusal}
use Rattle.ring.specs.declared.Refusal.TheVariants.{Channels, Short, Foreign, Stages}
use Rattle.ring.specs.Refusals.{Row, Call}
use Rattle.recurrence.specs.declared.shape.Shape.{Shape}
use Rattle.recurrence.specs.declared.shape.Level.{Level}
use Rattle.recurrence.specs.Memory.{at}
use Rattle.recurrence.specs.Words.{words}
use Rattle.recurrence.specs.Findings.{Formed, run_of}
use Rattle.recurrence.specs.Lent.{ShortWords, ForeignWords, ShortFinding, ForeignFinding}

module _ {E : Type 0} (R : Ring E) (s : Shape) (levels : List Level) (fm : List E) where
  abbrev pub running_on : List E → List E → List Row
  running_on ws out =
      (length out % s.channels ≢ 0, Channels)
      ∷ (ShortWords s ws ⊎ ShortFinding R s fm, Short)
      ∷ (ForeignWords R s ws ⊎ ForeignFinding R s fm, Foreign)
      ∷ (¬ Formed R s.count.words levels fm, Stages)
      ∷ []

  -- the run is continued: the whole buffer is filled with its words e, e + 1, .., each channel by channel
  abbrev pub RanOn : List E → List E → Result Unit Refusal → List E → Type 0
  RanOn ws out r out' =
      Call (running_on ws out) r
      (λ _. (length out' ≡ length out)
      × ((t c : ℕ) → c < s.channels → t * s.channels + c < length out
      → at R out' (t * s.channels + c) ≡ run_of R s.count.words levels fm (words R s ws) c (s.count.words + t)))
      (out' ≡ out)
