-- What a continued run foretells, over every kind.
use Rattle.std.specs.Prelude.{◌≡◌, ℕ, ◌+◌, ◌*◌, ◌%◌, ◌<◌, ◌≤◌, List, length, Ok, Result}
use Rattle.ring.specs.Ring.{Ring}
use Rattle.ring.specs.declared.Refusal.{Refusal}
use Rattle.recurrence.specs.declared.shape.Shape.{Shape}
use Rattle.recurrence.specs.declared.shape.Level.{Level}
use Rattle.recurrence.specs.Memory.{at}
use Rattle.recurrence.specs.Polynomials.{Lawful, Obeys}
use Rattle.recurrence.specs.Words.{words}
use Rattle.recurrence.specs.Theorems.{Stands}
use Rattle.recurrence.specs.Lent.{ShortWords, ShortFinding}
use Rattle.continuation.specs.Calls.{RanOn}

module _ {E : Type 0} (R : Ring E) where
  -- If the words held are of lists w, one a channel, that obey a monic polynomial of degree D, and number 2D or more, then by their finding
  -- run on is not refused for any buffer that divides into words, and fills it with the lists' later words.
  abbrev pub RunOnForetells : Type 0
  RunOnForetells = (s : Shape) (levels : List Level) (fm ws : List E)
      → Stands R s.channels s.count.words (words R s ws) levels fm → (¬ ShortWords s ws) → (¬ ShortFinding R s fm)
      → (w : ℕ → ℕ → E) (D : ℕ) (q : ℕ → E) → 2 * D ≤ s.count.words
      → ((c : ℕ) → c < s.channels → Lawful R (w c) × Obeys R D q (w c)) → ((k c : ℕ) → k < s.count.words → c < s.channels → words R s ws c k ≡ w c k)
      → (out out' : List E) (r : Result Unit Refusal) → length out % s.channels ≡ 0 → RanOn R s levels fm ws out r out'
      → (r ≡ Ok tt) × ((t c : ℕ) → c < s.channels → t * s.channels + c < length out → at R out' (t * s.channels + c) ≡ w c (s.count.words + t))
