-- How a buffer is filled with the words of a run, element by element.
use Rattle.std.specs.Prelude.{◌≡◌, ℕ, ◌+◌, ◌/◌, ◌%◌, ◌<◌, List}
use Rattle.ring.specs.Ring.{Ring}
use Rattle.recurrence.specs.declared.shape.Shape.{Shape}
use Rattle.recurrence.specs.Memory.{at}
use Rattle.recurrence.specs.Words.{words, run}

module _ {E : Type 0} (R : Ring E) (s : Shape) (ws : List E) (L : ℕ) (p : ℕ → E) where
  -- the first q elements of a buffer are the run's from word e on, each word channel by channel
  abbrev pub Filled : List E → ℕ → Type 0
  Filled out q = (j : ℕ) → j < q → at R out j ≡ run R s.count.words (words R s ws) L p (j % s.channels) (s.count.words + j / s.channels)
