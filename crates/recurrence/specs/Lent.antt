-- Memory that is handed in and lacks something: room, or elements that are lawful.
use Rattle.std.specs.Prelude.{List, ◌*◌, ◌<◌, length}
use Rattle.ring.specs.Ring.{Ring}
use Rattle.recurrence.specs.declared.shape.Shape.{Shape}
use Rattle.recurrence.specs.Memory.{Unlawful}
use Rattle.recurrence.specs.Words.{words, LawfulWords}
use Rattle.recurrence.specs.Findings.{extent}

-- the memory of the words has not the room of the capacity
abbrev pub ShortWords : {E : Type 0} → Shape → List E → Type 0
ShortWords s ws = length ws < s.capacity * s.channels

module _ {E : Type 0} (R : Ring E) (s : Shape) where
  -- a word held has an element that is not lawful
  abbrev pub ForeignWords : List E → Type 0
  ForeignWords ws = ¬ LawfulWords R s.channels s.count.words (words R s ws)

  -- the memory of the finding is smaller than a finding
  abbrev pub ShortFinding : List E → Type 0
  ShortFinding fm = length fm < extent R s.count.words

  -- the finding has an element that is not lawful
  abbrev pub ForeignFinding : List E → Type 0
  ForeignFinding fm = Unlawful R fm (extent R s.count.words)
