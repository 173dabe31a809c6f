-- Polynomials in memory, lowest coefficient first, and their values at the places of a capture.
-- A capture of n channels has the places 0, 1, ..: the place q is word q / n, channel q % n.
use Rattle.std.specs.Prelude.{◌≡◌, ℕ, suc, ◌+◌, ◌-◌, ◌*◌, ◌<◌, ◌≤◌, ◌≢◌, List, length}
use Rattle.ring.specs.Ring.{Ring, Laws}
use Rattle.ring.specs.Lawful.{Lawful, Is, lifted, cells, AllLawful}
use Rattle.recurrence.specs.declared.shape.Shape.{Shape}
use Rattle.recurrence.proofs.Captures.{Capture, Below, value, Zeros}
use Rattle.recurrence.proofs.Lift.{capture}
use Rattle.recurrence.specs.Words.{words}

-- how many places count for a polynomial of degree m
abbrev pub places : Shape → ℕ → ℕ
places shape m = (shape.count.words - m) * shape.channels

module _ {E : Type 0} {R : Ring E} (L : Laws R) (shape : Shape) (ws : List E) where
  -- the words held, as a capture over the lawful elements
  abbrev pub capture_of : Capture (Lawful L)
  capture_of = capture L (words R shape ws) shape.channels shape.count.words

  -- a polynomial of degree at most m, in memory with room for degrees up to the number of words
  pub record Row (m : ℕ) (row : List E) : Type 0 where
    pub lawful : AllLawful L row
    pub long : length row ≡ shape.count.words + 1
    pub small : m ≤ shape.count.words
    pub below : Below capture_of (suc m) (cells L row)

  -- q is the first place from the start on where the polynomial is not zero, and a its value there
  pub record Scanned (m : ℕ) (row : List E) (start q : ℕ) (a : E) : Type 0 where
    pub onward : start ≤ q
    pub within : q < places shape m
    pub zeros : Zeros capture_of m q (cells L row)
    pub is : Is L a (value capture_of (cells L row) q)
    pub here : value capture_of (cells L row) q ≢ (lifted L).𝟘
