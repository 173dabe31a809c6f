-- What is known of one level before and after its polynomial of a degree is met with the store.
use Rattle.std.specs.Prelude.{◌≡◌, ℕ, suc, ◌+◌, ◌*◌, ◌<◌, ◌≤◌, true, false, ◌≢◌, List, take, drop}
use Rattle.ring.specs.Ring.{Ring, Laws}
use Rattle.ring.specs.Lawful.{lifted, cells, AllLawful, level_of}
use Rattle.recurrence.specs.declared.shape.Shape.{Shape}
use Rattle.recurrence.specs.declared.shape.Level.{Level}
use Rattle.recurrence.proofs.Captures.{Monic, value, Zeros}
use Rattle.recurrence.proofs.Reductions.{Answer}
use Rattle.recurrence.proofs.Complete.{NoneBelow}
use Rattle.places.specs.Places.{places, capture_of}
use Rattle.elimination.specs.Stores.{kept_level}

-- the row of level i in finding memory
abbrev pub row_of : {E : Type 0} → Shape → List E → ℕ → List E
row_of shape fm i = take (shape.count.words + 1) (drop (i * (shape.count.words + 1)) fm)

module _ {E : Type 0} {R : Ring E} (L : Laws R) (shape : Shape) (ws : List E) where
  -- found: the row is the shortest polynomial of its level, of degree at most s
  pub record Found (s i : ℕ) (row : List E) (length : ℕ) : Type 0 where
    pub lawful : AllLawful L row
    pub answer : Answer (capture_of L shape ws) i length (cells L row)
    pub small : length ≤ s

  -- before degree s: the row is a polynomial of degree s, zero before the place, and no shorter one of its level cancels
  pub record Open (s i : ℕ) (row : List E) (place : ℕ) : Type 0 where
    pub lawful : AllLawful L row
    pub monic : Monic (capture_of L shape ws) i s (cells L row)
    pub within : place ≤ places shape s
    pub zeros : Zeros (capture_of L shape ws) s place (cells L row)
    pub none : NoneBelow (capture_of L shape ws) i s

  -- after degree s: the row is zero before the place and not zero there, and none of its level up to degree s cancels
  pub record Stopped (s i : ℕ) (row : List E) (place : ℕ) : Type 0 where
    pub lawful : AllLawful L row
    pub monic : Monic (capture_of L shape ws) i s (cells L row)
    pub within : place < places shape s
    pub zeros : Zeros (capture_of L shape ws) s place (cells L row)
    pub here : value (capture_of L shape ws) (cells L row) place ≢ (lifted L).𝟘
    pub none : NoneBelow (capture_of L shape ws) i (suc s)

  pub record Before (s i : ℕ) (row : List E) (level : Level) (place : ℕ) : Type 0 where
    pub done : level.found ≡ true → Found s i row level.length
    pub going : level.found ≡ false → Open s i row place

  pub record After (s i : ℕ) (row : List E) (level : Level) (place : ℕ) : Type 0 where
    pub done : level.found ≡ true → Found s i row level.length
    pub stopped : level.found ≡ false → Stopped s i row place

  -- what is kept at the place does not divide the row's value there
  abbrev pub Less : List E → Level → ℕ → List E → Type 0
  Less row level place store = level.found ≡ false → level_of L (value (capture_of L shape ws) (cells L row) place) < kept_level L shape store place

  -- what is kept at the place divides it
  abbrev pub Served : List E → Level → ℕ → List E → Type 0
  Served row level place store = level.found ≡ false → kept_level L shape store place ≤ level_of L (value (capture_of L shape ws) (cells L row) place)
