-- The store: for each place of a capture at most one polynomial, and its value there.
-- It is memory of rows of e + 2 elements, e the number of words: row q has the polynomial kept for the place q, and then its value. A zero value means that none is kept.
use Rattle.std.specs.Prelude.{◌≡◌, ℕ, suc, ◌+◌, ◌*◌, ◌<◌, ◌≤◌, ◌≢◌, List, length, take, drop, Option, MatchOption}
use Rattle.ring.specs.Ring.{Ring, Laws}
use Rattle.ring.specs.Lawful.{Lawful, lifted, cells, AllLawful, level_of}
use Rattle.recurrence.specs.declared.shape.Shape.{Shape}
use Rattle.recurrence.proofs.Captures.{Below, value, Zeros}
use Rattle.places.specs.Places.{places, capture_of, Row}

module _ {E : Type 0} {R : Ring E} (L : Laws R) (shape : Shape) (store : List E) (q : ℕ) where
  abbrev pub kept_row : List E
  kept_row = take (shape.count.words + 1) (drop (q * (shape.count.words + 2)) store)

  abbrev pub kept_value : Lawful L
  kept_value = cells L store (q * (shape.count.words + 2) + (shape.count.words + 1))

  -- the valuation kept: the depth where nothing is kept
  abbrev pub kept_level : ℕ
  kept_level = level_of L kept_value

module _ {E : Type 0} {R : Ring E} (L : Laws R) (shape : Shape) (ws : List E) where
  -- g, of degree below m, is zero before the place q, and a there
  pub record Kept (m q : ℕ) (g : ℕ → Lawful L) (a : Lawful L) : Type 0 where
    pub below : Below (capture_of L shape ws) m g
    pub zeros : (r : ℕ) → r < q → value (capture_of L shape ws) g r ≡ (lifted L).𝟘
    pub is : a ≡ value (capture_of L shape ws) g q

  -- all that is kept has degree below m
  pub record Store (m : ℕ) (store : List E) : Type 0 where
    pub lawful : AllLawful L store
    pub size : shape.count.words * shape.channels * (shape.count.words + 2) ≡ length store
    pub kept : (q : ℕ) → Kept m q (cells L (kept_row L shape store q)) (kept_value L shape store q)

  -- the polynomial in row is zero before the place q and not zero there, and nothing kept there has a value that divides its own
  pub record StuckAt (m : ℕ) (row store : List E) (q : ℕ) : Type 0 where
    pub within : q < places shape m
    pub zeros : Zeros (capture_of L shape ws) m q (cells L row)
    pub here : value (capture_of L shape ws) (cells L row) q ≢ (lifted L).𝟘
    pub less : level_of L (value (capture_of L shape ws) (cells L row) q) < kept_level L shape store q

  -- what is kept has degree below m, and at each place it divides what was kept there before
  pub record Grown (m : ℕ) (old new : List E) : Type 0 where
    pub store : Store m new
    pub smaller : (q : ℕ) → kept_level L shape new q ≤ kept_level L shape old q

  -- What the two functions that meet a row with the store ask and give.
  pub record ToEliminate (m from : ℕ) (p store : List E) : Type 0 where
    pub row : Row L shape ws m p
    pub kept : Store m store
    pub start : from ≤ places shape m
    pub zeros : Zeros (capture_of L shape ws) m from (cells L p)

  -- what is left is stuck, or cancels the words
  pub record Eliminated (m : ℕ) (p new store : List E) (place : Option ℕ) : Type 0 where
    pub row : Row L shape ws m new
    pub top : cells L new m ≡ cells L p m
    pub ends : MatchOption place (Zeros (capture_of L shape ws) m (places shape m) (cells L new)) (λ q. StuckAt m new store q)

  pub record ToKeep (m q : ℕ) (p store : List E) : Type 0 where
    pub kept : Store (suc m) store
    pub place : q < places shape m
    pub zeros : Zeros (capture_of L shape ws) m q (cells L p)

  pub record KeptOne (m q : ℕ) (p old new : List E) : Type 0 where
    pub grown : Grown (suc m) old new
    pub here : kept_level L shape new q ≤ level_of L (value (capture_of L shape ws) (cells L p) q)
