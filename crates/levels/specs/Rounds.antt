-- All levels before and after a degree, and what each part of a round asks and gives.
use Rattle.std.specs.Prelude.{◌≡◌, ℕ, ◌+◌, ◌*◌, ◌<◌, ◌≤◌, true, List, length, get_or, slice_index, slice_index_or}
use Rattle.ring.specs.Ring.{Ring, Laws}
use Rattle.recurrence.specs.declared.shape.Shape.{Shape}
use Rattle.recurrence.specs.declared.shape.Level.{Level}
use Rattle.recurrence.specs.Findings.{blank}
use Rattle.recurrence.proofs.Complete.{Complete}
use Rattle.places.specs.Places.{capture_of}
use Rattle.elimination.specs.Stores.{Store, kept_level}
use Rattle.levels.specs.Levels.{row_of, Found, Before, After, Less}

module _ {E : Type 0} {R : Ring E} (L : Laws R) (shape : Shape) (ws : List E) where
  -- the store is complete before degree s
  abbrev pub Whole : ℕ → List E → Type 0
  Whole s store = Complete (capture_of L shape ws) s (kept_level L shape store)

  module _ (fm : List E) (levels : List Level) (places : List ℕ) where
    -- the tables have a place for each level, the memory a row; from the depth on nothing is found
    pub record Tables : Type 0 where
      pub size : R.depth * (shape.count.words + 1) ≡ length fm
      pub room : length levels ≡ 31
      pub place_room : length places ≡ 31
      pub rest : (i : ℕ) → R.depth ≤ i → slice_index_or levels i blank ≡ blank

    abbrev pub AllBefore : ℕ → Type 0
    AllBefore s = (i : ℕ) → i < R.depth → Before L shape ws s i (row_of shape fm i) (slice_index_or levels i blank) (slice_index places i)

    abbrev pub AllAfter : ℕ → Type 0
    AllAfter s = (i : ℕ) → i < R.depth → After L shape ws s i (row_of shape fm i) (slice_index_or levels i blank) (slice_index places i)

    abbrev pub AllLess : List E → Type 0
    AllLess store = (i : ℕ) → i < R.depth → Less L shape ws (row_of shape fm i) (slice_index_or levels i blank) (slice_index places i) store

    -- before degree s
    pub record Ready (s : ℕ) (store : List E) : Type 0 where
      pub tables : Tables
      pub kept : Store L shape ws s store
      pub whole : Whole s store
      pub before : AllBefore s

    pub record Reduced (s : ℕ) (store : List E) : Type 0 where
      pub tables : Tables
      pub after : AllAfter s
      pub less : AllLess store

  -- what a round at degree s asks
  pub record ToReduce (s : ℕ) (fm : List E) (levels : List Level) (places : List ℕ) (store : List E) : Type 0 where
    pub small : s ≤ shape.count.words
    pub ready : Ready fm levels places s store

  pub record ToKeepAll (s : ℕ) (fm : List E) (levels : List Level) (places : List ℕ) (store : List E) : Type 0 where
    pub small : s ≤ shape.count.words
    pub kept : Store L shape ws s store
    pub whole : Whole s store
    pub reduced : Reduced fm levels places s store

  -- every level below the depth is found, and from there on none
  pub record Solved (fm : List E) (levels : List Level) : Type 0 where
    pub marked : (i : ℕ) → i < R.depth → (get_or levels i blank).found ≡ true
    pub found : (i : ℕ) → i < R.depth → Found L shape ws shape.count.words i (row_of shape fm i) (get_or levels i blank).length
    pub rest : (i : ℕ) → R.depth ≤ i → slice_index_or levels i blank ≡ blank

  -- memory of the right size for the whole
  pub record ToSolve (fm store : List E) : Type 0 where
    pub size : R.depth * (shape.count.words + 1) ≡ length fm
    pub store_size : shape.count.words * shape.channels * (shape.count.words + 2) ≡ length store
