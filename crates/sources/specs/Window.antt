-- The values of a delay line.
use Rattle.std.specs.Prelude.{ℕ, List, ◌++◌, take, drop}
use Rattle.sources.specs.declared.delay.DelayLine.{DelayLine}

-- a list from a place on, and then its beginning
unfoldable pub turned : {A : Type 0} → ℕ → List A → List A
turned at xs = drop at xs ++ take at xs

-- the values in the first n cells, the oldest first: it lies at a place of theirs, or at the first for a place past them
abbrev pub window : {A : Type 0} → List A → ℕ → ℕ → List A
window cells n at = turned at (take n cells)

-- the values of a line, the oldest first
abbrev pub values : {A : Type 0} → DelayLine A → List A
values line = window line.cells.now line.len line.at

-- the cells past those of a line
abbrev pub beyond : {A : Type 0} → DelayLine A → List A
beyond line = drop line.len line.cells.now
