-- The refusals by number, and which of several reasons is answered.
use Rattle.std.specs.Prelude.{◌≡◌, ℕ, Bool, T, ◌⊎◌, List, [], ◌∷◌, Ok, Err, Result}
use Rattle.ring.specs.declared.Refusal.{Refusal}
use Rattle.ring.specs.declared.Refusal.TheVariants.{Base, Depth, Channels, Short, Full, Foreign, Back, Stages, Unsettled, Line, Span}

-- the number by which a refusal is known
abbrev pub number : Refusal → ℕ
number Base = 1
number Depth = 2
number Channels = 3
number Short = 4
number Full = 5
number Foreign = 6
number Back = 7
number Stages = 8
number Unsettled = 9
number Line = 10
number Span = 11

-- a reason to refuse: when it holds, and what is then answered
abbrev pub Row : Type 1
Row = Type 0 × Refusal

-- no row fits
abbrev pub Passes : List Row → Type 0
Passes [] = Unit {0}
Passes (row ∷ rows) = (¬ row.0) × Passes rows

-- e has the number of the first row that fits
abbrev pub Refuses : List Row → Refusal → Type 0
Refuses [] e = ⊥
Refuses (row ∷ rows) e = (row.0 × (number e ≡ number row.1)) ⊎ ((¬ row.0) × Refuses rows e)

-- a call with these rows: where none fits it is carried out, and done holds of its answer; else the first that fits is answered, and same holds
abbrev pub Call : {A : Type 0} → List Row → Result A Refusal → (A → Type 0) → Type 0 → Type 0
Call rows (Ok a) done same = Passes rows × done a
Call rows (Err e) done same = Refuses rows e × same

-- tests already made, as rows
abbrev pub tests : List (Bool × Refusal) → List Row
tests [] = []
tests (row ∷ rows) = (T row.0, row.1) ∷ tests rows
