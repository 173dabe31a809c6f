-- Kinds that are made of numbers in a line.
use Rattle.std.specs.Prelude.{ℕ, ◌⊎◌, List, Some, None, Ok, Err, Result}
use Rattle.ring.specs.declared.Refusal.{Refusal}
use Rattle.lines.specs.Lines.{Reads}
use Rattle.vectors.specs.declared.Failure.{Failure}
use Rattle.vectors.specs.declared.Failure.TheVariants.{Unreadable, Refused, System}

-- two numbers are read, and these are they
abbrev pub Two : (line rest : List ℕ) (base depth : ℕ) → Type 0
Two line rest base depth = (between : List ℕ) × Reads line between (Some base) × Reads between rest (Some depth)

-- one of two numbers is not read
abbrev pub Lacks : (line rest : List ℕ) → Type 0
Lacks line rest = Reads line rest None ⊎ ((between : List ℕ) × (base : ℕ) × Reads line between (Some base) × Reads between rest None)

-- a base and a depth are read, and what is made of them is answered; unreadable without them
abbrev pub Made : {K : Type 0} → (ℕ → ℕ → Result K Refusal → Type 0) → (line rest : List ℕ) → Result K Failure → Type 0
Made made line rest (Ok kind) = (base : ℕ) × (depth : ℕ) × Two line rest base depth × made base depth (Ok kind)
Made made line rest (Err (Refused e)) = (base : ℕ) × (depth : ℕ) × Two line rest base depth × made base depth (Err e)
Made made line rest (Err Unreadable) = Lacks line rest
Made made line rest (Err (System e)) = ⊥
