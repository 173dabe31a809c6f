-- Which row is the first that fits, from the tests one by one.
use Rattle.std.proofs.Common.{◌≡◌, Bool, true, false, List, Some, None, [], ◌∷◌, inl, inr, arith}
use Rattle.std.specs.List.{find}
use Rattle.ring.specs.declared.Refusal.{Refusal}
use Rattle.ring.specs.Refusals.{Row, Passes, Refuses, tests}

-- no test holds
pub passes : (rows : List (Bool × Refusal)) → find (λ test. test.0) rows ≡ None → Passes (tests rows)
passes [] e = tt
passes ((true, r) ∷ rows) e = absurd (grind (arith, e))
passes ((false, r) ∷ rows) e = ((λ t. t), passes rows e)

-- the first test that holds is that of row
pub refuses : (rows : List (Bool × Refusal)) (row : Bool × Refusal) → find (λ test. test.0) rows ≡ Some row → Refuses (tests rows) row.1
refuses [] row e = absurd (grind (arith, e))
refuses ((true, r) ∷ rows) row e = inl (tt, grind (arith, e))
refuses ((false, r) ∷ rows) row e = inr ((λ t. t), refuses rows row e)

-- what passes is not refused
pub passes_refuses : (rows : List {1} Row) (e : Refusal) → Passes rows → Refuses rows e → ⊥
passes_refuses [] e p r = r
passes_refuses (row ∷ rows) e p (inl x) = p.0 x.0
passes_refuses (row ∷ rows) e p (inr x) = passes_refuses rows e p.1 x.1
