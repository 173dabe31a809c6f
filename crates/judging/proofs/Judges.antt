-- A finding that the judge refuses is refused for the same reason by a call with more reasons.
use Rattle.std.proofs.Common.{◌↔◌, List, [], ◌∷◌, inl, inr}
use Rattle.ring.specs.declared.Refusal.{Refusal}
use Rattle.ring.specs.declared.Refusal.TheVariants.{Short, Foreign, Stages}
use Rattle.ring.specs.Refusals.{Row, Refuses}

pub refuses_as : (short short' foreign foreign' misformed : Type 0) (rows : List {1} Row) (e : Refusal) → short ↔ short' → foreign ↔ foreign'
    → Refuses ((short, Short) ∷ (foreign, Foreign) ∷ (misformed, Stages) ∷ []) e
    → Refuses ((short', Short) ∷ (foreign', Foreign) ∷ (misformed, Stages) ∷ rows) e
refuses_as short short' foreign foreign' misformed rows e s f (inl x) = inl (s.0 x.0, x.1)
refuses_as short short' foreign foreign' misformed rows e s f (inr (a, inl x)) = inr ((λ z. a (s.1 z)), inl (f.0 x.0, x.1))
refuses_as short short' foreign foreign' misformed rows e s f (inr (a, inr (b, inl x))) = inr ((λ z. a (s.1 z)), inr ((λ z. b (f.1 z)), inl x))
refuses_as short short' foreign foreign' misformed rows e s f (inr (a, inr (b, inr (c, x)))) = absurd x
