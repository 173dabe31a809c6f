-- What a trial reads, when it is refused and when it is not; and what is told by a test at each of some numbers.
use Rattle.std.proofs.Common.{◌≡◌, ℕ, ◌+◌, ◌-◌, ◌<◌, ◌≤◌, Bool, true, false, T, ◌↔◌, List, [], ◌∷◌, length, get_or, inl, inr, subst, sym, ◌∙◌, arith}
use Rattle.std.specs.Bool.{MatchBool}
use Rattle.std.specs.List.{AllWithin, HoldsAt, range_with_len}
use Rattle.std.proofs.lemmas.List.FromFn.{get_or-range_with_len, length-range_with_len}
use Rattle.ring.specs.Ring.{Ring}
use Rattle.ring.specs.declared.Refusal.{Refusal}
use Rattle.ring.specs.declared.Refusal.TheVariants.{Short, Foreign}
use Rattle.ring.specs.Refusals.{Refuses}
use Rattle.recurrence.specs.declared.shape.Shape.{Shape}
use Rattle.recurrence.specs.Lent.{ShortWords, ForeignWords}
use Rattle.memory.proofs.Held.{foreign_words}
use Rattle.cancelling.specs.Trials.{reading}

module _ {E : Type 0} (R : Ring E) (s : Shape) (ws f : List E) where
  -- words that are refused are so for the same reason by the trial
  pub refuses_reading : (e : Refusal) → Refuses ((ShortWords s ws, Short) ∷ (ForeignWords R s ws, Foreign) ∷ []) e → Refuses (reading R s ws f) e
  refuses_reading e (inl x) = inl x
  refuses_reading e (inr (a, inl x)) = inr (a, inl (inl (foreign_words s R ws x.0), x.1))
  refuses_reading e (inr (a, inr (b, x))) = absurd x

-- an answer of `all` over the numbers from a to b tells whether P holds of each
pub told : (P : ℕ → Type 0) (a b : ℕ) (r : Bool)
    → MatchBool r (AllWithin P (range_with_len a (b - a)) 0 (length (range_with_len a (b - a))))
    ((k : ℕ) × (k < length (range_with_len a (b - a))) × HoldsAt (λ i. ¬ P i) (range_with_len a (b - a)) k)
    → T r ↔ ((i : ℕ) → a ≤ i → i < b → P i)
told P a b true all = (
  (λ _ i high low.
      let at : get_or (range_with_len a (b - a)) (i - a) 0 ≡ a + (i - a) = get_or-range_with_len a (b - a) (i - a) 0 (omega arith) in
      let is : a + (i - a) ≡ i = omega arith in
      subst P (at ∙ is) (all (i - a) 0 (omega arith) (omega (arith, length-range_with_len a (b - a))))),
  λ _. tt,
)
told P a b false some =
    let below : some.0 < b - a = omega (arith, some.1, length-range_with_len a (b - a)) in
    (absurd, λ all. some.2 0 (subst P (sym (get_or-range_with_len a (b - a) some.0 0 below)) (all (a + some.0) (omega arith) (omega arith))))
