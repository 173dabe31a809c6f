-- A draw that fills a buffer is not refused.
use Rattle.std.proofs.Common.{◌≡◌, ℕ, ◌<◌, List, get_or, Ok, Err, Result, sym, ap, ◌∙◌, ap₂, ⊎_elim, zero-add, arith}
use Rattle.ring.specs.declared.Refusal.{Refusal}
use Rattle.ring.specs.Refusals.{Call}
use Rattle.ring.specs.Ring.{Ring}
use Rattle.recurrence.specs.Memory.{Written}
use Rattle.sources.specs.Makers.{draw_rows}

pub carried_out : {A : Type 0} (n : ℕ) (r : Result A Refusal) (done same : Type 0) → Call (draw_rows n 0 n) r (λ _. done) same → done
carried_out n (Ok a) done same call = call.1
carried_out n (Err e) done same call = absurd (⊎_elim (λ short. short.0 (omega arith)) (λ none. none.1) call.0)

pub at_place : {E : Type 0} (old new : List E) (n : ℕ) (w : ℕ → E) (d : E) → Written old new 0 n w → (i : ℕ) → i < n → get_or new i d ≡ w i
at_place old new n w d written i h = ap (λ (k : ℕ). get_or new k d) (sym (zero-add i)) ∙ written.there i h d

-- one sum, in a kind that goes by two names
pub added : {K E : Type 0} (ring : K → Ring E) {j k : K} {x y u v : E} → j ≡ k → x ≡ u → y ≡ v → (ring j).add x y ≡ (ring k).add u v
added ring {x = x} {y = y} e p q = ap (λ i. (ring i).add x y) e ∙ ap₂ (ring _).add p q
