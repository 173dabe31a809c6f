-- The run, word by word: it begins with the words, goes on by its polynomial, and nothing else does both.
use mathlib.Core.Path.{◌≡◌, refl, sym, ap, ap₂, ◌∙◌}
use mathlib.Core.Bool.{cond}
use Prim.Native.Nat.{ℕ, zero, suc, ◌+◌, ◌-◌, ◌<◌, ◌≤◌}
use native.Mathlib.Decide.{dec_lt}
use native.Mathlib.Omega.{arith}
use borrow.Author.Tests.{lt-ltb, le-ltb}
use Rattle.ring.specs.Ring.{Ring, Laws, sum}
use Rattle.ring.specs.Lawful.{Is, lifted, hold}
use Rattle.ring.proofs.Lifts as Lifts
use Rattle.ring.proofs.Sums as Sums
use Rattle.ring.proofs.Strong.{strong}
use Rattle.recurrence.specs.Polynomials.{Lawful}
use Rattle.recurrence.specs.Words.{LawfulWords, turns, run}
use Rattle.recurrence.proofs.Polynomials.{run as runˡ}
use Rattle.recurrence.proofs.Recurrences as Rec
use Rattle.recurrence.proofs.Bridge as Bridge

pub sum_same : {E : Type 0} (R : Ring E) (n : ℕ) (f g : ℕ → E) → ((j : ℕ) → j < n → f j ≡ g j) → sum R n f ≡ sum R n g
unfolding sum
sum_same R zero f g h = refl
sum_same R (suc n) f g h = ap₂ R.add (sum_same R n f g (λ j b. h j (omega arith))) (h n (omega arith))

module _ {E : Type 0} (R : Ring E) (e : ℕ) (S : ℕ → ℕ → E) (l : ℕ) (p : ℕ → E) where
  -- what word k is by the words before it
  abbrev following : (ℕ → E) → ℕ → E
  following w k = R.sub R.zero (sum R l (λ j. R.mul (p j) (w (k - l + j))))

  turns_before : (c r k : ℕ) → k < e → turns R e S l p c (suc r) k ≡ S c k
  unfolding turns
  turns_before c r k h = ap (λ t. cond t (S c k) (following (turns R e S l p c r) k)) (lt-ltb k e h)

  turns_after : (c r k : ℕ) → e ≤ k → turns R e S l p c (suc r) k ≡ following (turns R e S l p c r) k
  unfolding turns
  turns_after c r k h = ap (λ t. cond t (S c k) (following (turns R e S l p c r) k)) (le-ltb k e h)

  following_same : (w x : ℕ → E) (k : ℕ) → ((j : ℕ) → j < l → w (k - l + j) ≡ x (k - l + j)) → following w k ≡ following x k
  following_same w x k h = ap (R.sub R.zero) (sum_same R l _ _ (λ j b. ap (R.mul (p j)) (h j b)))

  -- more turns change nothing
  turns_same : l ≤ e → (c r r' k : ℕ) → k < r → k < r' → turns R e S l p c r k ≡ turns R e S l p c r' k
  turns_same small c zero r' k h h' = absurd (omega arith)
  turns_same small c (suc r) zero k h h' = absurd (omega arith)
  turns_same small c (suc r) (suc r') k h h' = by (dec_lt k e) (turns_same small c r r')
    where
      by : Dec (k < e) → ((i : ℕ) → i < r → i < r' → turns R e S l p c r i ≡ turns R e S l p c r' i) → turns R e S l p c (suc r) k ≡ turns R e S l p c (suc r') k
      by (yes b) ih = turns_before c r k b ∙ sym (turns_before c r' k b)
      by (no b) ih =
          turns_after c r k (omega arith)
          ∙ following_same (turns R e S l p c r) (turns R e S l p c r') k (λ j within. ih (k - l + j) (omega arith) (omega arith))
          ∙ sym (turns_after c r' k (omega arith))

  pub run_begins : (c k : ℕ) → k < e → run R e S l p c k ≡ S c k
  run_begins c k h = turns_before c k k h

  pub run_next : l ≤ e → (c k : ℕ) → e ≤ k → run R e S l p c k ≡ R.sub R.zero (sum R l (λ j. R.mul (p j) (run R e S l p c (k - l + j))))
  run_next small c k h =
      turns_after c k k h
      ∙ following_same (turns R e S l p c k) (run R e S l p c) k (λ j within. turns_same small c k (suc (k - l + j)) (k - l + j) (omega arith) (omega arith))

  -- what begins with the words and goes on in the same way is the run
  pub run_only : l ≤ e → (c : ℕ) (w : ℕ → E) → ((k : ℕ) → k < e → w k ≡ S c k)
      → ((k : ℕ) → e ≤ k → w k ≡ R.sub R.zero (sum R l (λ j. R.mul (p j) (w (k - l + j))))) → (k : ℕ) → w k ≡ run R e S l p c k
  run_only small c w begins next = strong (λ k. w k ≡ run R e S l p c k) (λ k less. by k less (dec_lt k e))
    where
      by : (k : ℕ) → ((i : ℕ) → i < k → w i ≡ run R e S l p c i) → Dec (k < e) → w k ≡ run R e S l p c k
      by k less (yes b) = begins k b ∙ sym (run_begins c k b)
      by k less (no b) = next k (omega arith) ∙ following_same w (run R e S l p c) k (λ j within. less (k - l + j) (omega arith)) ∙ sym (run_next small c k (omega arith))

-- the run, the two ways
pub run_is : {E : Type 0} {R : Ring E} (L : Laws R) (n e : ℕ) (S : ℕ → ℕ → E) → LawfulWords R n e S → (l : ℕ) (p : ℕ → E) → Lawful R p → l ≤ e
    → (c : ℕ) → c < n → (k : ℕ) → Is L (run R e S l p c k) (runˡ (lifted L) l (Bridge.lift L p) e (λ t. hold L (S c t)) k)
run_is {R = R} L n e S ok l p lp small c hc = strong _ (λ k less. by k less (dec_lt k e))
  where
    by : (k : ℕ) → ((i : ℕ) → i < k → Is L (run R e S l p c i) (runˡ (lifted L) l (Bridge.lift L p) e (λ t. hold L (S c t)) i)) → Dec (k < e)
        → Is L (run R e S l p c k) (runˡ (lifted L) l (Bridge.lift L p) e (λ t. hold L (S c t)) k)
    by k less (yes b) =
        Lifts.is_same L (run_begins R e S l p c k b)
        (Lifts.is_at L (sym (Rec.run_begins (lifted L) l (Bridge.lift L p) e (λ t. hold L (S c t)) k b)) (Lifts.hold_is L (S c k) (ok k c b hc)))
    by k less (no b) =
        Lifts.is_same L (run_next R e S l p small c k (omega arith))
        (Lifts.is_at L (Sums.zero_add (lifted L) _ ∙ sym (Rec.run_next (lifted L) l (Bridge.lift L p) e (λ t. hold L (S c t)) small k (omega arith)))
        (Lifts.sub_is L (Lifts.zero_is L refl)
        (Lifts.sum_is L l _ _ (λ j within. Lifts.mul_is L (Bridge.lift_is L p lp j) (less (k - l + j) (omega arith)) (λ _ _. refl))) (λ _ _. refl)))
