-- What is left of a polynomial that is tried tells whether it cancels the run.
use Rattle.std.proofs.Common.{◌≡◌, ℕ, zero, suc, length, Ok, Err, Result, refl, ap, ⊎_elim, arith}
use lib.ListN.{get_or-eq_default}
use Rattle.ring.specs.Ring.{Ring, Laws}
use Rattle.ring.specs.declared.Refusal.{Refusal}
use Rattle.recurrence.specs.Memory.{at}
use Rattle.recurrence.specs.Polynomials.{Zero}
use Rattle.recurrence.specs.Reductions.{Coefficients}
use Rattle.recurrence.proofs.Findings.{finding_rest_tells}
use Rattle.recurrence.proofs.Elements.{lawful_all}
use Rattle.remainder.specs.Calls.{trying}
use Rattle.remainder.specs.Theorems.{TryTells}
use Rattle.ring.proofs.Rows.{passes_refuses}

ok_same : (m n : ℕ) → ◌≡◌ {A = Result ℕ Refusal} (Ok m) (Ok n) → m ≡ n
ok_same m n e = cc

none_left : {E : Type 0} (R : Ring E) (p : ℕ → E) (n : ℕ) → Coefficients R n p → Zero R p → n ≡ 0
none_left R p zero left z = refl
none_left R p (suc n) left z = absurd (left.last n refl (z n))

pub try_tells : {E : Type 0} {R : Ring E} → Laws R → TryTells R
try_tells {R = R} L s levels fm S stands settled room f f' (Ok n) lawful len did =
    let both = finding_rest_tells L s.channels s.count.words S levels fm stands settled (at R f) (at R f') (length f) (lawful_all R L f lawful)
    (λ j b. get_or-eq_default f R.zero b) did.1.0 in
    ((n, refl), ((λ e. both.0 (λ j. did.1.2.past j (omega (arith, ok_same n 0 e)))), λ c. ap Ok (none_left R (at R f') n did.1.2 (both.1 c))), both)
try_tells {R = R} L s levels fm S stands settled room f f' (Err e) lawful len did =
    absurd (passes_refuses (trying R s levels fm f) e
    (room, (⊎_elim (λ z. z.2 (stands.finding.lawful z.0 z.1)) lawful, ((λ z. z stands.finding.formed), ((λ z. z settled), ((λ z. omega arith), tt))))) did.0)
