-- What run on fills is what the lists that the words are of go on with.
use Rattle.std.proofs.Common.{◌+◌, Ok, Err, refl, ◌∙◌, ⊎_elim}
use Rattle.ring.specs.Ring.{Ring, Laws}
use Rattle.recurrence.specs.Words.{words}
use Rattle.recurrence.proofs.Findings.{finding_foretells}
use Rattle.continuation.specs.Calls.{running_on}
use Rattle.ring.proofs.Rows.{passes_refuses}
use Rattle.continuation.specs.Theorems.{RunOnForetells}

pub run_on_foretells : {E : Type 0} {R : Ring E} → Laws R → RunOnForetells R
run_on_foretells {R = R} L s levels fm ws stands room whole w D q half obeys same out out' (Ok tt) divides did =
    (refl, λ t c hc h. did.1.1 t c hc h ∙ finding_foretells L s.channels s.count.words (words R s ws) levels fm stands w D q half obeys same c (s.count.words + t) hc)
run_on_foretells {R = R} L s levels fm ws stands room whole w D q half obeys same out out' (Err e) divides did =
    absurd (passes_refuses (running_on R s levels fm ws out) e
    ((λ z. z divides), (⊎_elim room whole, (⊎_elim (λ z. z stands.words) (λ z. z.2 (stands.finding.lawful z.0 z.1)), ((λ z. z stands.finding.formed), tt)))) did.0)
