use Rattle.std.proofs.Common.{◌≡◌, ℕ, ◌+◌, ◌-◌, length, refl, arith, rules}
use borrow.Author.Tests.{tests}
use Rattle.std.proofs.lemmas.Iterator.{cases_from_all, YieldsList-from_range}
use Rattle.ring.specs.Ring.{sum}
use Rattle.recurrence.specs.Memory.{at}
use Rattle.recurrence.specs.Words.{words}
use Rattle.cancelling.proofs.Trials.{told}
use Rattle.cancelling.proofs.trial.Trial.word_cancelled.Goals as goal

pub returns : goal.returns
returns g c =
    let trial = c.args.self.now in
    let R = g.K.Kind.ring trial.words.kind in
    let n = trial.words.shape.channels in
    let P = λ (i : ℕ). sum R (length trial.taps.now) (λ j. R.mul (at R trial.taps.now j) (words R trial.words.shape trial.words.cells.now i (c.args.k + j))) ≡ R.zero in
    let both = told P 0 n c.all.result
    (cases_from_all _ _ _ P (λ i. ¬ P i) c.all.ensures.ran (YieldsList-from_range 0 n (n - 0) refl refl) (λ x q k. search (rules, tests)) (λ x q k. search (rules, tests))) in
    (λ t i below. both.0 t i (omega arith) below, λ all. both.1 (λ i _ below. all i below))
