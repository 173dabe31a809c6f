use Rattle.std.proofs.Common.{◌≡◌, ℕ, ◌+◌, ◌-◌, length, refl, subst, arith, rules}
use borrow.Author.Tests.{tests}
use Rattle.std.proofs.lemmas.Iterator.{cases_from_all, YieldsList-from_range}
use Rattle.cancelling.specs.Trials.{ZeroAt}
use Rattle.cancelling.proofs.Trials.{told}
use Rattle.cancelling.proofs.trial.Trial.all_cancelled.Goals as goal

pub returns : goal.returns
returns g c =
    let trial = c.args.self.now in
    let m = length trial.taps.now in
    let end = trial.words.shape.count.words + 1 in
    let Z = λ (k : ℕ). ZeroAt (g.K.Kind.ring trial.words.kind) trial.words.shape trial.words.cells.now trial.taps.now m k in
    let both = told (λ i. Z (i - m)) m end c.all.result
    (cases_from_all _ _ _ (λ i. Z (i - m)) (λ i. ¬ Z (i - m)) c.all.ensures.ran (YieldsList-from_range m end (end - m) refl refl) (λ x q k. search (rules, tests)) (λ x q k. search (rules, tests))) in (
      λ t k below. let is : k + m - m ≡ k = omega arith in subst Z is (both.0 t (k + m) (omega arith) (omega arith)),
      λ all. both.1 (λ i high low. all (i - m) (omega arith)),
    )
