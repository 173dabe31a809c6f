use Rattle.std.proofs.Common.{inr}
use Rattle.cancelling.proofs.Verdicts.{taken_lawful, verdict_taken}
use Rattle.cancelling.proofs.cancels.Goals as goal

pub invariant_of-all_cancelled : goal.invariant_of-all_cancelled
invariant_of-all_cancelled g c =
    rw c.in_ok-words.ensures.1.0 (record { coefficients = taken_lawful (g.K.Kind.ring c.args.kind.now) c.args.taps.now c.coefficients-m.result (λ u. c.in_ok-words.ensures.0.1.0 (inr u)) })

pub returns : goal.returns
returns g c =
    let passed = c.in_ok-words.ensures.0 in
    let same = c.in_ok-words.ensures.1 in
    let told = verdict_taken (g.K.Kind.ring c.args.kind.now) c.args.taps.now c.coefficients-m.result c.args.shape.now c.args.cells.now
    c.coefficients-m.ensures.low (c.coefficients-m.ensures.is (λ u. passed.1.0 (inr u))) in
    let whole = rw (same.0, same.1, same.2) at c.all_cancelled.ensures in
    (passed, (λ t. told.0 (whole.0 t), λ all. whole.1 (told.1 all)))
