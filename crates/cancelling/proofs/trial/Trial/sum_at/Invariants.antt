use Rattle.std.proofs.Common.{◌+◌}
use Rattle.ring.proofs.Loops.{Added}
use Rattle.recurrence.specs.Memory.{at}
use Rattle.recurrence.specs.Words.{words}
use Rattle.cancelling.proofs.trial.Trial.sum_at.Given as goal

abbrev pub invariant-loop-j : goal.invariant-loop-j
invariant-loop-j g l =
    let trial = l.self in
    let R = g.K.Kind.ring trial.words.kind in
    Added (g.K.Kind.laws trial.words.kind) (λ i. R.mul (at R trial.taps.now i) (words R trial.words.shape trial.words.cells.now l.c (l.k + i))) l.j l.total
