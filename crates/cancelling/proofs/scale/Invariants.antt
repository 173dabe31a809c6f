use Rattle.recurrence.specs.Memory.{at, Written}
use Rattle.cancelling.proofs.scale.Given as goal

abbrev pub invariant-loop-tap : goal.invariant-loop-tap
invariant-loop-tap g l =
    let R = g.K.Kind.ring l.kind in
    Written l.initial.tap-items l.tap-items 0 l.tap-index (λ i. R.mul l.c (at R l.initial.tap-items i))
