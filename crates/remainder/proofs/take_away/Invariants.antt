use Rattle.recurrence.specs.Memory.{at, Written}
use Rattle.remainder.specs.Steps.{taken}
use Rattle.remainder.proofs.take_away.Given as goal

abbrev pub invariant-loop-i : goal.invariant-loop-i
invariant-loop-i g l =
    let R = g.K.Kind.ring l.kind in
    Written l.initial.f l.f l.k l.i (taken R (at R l.initial.f) l.k l.u (at R l.row))
