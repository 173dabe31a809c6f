use Rattle.std.proofs.Common.{length}
use Rattle.ring.specs.Commutative.{sum}
use Rattle.ring.specs.Lawful.{Is, lifted, cells}
use Rattle.registers.proofs.dot.Given as goal

abbrev pub invariant-loop-coefficient : goal.invariant-loop-coefficient
invariant-loop-coefficient g l =
    let L = g.K.Kind.laws l.kind in
    Is L l.sum (sum (lifted L) (length l.yielded) (λ i. (lifted L).◌⊗◌ (cells L l.coefficients i) (cells L l.values i)))
