use Rattle.ring.specs.Commutative.{power}
use Rattle.ring.specs.Lawful.{Is, lifted, step_of}
use Rattle.rows.proofs.step_power.Given as goal

abbrev pub invariant-loop : goal.invariant-loop
invariant-loop g l = let L = g.K.Kind.laws l.kind in Is L l.power (power (lifted L) (step_of L) l.counter)
