use Rattle.ring.specs.Lawful.{Is, cells}
use Rattle.places.proofs.Values.{partial}
use Rattle.places.proofs.polynomial.Polynomial.value_at.Given as goal

abbrev pub invariant-loop-j : goal.invariant-loop-j
invariant-loop-j g l =
    let words = l.self.words.now in
    let L = g.K.Kind.laws words.kind in
    Is L l.sum (partial L words.shape words.cells.now (cells L l.self.row.now) l.q l.j)
