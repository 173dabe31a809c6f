use Rattle.recurrence.proofs.Captures.{Zeros}
use Rattle.ring.specs.Lawful.{cells}
use Rattle.places.specs.Places.{capture_of}
use Rattle.places.proofs.polynomial.Polynomial.first_nonzero.Given as goal

abbrev pub invariant-loop-q : goal.invariant-loop-q
invariant-loop-q g l =
    let words = l.self.words.now in
    let L = g.K.Kind.laws words.kind in
    Zeros (capture_of L words.shape words.cells.now) l.self.degree l.q (cells L l.self.row.now)
