use Rattle.std.proofs.Common.{◌≡◌, suc, ◌-◌, ◌≤◌}
use Rattle.ring.specs.Lawful.{cells}
use Rattle.recurrence.proofs.Captures.{Zeros}
use Rattle.places.specs.Places.{places, capture_of, Row}
use Rattle.elimination.proofs.eliminate.Given as goal

abbrev pub invariant-loop-first : goal.invariant-loop-first
invariant-loop-first g l =
    let L = g.K.Kind.laws l.words.kind in
    let shape = l.words.shape in
    let ws = l.words.cells.now in
    Row L shape ws l.degree l.row
    × (cells L l.row l.degree ≡ cells L l.initial.row l.degree)
    × (l.q ≤ places shape l.degree)
    × Zeros (capture_of L shape ws) l.degree l.q (cells L l.row)

abbrev pub decreases-loop-first : goal.decreases-loop-first
decreases-loop-first g l = suc (places l.words.shape l.degree) - l.q
