use Rattle.std.proofs.Common.{◌-◌, length}
use Rattle.ring.proofs.Loops.{Added}
use Rattle.recurrence.specs.Memory.{at}
use Rattle.continuation.proofs.Turns.{terms}
use Rattle.continuation.proofs.run.Run.next_word.Given as goal

abbrev pub invariant-loop-j : goal.invariant-loop-j
invariant-loop-j g l =
    let words = l.self.words in
    let R = g.K.Kind.ring words.kind in
    Added (g.K.Kind.laws words.kind) (terms R words.shape words.cells.now (length l.self.row.now - 1) (at R l.self.row.now) l.c l.t) l.j l.total
