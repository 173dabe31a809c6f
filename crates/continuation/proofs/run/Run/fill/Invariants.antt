use Rattle.std.proofs.Common.{◌-◌, length}
use Rattle.recurrence.specs.Memory.{at}
use Rattle.continuation.specs.Filling.{Filled}
use Rattle.continuation.proofs.run.Run.fill.Given as goal

abbrev pub invariant-loop-q : goal.invariant-loop-q
invariant-loop-q g l =
    let words = l.self.words in
    let R = g.K.Kind.ring words.kind in
    Filled R words.shape words.cells.now (length l.self.row.now - 1) (at R l.self.row.now) l.out l.q
