use Rattle.levels.proofs.Rounds.{Reducing}
use Rattle.levels.proofs.reduce_levels.Given as goal

abbrev pub invariant-loop-i : goal.invariant-loop-i
invariant-loop-i g l = Reducing (g.K.Kind.laws l.words.kind) l.words.shape l.words.cells.now l.degree l.i l.finding l.table.levels l.places l.store
