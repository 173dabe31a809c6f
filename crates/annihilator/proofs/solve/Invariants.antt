use Rattle.levels.specs.Rounds.{Ready}
use Rattle.annihilator.proofs.solve.Given as goal

abbrev pub invariant-loop-degree : goal.invariant-loop-degree
invariant-loop-degree g l = Ready (g.K.Kind.laws l.words.kind) l.words.shape l.words.cells.now l.finding l.table.levels l.places l.degree l.store
