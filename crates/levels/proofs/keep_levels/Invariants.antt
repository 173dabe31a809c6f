use Rattle.levels.proofs.Rounds.{Keeping}
use Rattle.levels.proofs.keep_levels.Given as goal

abbrev pub invariant-loop-i : goal.invariant-loop-i
invariant-loop-i g l =
    Keeping (g.K.Kind.laws l.words.kind) l.words.shape l.words.cells.now l.degree l.i l.initial.finding l.finding l.table.levels l.initial.places l.places l.initial.store l.store
