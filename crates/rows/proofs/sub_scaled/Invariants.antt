use Rattle.rows.proofs.Scalings.{Scaling}
use Rattle.rows.proofs.sub_scaled.Given as goal

abbrev pub invariant-loop-j : goal.invariant-loop-j
invariant-loop-j g l = Scaling (g.K.Kind.laws l.kind) l.c l.initial.row l.other l.row l.j
