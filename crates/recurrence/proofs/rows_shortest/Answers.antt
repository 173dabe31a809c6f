use Rattle.recurrence.proofs.rows_shortest.Goals as goal
use Rattle.recurrence.proofs.Findings.{rows_shortest}

pub returns : goal.returns
returns g c = rows_shortest (g.K.Kind.laws _)
