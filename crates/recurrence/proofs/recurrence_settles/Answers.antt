use Rattle.recurrence.proofs.recurrence_settles.Goals as goal
use Rattle.recurrence.proofs.Findings.{recurrence_settles}

pub returns : goal.returns
returns g c = recurrence_settles (g.K.Kind.laws _)
