use Rattle.recurrence.proofs.rows_cancel_run.Goals as goal
use Rattle.recurrence.proofs.Findings.{rows_cancel_run}

pub returns : goal.returns
returns g c = rows_cancel_run (g.K.Kind.laws _)
