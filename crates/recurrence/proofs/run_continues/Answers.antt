use Rattle.recurrence.proofs.run_continues.Goals as goal
use Rattle.recurrence.proofs.Findings.{run_continues}

pub returns : goal.returns
returns g c = run_continues (g.K.Kind.ring _)
