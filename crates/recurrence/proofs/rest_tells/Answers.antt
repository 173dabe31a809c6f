use Rattle.recurrence.proofs.rest_tells.Goals as goal
use Rattle.recurrence.proofs.Findings.{finding_rest_tells}

pub returns : goal.returns
returns g c = finding_rest_tells (g.K.Kind.laws _)
