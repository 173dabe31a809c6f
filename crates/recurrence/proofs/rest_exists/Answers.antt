use Rattle.recurrence.proofs.rest_exists.Goals as goal
use Rattle.recurrence.proofs.Findings.{finding_rest_exists}

pub returns : goal.returns
returns g c = finding_rest_exists (g.K.Kind.laws _)
