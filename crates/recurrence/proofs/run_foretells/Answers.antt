use Rattle.recurrence.proofs.run_foretells.Goals as goal
use Rattle.recurrence.proofs.Findings.{finding_foretells}

pub returns : goal.returns
returns g c = finding_foretells (g.K.Kind.laws _)
