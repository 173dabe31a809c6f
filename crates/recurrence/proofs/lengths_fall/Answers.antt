use Rattle.recurrence.proofs.lengths_fall.Goals as goal
use Rattle.recurrence.proofs.Findings.{all_lengths_fall}

pub returns : goal.returns
returns g c = all_lengths_fall (g.K.Kind.laws _)
