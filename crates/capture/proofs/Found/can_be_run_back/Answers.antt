use Rattle.std.proofs.Common.{rules}
use Rattle.capture.proofs.Found.can_be_run_back.Goals as goal

pub returns : goal.returns
returns g c = rw (← c.finding.ensures.capture.0, ← c.finding.ensures.capture.1, ← c.finding.ensures.finding.0, ← c.finding.ensures.finding.1) (search rules)
