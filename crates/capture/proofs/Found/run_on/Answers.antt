use Rattle.capture.proofs.Found.run_on.Goals as goal

pub returns : goal.returns
returns g c =
    c.promises_stand.ensures.runs _ _ _ _ _ _ _
    (rw (c.finding.ensures.capture.0, c.finding.ensures.capture.1, c.finding.ensures.finding.0, c.finding.ensures.finding.1) at c.run_on.ensures)
