use Rattle.capture.proofs.Found.try_on.Goals as goal

pub returns : goal.returns
returns g c =
    c.promises_stand.ensures.tried _ _ _ _ _ _
    (rw (c.finding.ensures.capture.0, c.finding.ensures.capture.1, c.finding.ensures.finding.0, c.finding.ensures.finding.1) at c.try_on.ensures)
