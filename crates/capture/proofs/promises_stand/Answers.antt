use Rattle.capture.proofs.Main.{promises_stand, find_keeps, try_keeps, run_on_keeps}
use Rattle.capture.proofs.promises_stand.Goals as goal

pub returns : goal.returns
returns g c =
    let ring = g.K.Kind.ring in
    let laws = g.K.Kind.laws in
    record { stands = promises_stand ring laws; find = find_keeps ring laws; tried = try_keeps ring laws; runs = run_on_keeps ring laws }
