use Rattle.sources.proofs.Turns.{older_is}
use Rattle.sources.proofs.delay.DelayLine.older.Goals as goal

pub returns : goal.returns
returns g c =
    let s = c.args.self.now in
    older_is s.cells.now s.len s.at c.min-end.result c.min-start.result c.min-end.ensures c.min-start.ensures
