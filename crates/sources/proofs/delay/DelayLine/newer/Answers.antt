use Rattle.std.proofs.Common.{arith}
use Rattle.sources.proofs.Turns.{newer_is}
use Rattle.sources.proofs.delay.DelayLine.newer.Goals as goal

pub returns : goal.returns
returns g c =
    let s = c.args.self.now in
    newer_is s.cells.now s.len s.at c.min-end.result (omega arith)
