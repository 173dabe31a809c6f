use Rattle.std.proofs.Common.{take, append-nil}
use Rattle.sources.specs.Window.{turned}
use Rattle.sources.proofs.delay.DelayLine.new.Goals as goal

pub returns-clause-values : goal.returns-clause-values
unfolding turned
returns-clause-values g c = append-nil (take c.args.len c.args.cells.now)
