use Rattle.std.proofs.Common.{arith}
use Rattle.rows.proofs.Scalings.{begun}
use Rattle.rows.proofs.begin_row.Goals as goal

pub returns : goal.returns
returns g c = begun (g.K.Kind.laws c.args.kind.now) c.args.i c.clear.new.cells c.step_power.result c.clear.ensures (omega arith) c.step_power.ensures
