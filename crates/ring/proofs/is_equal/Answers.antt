use Rattle.ring.proofs.Differences.{equal_is}
use Rattle.ring.proofs.is_equal.Goals as goal

pub returns : goal.returns
returns g c = equal_is (g.K.Kind.laws c.args.kind.now) c.args.a c.args.b _ _ c.sub.ensures c.is_zero.ensures
