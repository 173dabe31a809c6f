use Rattle.remainder.proofs.Tells.{try_tells}
use Rattle.remainder.proofs.try_tells.Goals as goal

pub returns : goal.returns
returns g c = try_tells (g.K.Kind.laws c.args.kind.now)
