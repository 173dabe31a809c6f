use Rattle.continuation.proofs.Foretells.{run_on_foretells}
use Rattle.continuation.proofs.run_on_foretells.Goals as goal

pub returns : goal.returns
returns g c = run_on_foretells (g.K.Kind.laws c.args.kind.now)
