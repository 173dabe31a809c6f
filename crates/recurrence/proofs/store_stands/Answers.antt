use Rattle.recurrence.proofs.store_stands.Goals as goal
use Rattle.recurrence.proofs.Stores.{store_stands_everywhere}

pub returns : goal.returns
returns g c = store_stands_everywhere (g.K.Kind.laws _)
