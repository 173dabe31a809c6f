use Rattle.known.proofs.Table.{known}
use Rattle.known.proofs.known_length.Goals as goal

pub returns-clause-yields : goal.returns-clause-yields
returns-clause-yields c = known
