use Rattle.std.proofs.Common.{rules}
use Rattle.capture.proofs.Open.find.Goals as goal

pub returns-in-Ok : goal.returns-in-Ok
returns-in-Ok g c = let found = c.in-Ok.ensures in c.promises_stand.ensures.find _ _ _ _ _ _ _ _ _ (search rules)
