use Rattle.truncated.proofs.Places.{same_places, no_places}
use Rattle.truncated.proofs.TruncatedKind.zero.Goals as goal

pub returns : goal.returns
returns c = let k = c.args.self.now in same_places _ _ (no_places k.base.value k.base.ok.0 k.depth)
