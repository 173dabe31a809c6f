use Rattle.bits.proofs.Operations.{zero_is}
use Rattle.bits.proofs.BitsKind.zero.Goals as goal

pub returns : goal.returns
returns c = zero_is c.args.self.now.depth
