use Rattle.bits.proofs.Operations.{one_is}
use Rattle.bits.proofs.BitsKind.one.Goals as goal

pub returns : goal.returns
returns c = let k = c.args.self.now in one_is k.depth k.ok.0
