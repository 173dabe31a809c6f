use Rattle.bits.proofs.Operations.{step_is}
use Rattle.bits.proofs.BitsKind.step.Goals as goal

pub returns : goal.returns
returns c = step_is c.args.self.now.depth c.mask.result c.mask.ensures
