use Rattle.bits.proofs.Operations.{add_is}
use Rattle.bits.proofs.BitsKind.add.Goals as goal

pub returns : goal.returns
returns c ha hb = add_is c.args.self.now.depth c.args.a c.args.b ha hb
