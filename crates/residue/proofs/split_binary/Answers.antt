use Rattle.std.proofs.Common.{arith}
use Rattle.residue.proofs.Binary.{parts_binary}
use Rattle.residue.proofs.split_binary.Goals as goal

pub returns : goal.returns
returns c = parts_binary 32 c.args.a c.requires (omega arith)
