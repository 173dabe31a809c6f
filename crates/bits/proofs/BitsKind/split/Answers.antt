use Rattle.std.proofs.Common.{◌<◌, arith}
use lib.Count.{count_trailing_zeros}
use Rattle.bits.proofs.Splitting.{zero_split, shifted_split, trailing_lowest}
use Rattle.bits.proofs.BitsKind.split.Goals as goal

pub returns-then-a-eq0 : goal.returns-then-a-eq0
returns-then-a-eq0 c la = let k = c.args.self.now in zero_split k.depth k.ok.0 c.args.a (omega arith)

pub returns : goal.returns
returns c la =
    let k = c.args.self.now in
    let pos : 0 < c.args.a = omega arith in
    shifted_split k.depth k.ok.0 c.args.a (count_trailing_zeros 32 c.args.a) (trailing_lowest 32 c.args.a pos (omega arith)) la
