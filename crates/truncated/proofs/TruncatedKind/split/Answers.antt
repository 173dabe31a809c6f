use Rattle.std.proofs.Common.{arith}
use Rattle.truncated.proofs.Splitting.{split_none, split_some}
use Rattle.truncated.proofs.TruncatedKind.split.Goals as goal

pub returns-then-v-self : goal.returns-then-v-self
returns-then-v-self c ha =
    let k = c.args.self.now in
    split_none k.base.value k.base.ok.0 k.depth k.ok.0 k.ok.1 c.args.a c.one.result c.valuation-v.result (omega arith) ha c.valuation-v.ensures c.one.ensures

pub returns : goal.returns
returns c ha =
    let k = c.args.self.now in
    split_some k.base.value k.base.ok.0 k.depth k.ok.0 k.ok.1 c.args.a c.moved_down.result c.valuation-v.result
    (omega (arith, c.valuation-v.ensures.within)) ha c.valuation-v.ensures c.moved_down.ensures
