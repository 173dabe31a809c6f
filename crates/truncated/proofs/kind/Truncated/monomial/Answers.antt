use Rattle.std.proofs.Common.{arith}
use Rattle.truncated.proofs.Places.{same_places, monomial_places, monomial_past}
use Rattle.truncated.proofs.kind.Truncated.monomial.Goals as goal

pub returns-then-i-self : goal.returns-then-i-self
returns-then-i-self c =
    let k = c.args.self in
    same_places _ _ (monomial_places k.base.value k.base.ok.0 k.depth c.args.i (omega arith) k.ok.1)

pub returns-else-i-self : goal.returns-else-i-self
returns-else-i-self c =
    let k = c.args.self in
    same_places _ _ (monomial_past k.base.value k.base.ok.0 k.depth c.args.i (omega arith))
