use Rattle.std.proofs.Common.{◌≡◌, ℕ, sym, subst, arith}
use Rattle.ring.specs.Ring.{Split}
use Rattle.residue.specs.Modulo.{modulo, Parts}
use Rattle.residue.specs.Laws.{split_zero, split_parts}
use Rattle.residue.proofs.ResidueKind.split.Goals as goal

pub returns-then-a-eq0 : goal.returns-then-a-eq0
returns-then-a-eq0 c la =
    let k = c.args.self.now in
    let a_is : c.args.a ≡ 0 = omega arith in
    subst (λ (x : ℕ). Split (modulo k.base.value k.depth) x k.depth 1) (sym a_is) (split_zero k.base.value k.depth k.base.ok.0 k.ok.0)

pub returns-then-self-eq2 : goal.returns-then-self-eq2
returns-then-self-eq2 c la =
    let k = c.args.self.now in
    let binary : Parts k.base.value c.args.a c.split_binary.result.0 c.split_binary.result.1
    = subst (λ (p : ℕ). Parts p c.args.a c.split_binary.result.0 c.split_binary.result.1) (sym c.if-self-eq2.true) c.split_binary.ensures in
    split_parts k.base.value k.depth k.base.ok.0 k.ok.0 c.args.a _ _ la binary

pub returns-else-self-eq2 : goal.returns-else-self-eq2
returns-else-self-eq2 c la =
    let k = c.args.self.now in
    split_parts k.base.value k.depth k.base.ok.0 k.ok.0 c.args.a _ _ la c.split_dividing.ensures
