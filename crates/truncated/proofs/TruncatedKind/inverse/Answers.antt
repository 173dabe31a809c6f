use Rattle.std.proofs.Common.{refl, ◌∙◌, arith}
use Rattle.truncated.specs.Laws.{lawful_below}
use Rattle.truncated.proofs.Inverting.{inverted_start, inverted_next, inverted_whole, unit_constant}
use Rattle.truncated.proofs.TruncatedKind.inverse.Goals as goal

pub loop-k-init : goal.loop-k-init
loop-k-init c one lt =
    let k = c.args.self.now in
    inverted_start k.base.value k.base.ok.0 k.depth k.ok.1 c.args.u _ one lt (rw c.from.ensures at c.inverse-constant.ensures)

pub loop-k-preserved : goal.loop-k-preserved
loop-k-preserved c one lt =
    let k = c.args.self.now in
    let l = c.loop-k in
    inverted_next k.base.value k.base.ok.0 k.depth k.ok.1 c.args.u l.w.coefficients l.k _ _ _ (omega arith) (omega arith) one lt
    (rw c.from.ensures at c.inverse-constant.ensures) (c.from-in-loop-k.ensures ∙ c.product_at.ensures.is) refl (l.invariant one lt)

pub returns : goal.returns
returns c v hu hv e =
    let k = c.args.self.now in
    let l = c.loop-k in
    inverted_whole k.base.value k.base.ok.0 k.depth k.ok.1 c.args.u v l.w.coefficients l.k (omega arith) hu hv e
    (l.invariant (unit_constant k.base.value k.base.ok.0 k.depth k.ok.1 k.ok.0 c.args.u v e)
    (lawful_below k.base.value k.base.ok.0 k.depth c.args.u hu 0 (omega arith) k.ok.0))
