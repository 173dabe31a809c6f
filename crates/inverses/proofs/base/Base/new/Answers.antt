use mathlib.Core.Path.{refl, sym, ◌∙◌}
use native.Mathlib.Nat.{zero-add}
use native.Mathlib.Omega.{arith}
use Rattle.inverses.specs.Bases.{bases, listed, start}
use Rattle.inverses.proofs.Bases.{past_among, past_before}
use Rattle.inverses.proofs.base.Base.new.Goals as goal

pub loop-base-init : goal.loop-base-init
unfolding listed start
loop-base-init c = (refl, sym (zero-add _), omega arith)

pub loop-base-preserved : goal.loop-base-preserved
loop-base-preserved c =
    let i = c.loop-base.base-index in
    let a = past_among c.args.p bases i c.loop-base-test.true c.if-base-p.false in
    let b = past_before c.args.p bases i c.loop-base-test.true c.if-base-p.false in
    (c.loop-base.invariant.0 ∙ a, omega arith, omega (arith, c.loop-base-test.element_fits))
