use Rattle.std.proofs.Common.{◌*◌, ◌/◌, ◌^◌, ◌<◌, sym, ap, ◌∙◌, mul_assoc, mul_comm, pow-suc, add-one, arith}
use native.Mathlib.Nat.{div-lt_self}
use Rattle.inverses.proofs.Bases.{listed_low}
use Rattle.residue.specs.Laws.{exact, quotient_pos}
use Rattle.residue.proofs.split_dividing.Goals as goal

pub nonzero_rem-u : goal.nonzero_rem-u
nonzero_rem-u c = omega (arith, listed_low c.args.base.value c.args.base.ok.0)

pub loop-u-smaller : goal.loop-u-smaller
loop-u-smaller c = div-lt_self c.loop-u.invariant.1 (listed_low c.args.base.value c.args.base.ok.0)

pub loop-u-preserved : goal.loop-u-preserved
loop-u-preserved c =
    let p = c.args.base.value in
    let u = c.loop-u.u in
    let v = c.loop-u.v in
    let z = c.loop-u-test.true in
    let low = listed_low p c.args.base.ok.0 in
    let less : u / p < u = div-lt_self c.loop-u.invariant.1 low in
    let whole = ap (λ x. u / p * x) (mul_comm (p ^ v) p) ∙ sym (mul_assoc (u / p) p (p ^ v)) ∙ ap (λ x. x * p ^ v) (exact p low u z) ∙ c.loop-u.invariant.0 in
    (rw (add-one, pow-suc) whole, quotient_pos p low u c.loop-u.invariant.1 z, omega arith)
