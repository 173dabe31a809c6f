use Rattle.std.proofs.Common.{◌≡◌, ℕ, ◌≤◌, length, get_or, arith, rules}
use Rattle.truncated.specs.Polynomials.{bound}
use Rattle.truncated.specs.Laws.{bound_low, bound_high}
use Rattle.truncated.proofs.Places.{all_fit, one_does_not}
use Rattle.truncated.proofs.TruncatedKind.is_lawful.Goals as goal
use Rattle.truncated.proofs.TruncatedKind.is_lawful.Goals.{then-j-self, else-j-self}

pub returns-then-a-j : goal.returns-then-a-j
returns-then-a-j c =
    let k = c.args.self.now in
    let p : ℕ = k.base.value in
    let d : ℕ = k.depth in
    let past : bound k.base.value k.depth c.loop-j.j ≤ get_or c.args.a.coefficients c.loop-j.j 0 =
    elim c.if-j-self.branch [
      | then-j-self w ↦ let e = bound_low p d c.loop-j.j w.if-j-self.true in omega (arith, e, w.bound-is, c.if-a-j.true)
      | else-j-self w ↦ let e = bound_high p d c.loop-j.j w.if-j-self.false in omega (arith, e, w.bound-is, c.if-a-j.true)
    ] in
    one_does_not k.base.value k.base.ok.0 k.depth c.args.a c.loop-j.j (omega arith) past

pub returns : goal.returns
returns c =
    let k = c.args.self.now in
    let long : length c.args.a.coefficients ≡ 8 = search rules in
    all_fit k.base.value k.base.ok.0 k.depth c.args.a long (λ j lt. c.loop-j.invariant j (omega arith))
