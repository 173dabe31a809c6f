use Rattle.std.proofs.Common.{◌≡◌, ◌-◌, ◌≤◌, ◌<◌, ◌∙◌, rules, arith}
use Rattle.truncated.proofs.Modulo.{less_is, more_is}
use Rattle.truncated.proofs.difference_modulo.Goals as goal
use Rattle.truncated.proofs.difference_modulo.Goals.{then-y-x, else-y-x}

pub returns-then-once-p : goal.returns-then-once-p
returns-then-once-p c = elim c.if-y-x.branch [
  | then-y-x w ↦
      let lt : c.args.x - c.args.y < c.args.p = omega (arith, w.once-is, c.if-once-p.true) in
      w.once-is ∙ less_is c.args.x c.args.y c.args.p (c.requires) w.if-y-x.true lt
  | else-y-x w ↦
      let within : c.args.y - c.args.x ≤ c.args.p = search rules in
      let e : c.if-y-x.once ≡ c.args.p - (c.args.y - c.args.x) = search rules in
      e ∙ more_is c.args.x c.args.y c.args.p c.requires (omega (arith, w.if-y-x.false)) (omega (arith, e, c.if-once-p.true)) within
]
