use Rattle.std.proofs.Common.{arith}
use Rattle.ring.specs.Lawful.{hold}
use Rattle.ring.proofs.Lifts as Lifts
use Rattle.rows.proofs.Quotients.{level_is, quotient_made}
use Rattle.rows.proofs.quotient.Goals as goal

pub returns-then-w-v : goal.returns-then-w-v
returns-then-w-v g c =
    let L = g.K.Kind.laws c.args.kind.now in
    omega (arith, level_is L c.args.a _ (hold L c.args.a) _ (Lifts.hold_is L _ c.requires.a) c.split-w.ensures, level_is L c.args.b _ (hold L c.args.b) _ (Lifts.hold_is L _ c.requires.b) c.split-v.ensures)

pub returns : goal.returns
returns g c =
    let L = g.K.Kind.laws c.args.kind.now in
    quotient_made L c.args.a c.args.b _ _ _ _ _ _ _ _ c.requires.a c.requires.b c.split-w.ensures c.split-v.ensures (omega arith)
    c.inverse.ensures c.mul-part.ensures c.step_power-power.ensures c.mul.ensures
