use Rattle.std.proofs.Common.{sym, ◌∙◌}
use Rattle.ring.proofs.Lifts.{hold_is}
use Rattle.sources.proofs.Held.{hold_zero}
use Rattle.sources.proofs.hold.Goals as goal

pub returns-then-is_lawful : goal.returns-then-is_lawful
returns-then-is_lawful g c =
    let e = c.if-is_lawful.ensures in
    (hold_is (g.K.Kind.laws c.args.kind.now) c.args.a (rw (sym e) tt)).eq

pub returns-else-is_lawful : goal.returns-else-is_lawful
returns-else-is_lawful g c = c.zero.ensures ∙ sym (hold_zero (g.K.Kind.laws c.args.kind.now) c.args.a (sym c.if-is_lawful.ensures))
