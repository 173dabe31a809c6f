use Rattle.std.proofs.Common.{length, ap₂, arith}
use Rattle.ring.proofs.Loops.{added_none, added_more}
use Rattle.recurrence.proofs.Elements.{read_at, read_lawful}
use Rattle.cancelling.proofs.trial.Trial.sum_at.Goals as goal

pub loop-j-init : goal.loop-j-init
loop-j-init g c = added_none (g.K.Kind.laws c.args.self.now.words.kind) _ _ c.zero-total.ensures

pub loop-j-preserved : goal.loop-j-preserved
loop-j-preserved g c =
    let trial = c.args.self.now in
    let taps = trial.taps.now in
    let R = g.K.Kind.ring trial.words.kind in
    added_more (g.K.Kind.laws trial.words.kind) _ c.loop-j.j c.tap-item.result c.get.result _ _ _
    (read_lawful R taps (length taps) c.loop-j.j _ (omega arith) trial.coefficients (omega arith) c.tap-item.is) c.get.ensures.lawful
    (ap₂ R.mul (read_at R taps c.loop-j.j _ (omega arith) c.tap-item.is) c.get.ensures.is) c.mul.ensures c.add-total.ensures c.loop-j.invariant
