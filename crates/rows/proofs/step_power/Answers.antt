use Rattle.ring.specs.Commutative.{power}
use Rattle.ring.proofs.Lifts as Lifts
use Rattle.rows.proofs.Quotients.{power_next}
use Rattle.rows.proofs.step_power.Goals as goal

pub loop-init : goal.loop-init
unfolding power
loop-init g c = Lifts.one_is (g.K.Kind.laws c.args.kind.now) c.one-power.ensures

pub loop-preserved : goal.loop-preserved
loop-preserved g c = power_next (g.K.Kind.laws c.args.kind.now) c.loop.counter _ _ _ c.loop.invariant c.step.ensures c.mul-power.ensures
