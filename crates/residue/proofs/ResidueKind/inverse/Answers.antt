use Rattle.std.proofs.Common.{arith}
use Rattle.ring.proofs.Units.{inverts_twice}
use Rattle.inverses.proofs.Bases.{listed_low}
use Rattle.residue.proofs.Units.{first, last}
use Rattle.residue.proofs.ResidueKind.inverse.Goals as goal

pub nonzero_rem-u : goal.nonzero_rem-u
nonzero_rem-u c = let b = c.args.self.now.base in omega (arith, listed_low b.value b.ok.0)

pub loop-known-init : goal.loop-known-init
loop-known-init c =
    let k = c.args.self.now in
    (omega arith, first k.base.value k.depth k.base.ok.0 k.ok.0 c.args.u c.inverse-w.result c.inverse-w.ensures)

pub loop-known-preserved : goal.loop-known-preserved
loop-known-preserved c =
    let k = c.args.self.now in
    (omega arith, λ hu ne. inverts_twice _ _ _ c.args.u c.loop-known.w _ _ _ _ c.loop-known.known hu c.add-two.ensures c.mul.ensures c.sub.ensures c.mul-w.ensures (c.loop-known.invariant.1 hu ne))

pub returns : goal.returns
returns c v hu hv e =
    let k = c.args.self.now in
    last k.base.value k.depth k.base.ok.0 k.ok.0 c.args.u c.loop-known.w v c.loop-known.known (omega arith) c.loop-known.invariant.1 hu hv e
