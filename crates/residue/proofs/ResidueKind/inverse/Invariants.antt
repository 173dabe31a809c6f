use Rattle.std.proofs.Common.{◌-◌, ◌≤◌}
use Rattle.residue.proofs.Units.{Known}
use Rattle.residue.proofs.ResidueKind.inverse.Given as goal

abbrev pub invariant-loop-known : goal.invariant-loop-known
invariant-loop-known l =
    let k = l.self in
    (1 ≤ l.known) × Known k.base.value k.depth k.base.ok.0 k.ok.0 l.u l.w l.known

abbrev pub decreases-loop-known : goal.decreases-loop-known
decreases-loop-known l = l.self.depth - l.known
