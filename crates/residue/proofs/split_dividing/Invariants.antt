use Rattle.std.proofs.Common.{◌≡◌, ◌+◌, ◌*◌, ◌^◌, ◌<◌, ◌≤◌}
use Rattle.residue.proofs.split_dividing.Given as goal

abbrev pub invariant-loop-u : goal.invariant-loop-u
invariant-loop-u l = (l.u * l.base.value ^ l.v ≡ l.a) × (0 < l.u) × (l.v + l.u ≤ l.a)

abbrev pub decreases-loop-u : goal.decreases-loop-u
decreases-loop-u l = l.u
