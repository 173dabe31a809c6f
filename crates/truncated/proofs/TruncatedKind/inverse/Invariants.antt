use Rattle.std.proofs.Common.{◌<◌, ◌≤◌, get_or}
use Rattle.truncated.proofs.Inverting.{Inverted}
use Rattle.truncated.proofs.TruncatedKind.inverse.Given as goal

abbrev pub invariant-loop-k : goal.invariant-loop-k
invariant-loop-k l =
    let s = l.self in
    1 ≤ get_or l.u.coefficients 0 0 → get_or l.u.coefficients 0 0 < s.base.value
    → Inverted s.base.value s.base.ok.0 s.depth s.ok.1 l.u l.w.coefficients l.k
