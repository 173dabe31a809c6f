use Rattle.std.proofs.Common.{arith}
use Rattle.inverses.proofs.Bases.{listed_low, listed_high}
use Rattle.truncated.proofs.kind.Truncated.new.Goals as goal

pub invariant_of-result : goal.invariant_of-result
invariant_of-result c =
    let b = c.in_ok-base.base in
    record { ok = (omega arith, omega arith, listed_low b.value b.ok.0, listed_high b.value b.ok.0) }
