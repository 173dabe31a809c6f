use Rattle.std.proofs.Common.{◌≤◌, arith}
use Rattle.inverses.proofs.Bases.{listed_low}
use Rattle.residue.specs.Laws.{above_one}
use Rattle.residue.proofs.Powers.{depth_high}
use Rattle.residue.proofs.modulus.Residue.new.Goals as goal

pub invariant_of-result : goal.invariant_of-result
invariant_of-result c =
    let b = c.in_ok-base.base in
    let d = c.args.d in
    let low = listed_low b.value b.ok.0 in
    let made = rw c.in_ok-size.ensures.ok_part at c.power.ensures in
    let deep : 1 ≤ d = omega arith in
    record { ok = (deep, depth_high b.value d low (omega arith), made.0, omega (arith, above_one b.value d low deep), made.1) }
