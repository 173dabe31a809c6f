use Rattle.std.proofs.Common.{◌^◌, ◌<◌, arith, rules}
use Rattle.inverses.proofs.Bases.{listed_low}
use Rattle.residue.proofs.Powers.{too_deep}
use Rattle.residue.proofs.power.Goals as goal

pub returns-in_err-depth : goal.returns-in_err-depth
returns-in_err-depth c =
    let b = c.args.base in
    let deep : 31 < c.args.depth = grind (arith, c.ok.ensures, c.try_from.ensures, c.in_err-depth.was) in
    let large : 2 ^ 31 < b.value ^ c.args.depth = too_deep b.value c.args.depth (listed_low b.value b.ok.0) deep in
    search (rules, large, c.from_residual.ensures)
