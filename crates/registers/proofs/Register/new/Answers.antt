use Rattle.std.proofs.Common.{rules}
use Rattle.registers.specs.Registers.{register_rows}
use Rattle.registers.proofs.Making.{Chosen, chosen, made, used_lawful, values_lawful}
use Rattle.registers.proofs.Register.new.Goals as goal

pub begin-requires-clause-coefficients : goal.begin-requires-clause-coefficients
begin-requires-clause-coefficients g c =
    let L = g.K.Kind.laws c.args.kind in
    let cs = c.args.coefficients.now in
    let stages = c.args.stages.now in
    let used = c.map_or-coefficients.result.now in
    let rows = register_rows (g.K.Kind.ring c.args.kind) cs stages in
    let choice : Chosen rows cs used =
    chosen rows cs used c.check_register.result c.check_register.ensures (λ u e. search rules) (λ e r. search rules) in
    used_lawful L cs stages used choice

pub begin-requires-clause-stages : goal.begin-requires-clause-stages
begin-requires-clause-stages g c =
    let L = g.K.Kind.laws c.args.kind in
    let cs = c.args.coefficients.now in
    let stages = c.args.stages.now in
    let used = c.map_or-coefficients.result.now in
    let rows = register_rows (g.K.Kind.ring c.args.kind) cs stages in
    let choice : Chosen rows cs used =
    chosen rows cs used c.check_register.result c.check_register.ensures (λ u e. search rules) (λ e r. search rules) in
    values_lawful L cs stages used choice

pub returns-clause-list : goal.returns-clause-list
returns-clause-list g c =
    let L = g.K.Kind.laws c.args.kind in
    let cs = c.args.coefficients.now in
    let stages = c.args.stages.now in
    let used = c.map_or-coefficients.result.now in
    let rows = register_rows (g.K.Kind.ring c.args.kind) cs stages in
    let choice : Chosen rows cs used =
    chosen rows cs used c.check_register.result c.check_register.ensures (λ u e. search rules) (λ e r. search rules) in
    rw c.begin.ensures.list (made L cs stages used choice)
