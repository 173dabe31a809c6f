use Rattle.std.proofs.Common.{inl, refl, arith}
use Rattle.registers.proofs.Making.{made, used_lawful, values_lawful}
use Rattle.registers.proofs.Register.try_new.Goals as goal

pub begin-requires-clause-coefficients : goal.begin-requires-clause-coefficients
begin-requires-clause-coefficients g c =
    let cs = c.args.coefficients.now in
    used_lawful (g.K.Kind.laws c.args.kind) cs c.args.stages.now cs (inl (c.in_ok-check_register.ensures.0, refl))

pub begin-requires-clause-stages : goal.begin-requires-clause-stages
begin-requires-clause-stages g c =
    let cs = c.args.coefficients.now in
    values_lawful (g.K.Kind.laws c.args.kind) cs c.args.stages.now cs (inl (c.in_ok-check_register.ensures.0, refl))

pub returns : goal.returns
returns g c =
    let cs = c.args.coefficients.now in
    let pass = c.in_ok-check_register.ensures.0 in
    let begun = c.begin.ensures in
    (pass, (begun.kind, rw begun.list (made (g.K.Kind.laws c.args.kind) cs c.args.stages.now cs (inl (pass, refl))), omega (arith, begun.stages, pass.0), begun.cells, begun.lent))
