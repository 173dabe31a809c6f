use Rattle.std.proofs.Common.{inl, refl}
use Rattle.registers.proofs.Repeating.{made}
use Rattle.registers.proofs.Loop.try_new.Goals as goal

pub returns : goal.returns
returns g c =
    let xs = c.args.elements.now in
    let pass = c.in_ok-check_loop.ensures.0 in
    (pass, (c.begin.ensures.kind, rw c.begin.ensures.list (made (g.K.Kind.laws c.args.kind) xs xs (inl (pass, refl)))))
