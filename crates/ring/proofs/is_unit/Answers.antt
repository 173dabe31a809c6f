use Rattle.std.proofs.Common.{T, eqb, sym, subst, eqb→eq}
use lib.Dec.{eqb_refl}
use Rattle.ring.proofs.Valuations.{unit_when, unit_only}
use Rattle.ring.proofs.is_unit.Goals as goal

pub returns : goal.returns
returns g c = λ lawful.
    let split = c.split-valuation.ensures lawful in (
      λ zero. unit_when (g.K.Kind.laws c.args.kind.now) _ _ _ split (eqb→eq _ 0 zero),
      λ unit. subst (λ v. T (eqb v 0)) (sym (unit_only (g.K.Kind.laws c.args.kind.now) _ _ _ split unit)) (eqb_refl 0),
    )
