use Rattle.std.proofs.Common.{◌∙◌, length-take-le, get_or-take, arith}
use Rattle.rows.proofs.Scalings.{scaling_next, scaling_whole}
use Rattle.rows.proofs.sub_scaled.Goals as goal

pub loop-j-preserved : goal.loop-j-preserved
loop-j-preserved g c =
    let long = length-take-le c.args.terms c.args.other.now c.requires.room_other in
    scaling_next (g.K.Kind.laws c.args.kind.now) c.args.c c.args.row.now c.args.other.now c.loop-j.row c.args.terms c.loop-j.j _ _ _ _
    (omega (arith, long)) c.requires c.loop-j.auto.row c.index-row-j.is (c.y-item.is ∙ get_or-take c.args.terms c.args.other.now c.loop-j.j _ (omega (arith, long)))
    c.loop-j.invariant c.mul.ensures c.sub.ensures

pub returns : goal.returns
returns g c =
    let long = length-take-le c.args.terms c.args.other.now c.requires.room_other in
    scaling_whole (g.K.Kind.laws c.args.kind.now) c.args.c c.args.row.now c.args.other.now c.loop-j.row c.args.terms c.loop-j.j
    (omega (arith, long, c.loop-j.auto.j-end)) c.requires c.loop-j.invariant
