use Rattle.std.proofs.Common.{◌+◌, get_or, ap, ◌∙◌, arith}
use Rattle.rows.proofs.Scalings.{moved}
use Rattle.rows.proofs.raise_row.Goals as goal

pub returns : goal.returns
returns g c =
    moved (g.K.Kind.laws c.args.kind.now) c.args.row.now c.copy_within.new.self c.requires.long c.requires.lawful c.requires.top c.copy_within.ensures.len
    (λ j h. c.copy_within.ensures.by_index.0 (j + 1) _ (omega arith) (omega arith) ∙ ap (λ z. get_or c.args.row.now z (g.K.Kind.ring c.args.kind.now).zero) (omega arith)) _ c.zero.ensures
