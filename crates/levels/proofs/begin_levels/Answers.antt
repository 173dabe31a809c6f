use Rattle.std.proofs.Common.{◌≢◌, sym, ◌∙◌, subst, arith, below_more}
use Rattle.rows.specs.Rows.{Holds, constant}
use Rattle.levels.proofs.Turns.{part_long, put_here, put_size, put_others}
use Rattle.levels.proofs.begin_levels.Goals as goal

pub loop-i-preserved : goal.loop-i-preserved
loop-i-preserved g c =
    let L = g.K.Kind.laws c.args.kind.now in
    let shape = c.args.shape in
    let i = c.loop-i.i in
    let fm = c.loop-i.finding in
    let a = c.row_start-a.result in
    let new = c.begin_row.new.row in
    let ea = c.row_start-a.ensures.at in
    let room = c.row_start-a.ensures.room in
    let len = c.begin_row.auto.row ∙ part_long shape fm a room in (
      c.loop-i.invariant.0 ∙ sym (put_size shape i a fm new ea room len),
      below_more _ _
          (λ j h. let ne : j ≢ i = omega arith in subst (λ r. Holds L r (constant L j)) (sym (put_others shape i a fm new ea room len j ne)) (c.loop-i.invariant.1 j h))
          (subst (λ r. Holds L r (constant L i)) (sym (put_here shape i a fm new ea room len)) c.begin_row.ensures),
    )

pub returns : goal.returns
returns g c j h = c.loop-i.invariant.1 j (omega arith)
