use Rattle.std.proofs.Common.{◌≡◌, ◌+◌, ◌-◌, ◌≢◌, length, take, drop, ap, ◌∙◌, add-zero, arith, rules, length-take, length-drop}
use borrow.Author.Count.{below_more}
use lib.Seq.{get_or-set_same, get_or-set_other}
use Rattle.sources.proofs.Parts.{written_part}
use Rattle.sources.proofs.draw.Goals as goal

pub loop-cell-preserved : goal.loop-cell-preserved
loop-cell-preserved g c =
    let s = g.S.Source in
    let inv = c.loop-cell.invariant in (
      below_more _ _ (λ i b d. let ne : i ≢ c.loop-cell.cell-index = omega arith in rw get_or-set_other (inv.0 i b d))
          (λ d. get_or-set_same c.loop-cell.cell-items c.loop-cell.cell-index _ d (omega arith) ∙ search rules ∙ inv.1 0 ∙ ap (s.list c.args.source.now) (add-zero _)),
      (λ t. search rules ∙ inv.1 (t + 1) ∙ ap (s.list c.args.source.now) (omega arith)),
      search rules ∙ inv.2,
    )

pub returns : goal.returns
returns g c =
    let out = c.args.out.now in
    let inv = c.loop-cell.invariant in
    let size : length (take (c.args.from + c.args.m - c.args.from) (drop c.args.from out)) ≡ c.args.m = simp (length-take, length-drop) (omega arith) in (
      ((λ short. short (omega arith)), tt),
      (
        written_part out c.loop-cell.cell-items c.args.from _ c.args.m (g.S.Source.list c.args.source.now) (omega arith) (omega arith) (c.loop-cell.auto.cell-items ∙ size)
            (λ i h. inv.0 i (omega (arith, size))),
        (λ t. inv.1 t ∙ ap (g.S.Source.list c.args.source.now) (omega (arith, size))),
        inv.2,
      ),
    )
