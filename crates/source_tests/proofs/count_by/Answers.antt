use Rattle.std.proofs.Common.{length, ◌∙◌}
use Rattle.source_tests.proofs.Drawn.{carried_out, at_place}
use Rattle.source_tests.proofs.count_by.Goals as goal

pub returns : goal.returns
returns c =
    let drawn = carried_out (length c.args.out.now) c.draw.result _ _ c.draw.ensures in
    let made = c.new-source.ensures.list in
    record {
      counted = λ pass i h. at_place _ _ _ _ 0 drawn.0 i h ∙ made.accepted pass i;
      refused = λ e n i h. at_place _ _ _ _ 0 drawn.0 i h ∙ made.refused e n i;
    }
