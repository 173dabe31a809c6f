use Rattle.std.proofs.Common.{◌≡◌, ◌+◌, ◌%◌, length, sym, refl, ap, ◌∙◌, inl}
use Rattle.ring.specs.declared.Refusal.TheVariants.{Foreign}
use Rattle.source_tests.specs.Numbers.{ring}
use Rattle.source_tests.proofs.Drawn.{carried_out, at_place}
use Rattle.source_tests.proofs.count_both.Goals as goal

pub returns : goal.returns
returns c =
    let a = c.args.a in
    let drawn = carried_out (length c.args.out.now) c.draw.result _ _ c.draw.ensures in
    let made = c.new-source.ensures.list in
    let scaled = c.new.ensures.list in
    let same : c.new.result.inner.kind ≡ c.args.b.kind = ap (λ s. s.kind) c.new.ensures.inner in
    record {
      summed = λ e l i h.
          at_place _ _ _ _ 0 drawn.0 i h
          ∙ made.accepted ((λ n. n (e ∙ sym same)), tt) i
          ∙ ap ((ring a.kind).add ((a.count + i) % a.kind.size)) (scaled.accepted ((λ n. n l), tt) i);
      refused = λ n i h. at_place _ _ _ _ 0 drawn.0 i h ∙ made.refused Foreign (inl ((λ e. n (e ∙ same)), refl)) i;
    }
