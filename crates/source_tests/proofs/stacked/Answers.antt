use Rattle.std.proofs.Common.{◌≡◌, ℕ, ◌*◌, T, length, sym, ap, ◌∙◌, subst, arith}
use Rattle.sources.specs.Window.{window}
use Rattle.registers.specs.Registers.{continued}
use Rattle.source_tests.proofs.Drawn.{carried_out, at_place, added}
use Rattle.source_tests.proofs.stacked.Goals as goal

pub returns : goal.returns
returns g c =
    let kind = c.args.kind in
    let ring = g.K.Kind.ring in
    let register = c.new-register.result in
    let w : ℕ → g.row.K-Elem.Denot = continued (g.K.Kind.laws register.kind) register.coefficients.now (window register.line.cells.now register.line.len register.line.at) in
    let drawn = carried_out (length c.args.out.now) c.draw.result _ _ c.draw.ensures in
    let of_register : register.kind ≡ kind = c.new-register.ensures.kind in
    let of_scaled : c.new-scaled.result.inner.kind ≡ kind = ap (λ s. s.kind) c.new-scaled.ensures.inner ∙ of_register in
    let of_strided : c.new-strided.result.inner.kind ≡ kind = ap (λ s. s.kind) c.new-strided.ensures.inner ∙ c.new.ensures.kind in (
      w,
      c.new-register.ensures.list,
      λ l pass i h d.
          at_place _ _ _ _ d drawn.0 i h
          ∙ c.new-source.ensures.list.accepted ((λ n. n (of_scaled ∙ sym of_strided)), tt) i
          ∙ added ring of_scaled
          (c.new-scaled.ensures.list.accepted ((λ n. n (subst (λ j. T ((ring j).lawful c.args.c)) (sym of_register) l)), tt) i ∙ ap (λ j. (ring j).mul c.args.c (w i)) of_register)
          (c.new-strided.ensures.list.accepted ((λ n. n (omega arith, omega arith)), tt) i ∙ c.new.ensures.list.repeats pass (2 * i)),
    )
