use Rattle.std.proofs.Common.{sym, refl, ◌∙◌}
use Rattle.sources.proofs.Held.{sum_makes}
use Rattle.sources.proofs.Obeying.{summed_obeys}
use Rattle.sources.proofs.adapters.Sum.new.Goals as goal

pub returns : goal.returns
returns g c =
    let j = g.A.Source.kind_of c.args.a in
    let k = g.B.Source.kind_of c.args.b in
    let is = c.kind.ensures.is in
    let is_2 = c.kind-2.ensures.is in
    record {
      parts = (refl, refl);
      list = sum_makes g.K.Kind.ring g.K.Kind.laws j k c.same-alike.result
          (λ t. sym is ∙ c.same-alike.ensures.yes t ∙ is_2) (λ e. c.same-alike.ensures.only (is ∙ e ∙ sym is_2))
          (g.A.Source.list c.args.a) (g.B.Source.list c.args.b) c.kind-2.ensures.lawful;
      obeys = λ D q. summed_obeys (g.K.Kind.laws j) D q c.same-alike.result (g.A.Source.list c.args.a) (g.B.Source.list c.args.b) c.kind.ensures.lawful
          (λ t. let l = c.kind-2.ensures.lawful in rw (sym is ∙ c.same-alike.ensures.yes t ∙ is_2) l);
    }
