use Rattle.std.proofs.Common.{◌≡◌, refl, ap, ◌∙◌}
use Rattle.ring.specs.Lawful.{hold}
use Rattle.sources.proofs.Held.{scaling_makes}
use Rattle.sources.proofs.Obeying.{scaled_obeys}
use Rattle.sources.proofs.adapters.Scaling.new.Goals as goal

pub returns : goal.returns
returns g c =
    let k = g.S.Source.kind_of c.args.inner in
    let w = g.S.Source.list c.args.inner in
    let L = g.K.Kind.laws k in
    let by : c.hold-by.result ≡ (hold L c.args.c).0 = c.hold-by.ensures ∙ ap (λ (j : g.row.K.Denot). (hold (g.K.Kind.laws j) c.args.c).0) c.kind.ensures.is in
    record {
      inner = refl;
      list = scaling_makes L c.args.c c.hold-by.result by w c.kind.ensures.lawful;
      obeys = λ D q. scaled_obeys L D q c.hold-by.result w c.kind.ensures.lawful;
    }
