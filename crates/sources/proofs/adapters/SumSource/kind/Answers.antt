use Rattle.sources.proofs.Held.{summed_lawful}
use Rattle.sources.proofs.adapters.SumSource.kind.Goals as goal

pub returns : goal.returns
returns g c =
    let s = c.args.self.now in
    record {
      is = c.kind.ensures.is;
      lawful = summed_lawful (g.K.Kind.laws (g.A.Source.kind_of s.a)) s.alike (g.A.Source.list s.a) (g.B.Source.list s.b) c.kind.ensures.lawful;
    }
