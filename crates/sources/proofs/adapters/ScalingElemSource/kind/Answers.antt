use Rattle.sources.proofs.Held.{scaled_lawful}
use Rattle.sources.proofs.adapters.ScalingElemSource.kind.Goals as goal

pub returns : goal.returns
returns g c =
    let s = c.args.self.now in
    record {
      is = c.kind.ensures.is;
      lawful = scaled_lawful (g.K.Kind.laws (g.S.Source.kind_of s.inner)) s.by (g.S.Source.list s.inner) c.kind.ensures.lawful;
    }
