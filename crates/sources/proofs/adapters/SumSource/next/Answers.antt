use Rattle.std.proofs.Common.{◌≡◌}
use Rattle.sources.specs.Makers.{summed}
use Rattle.sources.proofs.Held.{summed_lawful, sum_first}
use Rattle.sources.proofs.adapters.SumSource.next.Goals as goal

pub returns : goal.returns
returns g c =
    let s = c.args.self.now in
    let k = g.A.Source.kind_of s.a in
    let v = g.A.Source.list s.a in
    let w = g.B.Source.list s.b in
    let L = g.K.Kind.laws k in
    let first : c.add.result ≡ summed L s.alike v w 0 =
    sum_first g.K.Kind.ring g.K.Kind.laws c.kind-kind.result k c.kind-kind.ensures.is s.alike c.if-not-self.false v w (c.kind-kind.ensures.lawful 0)
    c.next-x.result c.next-y.result c.hold-y.result c.add.result c.next-x.ensures.first c.next-y.ensures.first c.hold-y.ensures c.add.ensures in
    record {
      first = first;
      lawful = rw first (summed_lawful L s.alike v w c.kind-kind.ensures.lawful 0);
      later = λ t. let l = c.next-x.ensures.later t in let m = c.next-y.ensures.later t in cc c.next-x.ensures.same;
      same = c.next-x.ensures.same;
    }
