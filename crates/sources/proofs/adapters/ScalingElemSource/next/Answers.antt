use Rattle.std.proofs.Common.{◌≡◌}
use Rattle.sources.specs.Makers.{scaled}
use Rattle.sources.proofs.Held.{scaled_lawful, scaling_first}
use Rattle.sources.proofs.adapters.ScalingElemSource.next.Goals as goal

pub returns : goal.returns
returns g c =
    let s = c.args.self.now in
    let k = g.S.Source.kind_of s.inner in
    let w = g.S.Source.list s.inner in
    let L = g.K.Kind.laws k in
    let first : c.mul.result ≡ scaled L s.by w 0 =
    scaling_first
    g.K.Kind.ring
    g.K.Kind.laws
    c.kind-kind.result
    k
    c.kind-kind.ensures.is
    s.by
    w
    (c.kind-kind.ensures.lawful 0)
    c.next-word.result
    c.hold-by.result
    c.mul.result
    c.next-word.ensures.first
    c.hold-by.ensures
    c.mul.ensures in
    record {
      first = first;
      lawful = rw first (scaled_lawful L s.by w c.kind-kind.ensures.lawful 0);
      later = λ t. let l = c.next-word.ensures.later t in cc c.next-word.ensures.same;
      same = c.next-word.ensures.same;
    }
