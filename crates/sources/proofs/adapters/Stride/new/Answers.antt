use Rattle.std.proofs.Common.{ℕ, ◌*◌, sym, refl, ap, ◌∙◌, one-mul, arith, rules}
use Rattle.sources.specs.Makers.{Makes, stride_rows, strided}
use Rattle.sources.proofs.Obeying.{obeys_same}
use Rattle.sources.proofs.adapters.Stride.new.Goals as goal

pub returns : goal.returns
returns g c =
    let m : ℕ = c.args.m in
    let w = g.S.Source.list c.args.inner in
    let R = g.K.Kind.ring (g.S.Source.kind_of c.args.inner) in
    let made : Makes (stride_rows m) R (λ t. w (m * t)) (strided R c.if-is_ok.step w) = search rules in
    record {
      inner = refl;
      list = made;
      obeys = λ D q e.
          obeys_same D q w (strided R c.if-is_ok.step w)
          (λ t. sym (made.accepted ((λ n. n (omega arith, omega arith)), tt) t ∙ ap w (ap (λ (k : ℕ). k * t) e ∙ one-mul t)));
    }
