use Rattle.std.proofs.Common.{rules, ◌≡◌, ℕ, ◌+◌, ◌<◌, T, List, length, ◌∙◌, ap, sym, subst}
use Rattle.std.specs.Option.{MatchOption}
use Rattle.recurrence.specs.Memory.{at}
use Rattle.recurrence.specs.Reductions.{Coefficients}
use Rattle.recurrence.proofs.Elements.{lawful_below}
use Rattle.cancelling.proofs.Lasts.{last}
use Rattle.cancelling.proofs.coefficients.Goals as goal

pub returns-clause-is : goal.returns-clause-is
returns-clause-is g c lawful =
    let R = g.K.Kind.ring c.args.kind.now in
    let xs = c.iter.result.rest.now in
    let safe : (k : ℕ) → k < length xs → T (R.lawful (at R xs k)) =
    subst (λ (ys : List g.row.K-Elem.Denot). (k : ℕ) → k < length ys → T (R.lawful (at R ys k))) (sym c.iter.ensures.rest) (lawful_below R c.args.taps.now (length c.args.taps.now) lawful) in
    let counts : MatchOption c.rposition.result (c.map_or.result ≡ 0) (λ i. c.map_or.result ≡ i + 1) = search rules in
    let run = c.rposition.ensures.runs in
    let gave = c.iter.ensures.runs_back run.0 run.0.seen in
    subst (λ (xs : List g.row.K-Elem.Denot). Coefficients R c.map_or.result (at R xs)) c.iter.ensures.rest
    (last R c.iter.result.rest.now run.0.at run.0.len run.0.whole run.0.from.rest.now (ap (λ s. s.rest.now) run.1) gave.1 gave.2
    c.rposition.result run.2 c.rposition.ensures.bound (λ a r f' k. search rules)
    (λ b k h e x. let is : T (R.lawful b.now) → b.now ≡ R.zero = search rules in sym e ∙ is (subst (λ a. T (R.lawful a)) (sym e) (safe k h)))
    (λ b k h e x z. let is : T (R.lawful b.now) → b.now ≡ R.zero → ⊥ = search rules in is (subst (λ a. T (R.lawful a)) (sym e) (safe k h)) (e ∙ z))
    c.map_or.result counts)
