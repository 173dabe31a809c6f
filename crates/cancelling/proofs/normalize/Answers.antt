use Rattle.std.proofs.Common.{ℕ, ◌-◌, ◌≤◌, T, length, refl, inl, inr, arith}
use Rattle.recurrence.proofs.Elements.{read_at, read_lawful}
use Rattle.cancelling.proofs.Normals.{inverse_of, normal}
use Rattle.cancelling.proofs.normalize.Goals as goal

pub returns-then-m-eq0 : goal.returns-then-m-eq0
returns-then-m-eq0 g c =
    let lawful = c.if-not-all_lawful.ensures.yes tt in
    let counted = c.coefficients-m.ensures.is lawful in
    (inr (lawful, inl ((λ j. counted.past j (omega (arith, c.if-m-eq0.true))), refl)), refl)

pub scale-requires : goal.scale-requires
scale-requires g c =
    let taps = c.args.taps.now in
    let lawful = c.if-not-all_lawful.ensures.yes tt in
    let low : c.coefficients-m.result ≤ length taps = c.coefficients-m.ensures.low in
    let here : T ((g.K.Kind.ring c.args.kind.now).lawful c.index-taps-m.result)
    = read_lawful (g.K.Kind.ring c.args.kind.now) taps (length taps) (c.coefficients-m.result - 1) _ (omega arith) lawful (omega (arith, low, c.if-m-eq0.false)) c.index-taps-m.is in
    record {
      scalar = (inverse_of (g.K.Kind.laws c.args.kind.now) _ _ _ _ (c.split-valuation.ensures here) c.inverse.ensures).right;
      coefficients = lawful;
    }

pub returns : goal.returns
returns g c =
    let R = g.K.Kind.ring c.args.kind.now in
    let taps = c.args.taps.now in
    let m : ℕ = c.coefficients-m.result in
    let lawful = c.if-not-all_lawful.ensures.yes tt in
    let counted = c.coefficients-m.ensures.is lawful in
    let low : m ≤ length taps = c.coefficients-m.ensures.low in (
      (lawful, ((λ none. counted.last (m - 1) (omega (arith, c.if-m-eq0.false)) (none (m - 1))), tt)),
      normal (g.K.Kind.laws c.args.kind.now) taps _ m _ _ _ _ counted (omega (arith, c.if-m-eq0.false)) low
          (read_at R taps (m - 1) _ (omega (arith, low, c.if-m-eq0.false)) c.index-taps-m.is)
          (read_lawful R taps (length taps) (m - 1) _ (omega arith) lawful (omega (arith, low, c.if-m-eq0.false)) c.index-taps-m.is)
          c.split-valuation.ensures c.inverse.ensures c.scale.ensures,
    )
