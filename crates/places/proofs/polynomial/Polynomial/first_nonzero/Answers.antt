use Rattle.std.proofs.Common.{◌≡◌, false, T, sym, subst, arith, rules}
use Rattle.ring.specs.Lawful.{cells}
use Rattle.ring.proofs.Lifts as Lifts
use Rattle.places.proofs.Values.{zeros_on, not_zero}
use Rattle.places.proofs.polynomial.Polynomial.first_nonzero.Goals as goal

pub returns-then-not-is_zero : goal.returns-then-not-is_zero
returns-then-not-is_zero g c =
    let words = c.args.self.now.words.now in
    let L = g.K.Kind.laws words.kind in
    let is = c.value_at-value.ensures in
    let counts : c.is_zero.result ≡ false = search rules in
    record {
      onward = omega (arith, c.loop-q.auto.q);
      within = omega arith;
      zeros = c.loop-q.invariant;
      is = is;
      here = not_zero L words.shape words.cells.now _ _ is (λ z. subst T counts ((c.is_zero.ensures (Lifts.ok L is)).1 z));
    }

pub loop-q-preserved : goal.loop-q-preserved
loop-q-preserved g c =
    let words = c.args.self.now.words.now in
    let L = g.K.Kind.laws words.kind in
    let is = c.value_at-value.ensures in
    zeros_on L words.shape words.cells.now c.args.self.now.degree c.loop-q.q (cells L c.args.self.now.row.now) _ c.loop-q.invariant is
    ((c.is_zero.ensures (Lifts.ok L is)).0 (subst T (sym c.if-not-is_zero.false) tt))
