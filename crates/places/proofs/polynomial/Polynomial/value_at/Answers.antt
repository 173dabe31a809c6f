use Rattle.std.proofs.Common.{◌≡◌, suc, ◌+◌, ◌≤◌, length, sym, ap, ◌∙◌, length-take-le, get_or-take, arith}
use Rattle.ring.specs.Lawful.{cells}
use Rattle.ring.proofs.Lifts as Lifts
use Rattle.places.proofs.Places.{place_within}
use Rattle.places.proofs.Values.{partial, partial_none, value_partial, value_next}
use Rattle.places.proofs.polynomial.Polynomial.value_at.Goals as goal

pub loop-j-init : goal.loop-j-init
loop-j-init g c =
    let L = g.K.Kind.laws c.args.self.now.words.now.kind in
    let words = c.args.self.now.words.now in
    Lifts.is_at L (sym (partial_none L words.shape words.cells.now (cells L c.args.self.now.row.now) c.args.q)) (Lifts.zero_is L c.zero-sum.ensures)

pub at-requires : goal.at-requires
at-requires g c =
    let fits : c.args.self.now.degree + 1 ≤ length c.args.self.now.row.now = omega (arith, c.args.self.now.fits.long, c.args.self.now.fits.small) in
    place_within c.args.self.now.words.now.shape c.args.q c.args.self.now.degree c.loop-j.j c.args.self.now.fits.small (omega (arith, length-take-le (c.args.self.now.degree + 1) c.args.self.now.row.now fits)) c.requires

pub loop-j-preserved : goal.loop-j-preserved
loop-j-preserved g c =
    let words = c.args.self.now.words.now in
    let fits : c.args.self.now.degree + 1 ≤ length c.args.self.now.row.now = omega (arith, c.args.self.now.fits.long, c.args.self.now.fits.small) in
    let long = length-take-le (c.args.self.now.degree + 1) c.args.self.now.row.now fits in
    value_next (g.K.Kind.laws words.kind) words.shape words.cells.now c.args.self.now.degree c.args.q c.loop-j.j c.args.self.now.row.now _ _ _ _ _
    c.args.self.now.fits (omega (arith, long)) (c.coefficient-item.is ∙ get_or-take (c.args.self.now.degree + 1) c.args.self.now.row.now c.loop-j.j _ (omega (arith, long)))
    c.at.ensures.lawful c.at.ensures.is c.loop-j.invariant c.mul-product.ensures c.add-sum.ensures

pub returns : goal.returns
returns g c =
    let words = c.args.self.now.words.now in
    let L = g.K.Kind.laws words.kind in
    let p = cells L c.args.self.now.row.now in
    let fits : c.args.self.now.degree + 1 ≤ length c.args.self.now.row.now = omega (arith, c.args.self.now.fits.long, c.args.self.now.fits.small) in
    let same : c.loop-j.j ≡ suc c.args.self.now.degree = omega (arith, c.loop-j.auto.j-end, length-take-le (c.args.self.now.degree + 1) c.args.self.now.row.now fits) in
    Lifts.is_at L (ap (partial L words.shape words.cells.now p c.args.q) same
    ∙ sym (value_partial L words.shape words.cells.now p c.args.self.now.degree c.args.q c.args.self.now.fits.small c.args.self.now.fits.below)) c.loop-j.invariant
