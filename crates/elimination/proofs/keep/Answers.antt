use Rattle.std.proofs.Common.{◌+◌, ◌-◌, ◌<◌, set, sym, subst, arith}
use borrow.Rule.Slice.PartMut.{put_mid}
use Rattle.ring.specs.Lawful.{cells, level_of}
use Rattle.ring.proofs.Lifts as Lifts
use Rattle.recurrence.proofs.Captures.{value}
use Rattle.places.specs.Places.{capture_of}
use Rattle.elimination.specs.Stores.{kept_level}
use Rattle.elimination.proofs.Clearings.{kept_read}
use Rattle.rows.proofs.Quotients.{level_is}
use Rattle.elimination.proofs.Keeps.{Written, written, kept_there}
use Rattle.elimination.proofs.keep.Goals as goal

pub returns-then-own-kept : goal.returns-then-own-kept
returns-then-own-kept g c =
    let L = g.K.Kind.laws c.args.polynomial.now.words.now.kind in
    let shape = c.args.polynomial.now.words.now.shape in
    let ws = c.args.polynomial.now.words.now.cells.now in
    let row = c.args.polynomial.now.row.now in
    let store = c.args.store.now in
    let a = c.row_start-a.result in
    let x = c.value_at-value.result in
    let is = c.value_at-value.ensures in
    let old = kept_read L shape ws store c.args.q a _ c.requires.kept.lawful c.row_start-a.ensures.at c.row_start-a.ensures.room c.index-store-b.is in
    let made = subst (λ xs. Written L shape ws c.args.q row store (set (put_mid a (a + (shape.count.words + 1) - a) store xs) (a + (shape.count.words + 1)) x) x)
    (sym c.copy_from_slice.ensures.after)
    (written L shape ws c.args.q a row store x c.row_start-a.ensures.at c.row_start-a.ensures.room c.args.polynomial.now.fits.long c.requires.kept.lawful c.args.polynomial.now.fits.lawful (Lifts.ok L is)) in
    let less : level_of L (value (capture_of L shape ws) (cells L row) c.args.q) < kept_level L shape store c.args.q
    = omega (arith, c.if-own-kept.true, level_is L x _ _ _ is c.split-own.ensures, level_is L c.index-store-b.result _ _ _ old c.split-kept.ensures) in
    kept_there L shape ws c.args.polynomial.now.degree c.args.q row store _ x c.args.polynomial.now.fits c.requires is made less

pub returns-else-own-kept : goal.returns-else-own-kept
returns-else-own-kept g c =
    let L = g.K.Kind.laws c.args.polynomial.now.words.now.kind in
    let old = kept_read L c.args.polynomial.now.words.now.shape c.args.polynomial.now.words.now.cells.now c.args.store.now c.args.q c.row_start-a.result _ c.requires.kept.lawful c.row_start-a.ensures.at c.row_start-a.ensures.room c.index-store-b.is in
    record {
      grown = record { store = c.requires.kept; smaller = λ q. omega arith };
      here = omega (arith, c.if-own-kept.false, level_is L c.value_at-value.result _ _ _ c.value_at-value.ensures c.split-own.ensures, level_is L c.index-store-b.result _ _ _ old c.split-kept.ensures);
    }
