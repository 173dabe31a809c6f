use Rattle.std.proofs.Common.{◌+◌, ◌-◌, take, drop, refl, ◌∙◌, arith}
use Rattle.elimination.proofs.Clearings.{part_is, kept_read, cleared, stuck_there}
use Rattle.elimination.proofs.eliminate.Goals as goal

pub returns-in_default-quotient : goal.returns-in_default-quotient
returns-in_default-quotient g c =
    let words = c.args.words.now in
    let L = g.K.Kind.laws words.kind in
    let store = c.args.store.now in
    let kept = kept_read L words.shape words.cells.now store c.in-Some.first.0 c.row_start-a.result c.index-store-b.result c.requires.kept.lawful c.row_start-a.ensures.at c.row_start-a.ensures.room c.index-store-b.is in
    record {
      row = c.loop-first.invariant.0;
      top = c.loop-first.invariant.1;
      ends = stuck_there L words.shape words.cells.now c.args.degree c.in-Some.first.0 c.loop-first.row store c.loop-first.q c.in-Some.first.1 c.index-store-b.result c.in-Some.ensures kept
          c.in_default-quotient.ensures;
    }

pub loop-first-preserved : goal.loop-first-preserved
loop-first-preserved g c =
    let words = c.args.words.now in
    let L = g.K.Kind.laws words.kind in
    let store = c.args.store.now in
    let a = c.row_start-a.result in
    let q = c.in-Some.first.0 in
    let kept = kept_read L words.shape words.cells.now store q a c.index-store-b.result c.requires.kept.lawful c.row_start-a.ensures.at c.row_start-a.ensures.room c.index-store-b.is in
    let done = cleared L words.shape words.cells.now c.args.degree q c.loop-first.row store
    (take (a + (words.shape.count.words + 1) - a) (drop a store))
    c.sub_scaled.new.row c.in-Some.first.1 c.index-store-b.result c.in-Some-quotient.c
    c.loop-first.invariant.0 c.requires.kept c.in-Some.ensures.is kept
    (part_is store a _ q words.shape.count.words c.row_start-a.ensures.at refl)
    c.in-Some.ensures.zeros c.in-Some-quotient.ensures c.sub_scaled.auto.row c.sub_scaled.ensures in
    (done.row_is, done.top ∙ c.loop-first.invariant.1, omega (arith, c.in-Some.ensures.within), done.zeros)
