use Rattle.std.proofs.Common.{suc, ◌<◌, length, get_or, sym, refl, ◌∙◌, subst, arith, get_or-set_same}
use Rattle.recurrence.specs.Findings.{blank}
use Rattle.levels.specs.Levels.{row_of, Stopped, Before, Served}
use Rattle.levels.proofs.Turns.{part_row, part_long, put_here, turn_place, turn_none, turned}
use Rattle.levels.proofs.Rounds.{whole_next, grown_start, grown_same, keeping_after, keeping_next}
use Rattle.levels.proofs.Levels.{room_above, raised, found_before, not_both}
use Rattle.levels.proofs.keep_levels.Goals as goal

pub loop-i-init : goal.loop-i-init
loop-i-init g c =
    let words = c.args.words.now in
    record {
      tables = c.requires.reduced.tables;
      grown = grown_start (g.K.Kind.laws words.kind) words.shape words.cells.now c.args.degree c.args.store.now c.requires.kept;
      row = λ j h _. refl;
      place = λ j h _. refl;
      before = λ j h. absurd (omega arith);
      served = λ j h. absurd (omega arith);
    }

pub loop-i-preserved-then-table-i : goal.loop-i-preserved-then-table-i
loop-i-preserved-then-table-i g c =
    let words = c.args.words.now in
    let L = g.K.Kind.laws words.kind in
    let shape = words.shape in
    let ws = words.cells.now in
    let s = c.args.degree in
    let i = c.loop-i.i in
    let fm = c.loop-i.finding in
    let places = c.loop-i.places in
    let inv = c.loop-i.invariant in
    let below : i < (g.K.Kind.ring words.kind).depth = omega (arith, c.loop-i-test.true, c.depth-depth.ensures.is) in
    let levels = c.args.table.now.levels in
    let after = keeping_after L shape ws s i c.args.finding.now fm levels c.args.places.now places c.args.store.now c.loop-i.store below inv c.requires.reduced.after in
    keeping_next L shape ws s i c.args.finding.now fm fm levels c.args.places.now places places c.args.store.now c.loop-i.store c.loop-i.store below
    (turn_none shape i fm levels places) inv (grown_same L shape ws (suc s) c.args.store.now c.loop-i.store inv.grown)
    (found_before L shape ws s i (get_or places i 0) (row_of shape fm i) (get_or levels i blank) c.if-table-i.true after)
    (λ h. absurd (not_both c.if-table-i.true h))

pub keep-requires : goal.keep-requires
keep-requires g c =
    let words = c.args.words.now in
    let L = g.K.Kind.laws words.kind in
    let shape = words.shape in
    let ws = words.cells.now in
    let s = c.args.degree in
    let i = c.loop-i.i in
    let fm = c.loop-i.finding in
    let places = c.loop-i.places in
    let inv = c.loop-i.invariant in
    let below : i < (g.K.Kind.ring words.kind).depth = omega (arith, c.loop-i-test.true, c.depth-depth.ensures.is) in
    let levels = c.args.table.now.levels in
    let after = keeping_after L shape ws s i c.args.finding.now fm levels c.args.places.now places c.args.store.now c.loop-i.store below inv c.requires.reduced.after in
    let a = c.row_start-a.result in
    let ea = c.row_start-a.ensures.at in
    let room = c.row_start-a.ensures.room in
    let st = subst (λ r. Stopped L shape ws s i r (get_or places i 0)) (sym (part_row shape fm a i ea)) (after.stopped c.if-table-i.false) in
    record { kept = inv.grown.store; place = st.within; zeros = st.zeros }

pub raise_row-requires : goal.raise_row-requires
raise_row-requires g c =
    let words = c.args.words.now in
    let L = g.K.Kind.laws words.kind in
    let shape = words.shape in
    let ws = words.cells.now in
    let s = c.args.degree in
    let i = c.loop-i.i in
    let fm = c.loop-i.finding in
    let places = c.loop-i.places in
    let inv = c.loop-i.invariant in
    let below : i < (g.K.Kind.ring words.kind).depth = omega (arith, c.loop-i-test.true, c.depth-depth.ensures.is) in
    let levels = c.args.table.now.levels in
    let after = keeping_after L shape ws s i c.args.finding.now fm levels c.args.places.now places c.args.store.now c.loop-i.store below inv c.requires.reduced.after in
    let a = c.row_start-a.result in
    let ea = c.row_start-a.ensures.at in
    let room = c.row_start-a.ensures.room in
    let st = subst (λ r. Stopped L shape ws s i r (get_or places i 0)) (sym (part_row shape fm a i ea)) (after.stopped c.if-table-i.false) in
    let long = part_long shape fm a room in
    record { long = omega (arith, long); lawful = st.lawful; top = st.monic.below _ (omega (arith, long, room_above L shape ws s i _ _ st)) }

pub loop-i-preserved : goal.loop-i-preserved
loop-i-preserved g c =
    let words = c.args.words.now in
    let L = g.K.Kind.laws words.kind in
    let shape = words.shape in
    let ws = words.cells.now in
    let s = c.args.degree in
    let i = c.loop-i.i in
    let fm = c.loop-i.finding in
    let places = c.loop-i.places in
    let inv = c.loop-i.invariant in
    let below : i < (g.K.Kind.ring words.kind).depth = omega (arith, c.loop-i-test.true, c.depth-depth.ensures.is) in
    let levels = c.args.table.now.levels in
    let after = keeping_after L shape ws s i c.args.finding.now fm levels c.args.places.now places c.args.store.now c.loop-i.store below inv c.requires.reduced.after in
    let a = c.row_start-a.result in
    let ea = c.row_start-a.ensures.at in
    let room = c.row_start-a.ensures.room in
    let st = subst (λ r. Stopped L shape ws s i r (get_or places i 0)) (sym (part_row shape fm a i ea)) (after.stopped c.if-table-i.false) in
    let new = c.raise_row.new.row in
    let p = c.saturating_sub.result in
    let len = c.raise_row.auto.row ∙ part_long shape fm a room in
    let fits : i < length places = omega (arith, inv.tables.place_room, L.depth_high) in
    keeping_next L shape ws s i c.args.finding.now fm _ levels c.args.places.now places _ c.args.store.now c.loop-i.store c.keep.new.store below
    (turn_place shape i a fm new levels places p ea room len) inv c.keep.ensures.grown
    (turned shape (λ r l q. Before L shape ws (suc s) i r l q) (put_here shape i a fm new ea room len) refl (get_or-set_same places i p 0 fits ∙ c.saturating_sub.ensures)
    (raised L shape ws s i (get_or places i 0) _ new (get_or levels i blank) c.if-table-i.false st c.raise_row.ensures))
    (turned shape (λ r l q. Served L shape ws r l q c.keep.new.store) {level = get_or levels i blank} (sym (part_row shape fm a i ea ∙ inv.row i below (omega arith))) refl
    (sym (inv.place i below (omega arith))) (λ _. c.keep.ensures.here))

pub returns : goal.returns
returns g c =
    let words = c.args.words.now in
    let inv = c.loop-i.invariant in
    let d = c.depth-depth.ensures.is in
    record {
      tables = inv.tables;
      kept = inv.grown.store;
      whole = whole_next (g.K.Kind.laws words.kind) words.shape words.cells.now c.args.degree c.requires.small (row_of words.shape c.args.finding.now)
          (λ i. get_or c.args.table.now.levels i blank) (λ i. get_or c.args.places.now i 0) c.args.store.now c.loop-i.store
          c.requires.whole c.requires.reduced.after c.requires.reduced.less (λ i h. inv.served i (omega arith)) inv.grown;
      before = λ j h. inv.before j (omega arith);
    }
