use Rattle.std.proofs.Common.{◌<◌, get_or, sym, ◌∙◌, subst, arith, rules}
use Rattle.recurrence.specs.Findings.{blank}
use Rattle.levels.specs.Levels.{row_of, Open}
use Rattle.levels.proofs.Turns.{part_row, part_long, turn_none}
use Rattle.levels.proofs.Rounds.{reducing_next, reduced_next}
use Rattle.levels.proofs.Levels.{to_eliminate, found_after, not_both}
use Rattle.levels.proofs.reduce_levels.Goals as goal

pub loop-i-init : goal.loop-i-init
loop-i-init g c = record { tables = c.requires.ready.tables; before = λ j h _. c.requires.ready.before j h; after = λ j h. absurd (omega arith); less = λ j h. absurd (omega arith) }

pub loop-i-preserved-then-table-i : goal.loop-i-preserved-then-table-i
loop-i-preserved-then-table-i g c =
    let words = c.args.words.now in
    let L = g.K.Kind.laws words.kind in
    let shape = words.shape in
    let ws = words.cells.now in
    let s = c.args.degree in
    let i = c.loop-i.i in
    let fm = c.loop-i.finding in
    let places = c.loop-i.places in
    let inv = c.loop-i.invariant in
    let below : i < (g.K.Kind.ring words.kind).depth = omega (arith, c.loop-i-test.true, c.depth-depth.ensures.is) in
    let levels = c.loop-i.table.levels in
    reducing_next L shape ws i fm fm levels levels places places (turn_none shape i fm levels places) below s c.args.store.now inv
    (found_after L shape ws s i (get_or places i 0) (row_of shape fm i) (get_or levels i blank) c.if-table-i.true (inv.before i below (omega arith)))
    (λ h. absurd (not_both c.if-table-i.true h))

pub eliminate-place-requires : goal.eliminate-place-requires
eliminate-place-requires g c =
    let words = c.args.words.now in
    let L = g.K.Kind.laws words.kind in
    let shape = words.shape in
    let ws = words.cells.now in
    let s = c.args.degree in
    let i = c.loop-i.i in
    let fm = c.loop-i.finding in
    let places = c.loop-i.places in
    let inv = c.loop-i.invariant in
    let below : i < (g.K.Kind.ring words.kind).depth = omega (arith, c.loop-i-test.true, c.depth-depth.ensures.is) in
    let a = c.row_start-a.result in
    let ea = c.row_start-a.ensures.at in
    let room = c.row_start-a.ensures.room in
    to_eliminate L shape ws s i _ _ c.args.store.now c.requires.small (part_long shape fm a room) c.requires.ready.kept
    (subst (λ r. Open L shape ws s i r (get_or places i 0)) (sym (part_row shape fm a i ea)) ((inv.before i below (omega arith)).going c.if-table-i.false))

pub loop-i-preserved : goal.loop-i-preserved
loop-i-preserved g c =
    let words = c.args.words.now in
    let L = g.K.Kind.laws words.kind in
    let shape = words.shape in
    let ws = words.cells.now in
    let s = c.args.degree in
    let i = c.loop-i.i in
    let fm = c.loop-i.finding in
    let below : i < (g.K.Kind.ring words.kind).depth = omega (arith, c.loop-i-test.true, c.depth-depth.ensures.is) in
    let a = c.row_start-a.result in
    let ea = c.row_start-a.ensures.at in
    let room = c.row_start-a.ensures.room in
    let new = c.eliminate-place.new.row in
    let len = c.eliminate-place.auto.row ∙ part_long shape fm a room in
    rw c.put.ensures
    (reduced_next L shape ws s i a fm new c.loop-i.table.levels c.loop-i.places c.args.store.now c.eliminate-place.result _ c.place_count-end.result _ ea room len
    below c.requires.small c.requires.ready.whole c.loop-i.invariant c.if-table-i.false c.eliminate-place.ensures (search rules) (search rules))

pub returns : goal.returns
returns g c =
    let d = c.depth-depth.ensures.is in
    let inv = c.loop-i.invariant in
    record { tables = inv.tables; after = λ j h. inv.after j (omega arith); less = λ j h. inv.less j (omega arith) }
