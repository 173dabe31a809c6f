use Rattle.std.proofs.Common.{◌≡◌, ℕ, List, length, get_or, sym, refl, ap, ◌∙◌, arith}
use Rattle.recurrence.specs.declared.shape.Level.{Level}
use Rattle.recurrence.specs.Findings.{blank}
use Rattle.levels.proofs.Levels.{started}
use Rattle.levels.proofs.Rounds.{get_or_same, store_start, whole_start}
use Rattle.annihilator.proofs.solve.Goals as goal

pub loop-degree-init : goal.loop-degree-init
loop-degree-init g c =
    let words = c.args.words.now in
    let L = g.K.Kind.laws words.kind in
    let shape = words.shape in
    let ws = words.cells.now in
    let empty = c.unfound.ensures in
    let none : (i : ℕ) → get_or c.unfound.result.levels i blank ≡ blank = λ i. ap (λ (levels : List Level). get_or levels i blank) empty ∙ get_or_same 31 i blank in
    record {
      tables = record { size = c.requires.size ∙ sym c.begin_levels.auto.finding; room = ap length empty; place_room = refl; rest = λ i h. none i };
      kept = store_start L shape ws c.clear.new.cells c.clear.ensures (c.requires.store_size ∙ sym c.clear.auto.cells);
      whole = whole_start L shape ws c.clear.new.cells;
      before = λ i h. started L shape ws i _ _ _ (none i) (get_or_same 31 i 0) (c.begin_levels.ensures i (omega (arith, c.depth.ensures.is)));
    }
