use Rattle.std.proofs.Common.{◌≡◌, ℕ, ◌+◌, ◌*◌, ◌<◌, length}
use Rattle.rows.specs.Rows.{Holds, constant}
use Rattle.levels.specs.Levels.{row_of}
use Rattle.levels.proofs.begin_levels.Given as goal

abbrev pub invariant-loop-i : goal.invariant-loop-i
invariant-loop-i g l =
    let L = g.K.Kind.laws l.kind in
    (l.depth * (l.shape.count.words + 1) ≡ length l.finding) × ((j : ℕ) → j < l.i → Holds L (row_of l.shape l.finding j) (constant L j))
