use Rattle.std.proofs.Common.{◌≡◌, ℕ, ◌<◌, get_or}
use Rattle.rows.proofs.clear.Given as goal

abbrev pub invariant-loop-cell : goal.invariant-loop-cell
invariant-loop-cell g l = let R = g.K.Kind.ring l.kind in (j : ℕ) → j < l.cell-index → get_or l.cell-items j R.zero ≡ R.zero
