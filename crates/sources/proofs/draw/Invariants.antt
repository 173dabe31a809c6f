use Rattle.std.proofs.Common.{◌≡◌, ℕ, ◌+◌, ◌<◌, get_or}
use Rattle.sources.proofs.draw.Given as goal

-- the elements written so far are the first of the list
abbrev pub invariant-loop-cell : goal.invariant-loop-cell
invariant-loop-cell g l =
    let s = g.S.Source in
    ((i : ℕ) → i < l.cell-index → (d : _) → get_or l.cell-items i d ≡ s.list l.initial.source i)
    × ((t : ℕ) → s.list l.source t ≡ s.list l.initial.source (l.cell-index + t))
    × (s.kind_of l.source ≡ s.kind_of l.initial.source)
