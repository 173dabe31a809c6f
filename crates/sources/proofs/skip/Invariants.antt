use Rattle.std.proofs.Common.{◌≡◌, ℕ, ◌+◌}
use Rattle.sources.proofs.skip.Given as goal

abbrev pub invariant-loop : goal.invariant-loop
invariant-loop g l =
    let s = g.S.Source in
    ((t : ℕ) → s.list l.source t ≡ s.list l.initial.source (l.counter + t))
    × (s.kind_of l.source ≡ s.kind_of l.initial.source)
