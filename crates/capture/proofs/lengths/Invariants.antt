use Rattle.std.proofs.Common.{◌≡◌, ℕ, ◌<◌, ◌≤◌, get_or}
use Rattle.recurrence.specs.Words.{words, Length}
use Rattle.capture.proofs.lengths.Given as goal

abbrev pub invariant-loop-j : goal.invariant-loop-j
invariant-loop-j g l =
    let R = g.K.Kind.ring l.kind in
    ((i : ℕ) → i < l.j → Length R l.shape.channels i (words R l.shape l.words) 0 (get_or l.numbers i 0))
    × ((i : ℕ) → l.j ≤ i → get_or l.numbers i 0 ≡ get_or l.initial.numbers i 0)
