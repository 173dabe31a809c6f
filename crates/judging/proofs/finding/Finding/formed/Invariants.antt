use Rattle.std.proofs.Common.{ℕ, ◌<◌}
use Rattle.judging.proofs.Powers.{Power}
use Rattle.judging.proofs.Forms.{FormedAt}
use Rattle.judging.proofs.finding.Finding.formed.Given as goal

abbrev pub invariant-loop-i : goal.invariant-loop-i
invariant-loop-i g l = record {
  power : Power (g.K.Kind.laws l.self.kind) l.i l.power;
  formed : (j : ℕ) → j < l.i → FormedAt (g.K.Kind.ring l.self.kind) l.words l.self.record.now.levels l.self.cells.now j;
}
