use Rattle.std.proofs.Common.{ℕ, ◌<◌, get_or}
use Rattle.truncated.specs.Polynomials.{bound}
use Rattle.truncated.proofs.TruncatedKind.is_lawful.Given as goal

abbrev pub invariant-loop-j : goal.invariant-loop-j
invariant-loop-j l = (k : ℕ) → k < l.j → get_or l.a.coefficients k 0 < bound l.self.base.value l.self.depth k
