use mathlib.Core.Path.{sym, subst}
use Prim.Native.Nat.{ℕ, ◌+◌}
use native.Mathlib.Omega.{arith}
use lib.ListN.{get_or}
use Rattle.inverses.specs.declared.table.TheConstants.{INVERSES}
use Rattle.inverses.specs.Bases.{Inverse}
use Rattle.inverses.proofs.Bases.{listed_low}
use Rattle.inverses.proofs.Rule.{entry, start_fits}
use Rattle.inverses.proofs.base.Base.inverse.Goals as goal

pub overflow_add-self : goal.overflow_add-self
overflow_add-self c = omega (arith, start_fits c.args.self.value c.args.self.ok.0)

pub bounds-self : goal.bounds-self
bounds-self c = omega (arith, start_fits c.args.self.value c.args.self.ok.0)

pub returns-then-r-self : goal.returns-then-r-self
returns-then-r-self c =
    let b = c.args.self in
    subst (λ (x : ℕ). Inverse b.value c.args.r x) (sym c.from.ensures)
    (subst (λ (s : ℕ). Inverse b.value c.args.r (get_or INVERSES (s + c.args.r) 0)) (sym b.ok.1)
    (entry b.value b.ok.0 c.args.r c.if-r-self.true))

pub returns-else-r-self : goal.returns-else-r-self
returns-else-r-self c =
    let b = c.args.self in
    let low = listed_low b.value b.ok.0 in
    record { below = omega arith; product = λ _ lt. absurd (omega arith); zero = λ _. omega arith; past = λ _. omega arith }
