use mathlib.Core.Path.{◌≡◌}
use Prim.Native.Nat.{◌+◌, ◌*◌, ◌^◌, ◌≤◌}
use lib.ListN.{drop}
use Rattle.inverses.specs.Bases.{bases, among, before, listed, start}
use Rattle.inverses.proofs.base.Base.new.Given as goal

-- p is listed if it is among the bases still to come, and then so far is its start
abbrev pub invariant-loop-base : goal.invariant-loop-base
invariant-loop-base l = (listed l.p ≡ among l.p (drop l.base-index bases)) × (start l.p ≡ l.start + before l.p (drop l.base-index bases)) × (l.start ≤ 2 ^ 32 * l.base-index)
