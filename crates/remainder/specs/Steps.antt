-- One step of a reduction in memory.
use Rattle.std.specs.Prelude.{ℕ, ◌+◌}
use Rattle.ring.specs.Ring.{Ring}

-- coefficient k + i of f - u y^k p
abbrev pub taken : {E : Type 0} → Ring E → (ℕ → E) → ℕ → E → (ℕ → E) → ℕ → E
taken R f k u p i = R.sub (f (k + i)) (R.mul u (p i))
