-- How deep a kind of at most 2^31 numbers is.
use Rattle.std.proofs.Common.{ℕ, ◌^◌, ◌<◌, ◌≤◌, arith}
use native.Mathlib.Nat.{pow-le-pow_left}
use native.Mathlib.Decide.{dec_le}
use Rattle.residue.specs.Laws.{power_up}

pub too_deep : (p d : ℕ) → 2 ≤ p → 31 < d → 2 ^ 31 < p ^ d
too_deep p d low deep = omega (arith, pow-le-pow_left low d, power_up 2 (omega arith) 32 d (omega arith))

pub depth_high : (p d : ℕ) → 2 ≤ p → p ^ d ≤ 2 ^ 31 → d ≤ 31
depth_high p d low le = at (dec_le d 31)
  where
    at : Dec (d ≤ 31) → d ≤ 31
    at (yes k) = k
    at (no k) = absurd (omega (arith, too_deep p d low (omega arith)))
