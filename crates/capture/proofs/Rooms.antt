-- Memory that has room for the capacity has room for the words.
use Rattle.std.proofs.Common.{ℕ, suc, ◌+◌, ◌*◌, ◌<◌, ◌≤◌, mul-le-mul_right, suc-mul, arith}

-- one word more has room
pub room : (count capacity n size : ℕ) → count < capacity → capacity * n ≤ size → count * n + n ≤ size
room count capacity n size h b = let p : suc count * n ≤ capacity * n = mul-le-mul_right n h in omega (arith, suc-mul count n)
