-- The meaning of a coefficient kind: a finite chain ring on its lawful elements.
use Rattle.std.specs.Prelude.{◌≡◌, ℕ, zero, suc, ◌<◌, ◌≤◌, Bool, T, ◌≢◌}

-- The operations are total; what they answer of elements that are not lawful means nothing.
pub record Ring (E : Type 0) : Type 0 where
  pub depth : ℕ
  pub lawful : E → Bool
  pub zero : E
  pub one : E
  pub step : E
  pub add : E → E → E
  pub sub : E → E → E
  pub mul : E → E → E

module _ {E : Type 0} (R : Ring E) where
  -- f 0 + f 1 + .. + f (n - 1)
  unfoldable pub sum : ℕ → (ℕ → E) → E
  sum zero f = R.zero
  sum (suc n) f = R.add (sum n f) (f n)

  -- x^n
  unfoldable pub power : E → ℕ → E
  power x zero = R.one
  power x (suc n) = R.mul (power x n) x

  -- u is a unit, and w its inverse
  pub record UnitOf (u w : E) : Type 0 where
    pub left : T (R.lawful u)
    pub right : T (R.lawful w)
    pub product : R.mul u w ≡ R.one

  -- a = step^v × u with u a unit; v is the depth exactly at zero
  pub record Split (a : E) (v : ℕ) (u : E) : Type 0 where
    pub whole : a ≡ R.mul (power R.step v) u
    pub low : v ≤ R.depth
    pub zero_end : a ≡ R.zero → v ≡ R.depth
    pub end_zero : v ≡ R.depth → a ≡ R.zero
    pub unit : (w : E) × UnitOf u w

-- The lawful elements are closed under the operations, and are a commutative ring.
pub record RingLaws {E : Type 0} (R : Ring E) : Type 0 where
  pub zero_lawful : T (R.lawful R.zero)
  pub one_lawful : T (R.lawful R.one)
  pub step_lawful : T (R.lawful R.step)
  pub add_lawful : (a b : E) → T (R.lawful a) → T (R.lawful b) → T (R.lawful (R.add a b))
  pub sub_lawful : (a b : E) → T (R.lawful a) → T (R.lawful b) → T (R.lawful (R.sub a b))
  pub mul_lawful : (a b : E) → T (R.lawful a) → T (R.lawful b) → T (R.lawful (R.mul a b))
  pub add_comm : (a b : E) → T (R.lawful a) → T (R.lawful b) → R.add a b ≡ R.add b a
  pub add_assoc : (a b c : E) → T (R.lawful a) → T (R.lawful b) → T (R.lawful c) → R.add (R.add a b) c ≡ R.add a (R.add b c)
  pub add_zero : (a : E) → T (R.lawful a) → R.add a R.zero ≡ a
  pub sub_add : (a b : E) → T (R.lawful a) → T (R.lawful b) → R.add (R.sub a b) b ≡ a
  pub mul_comm : (a b : E) → T (R.lawful a) → T (R.lawful b) → R.mul a b ≡ R.mul b a
  pub mul_assoc : (a b c : E) → T (R.lawful a) → T (R.lawful b) → T (R.lawful c) → R.mul (R.mul a b) c ≡ R.mul a (R.mul b c)
  pub mul_one : (a : E) → T (R.lawful a) → R.mul a R.one ≡ a
  pub mul_add : (a b c : E) → T (R.lawful a) → T (R.lawful b) → T (R.lawful c) → R.mul a (R.add b c) ≡ R.add (R.mul a b) (R.mul a c)

-- And every one of them is a power of the step times a unit. The step's powers are not zero before the depth, and zero there.
pub record Laws {E : Type 0} (R : Ring E) : Type 0 where
  pub ring_laws : RingLaws R
  pub depth_low : 1 ≤ R.depth
  pub depth_high : R.depth ≤ 31
  pub power_not : (i : ℕ) → i < R.depth → power R R.step i ≢ R.zero
  pub power_end : power R R.step R.depth ≡ R.zero
  pub splits : (a : E) → T (R.lawful a) → (v : ℕ) × (u : E) × Split R a v u
