-- What sources that are built on other sources refuse, and the lists that they have.
use Rattle.std.specs.Prelude.{◌≡◌, ℕ, ◌+◌, ◌*◌, ◌≤◌, Bool, cond, T, List, [], ◌∷◌, ◌==◌}
use Rattle.ring.specs.declared.Refusal.{Refusal}
use Rattle.ring.specs.declared.Refusal.TheVariants.{Foreign, Span, Short}
use Rattle.ring.specs.Refusals.{Row, Passes, Refuses}
use Rattle.ring.specs.Ring.{Ring, Laws}
use Rattle.ring.specs.Lawful.{hold}

-- a source made of what has these reasons to be refused: where none fits its list is w, else it has zeros only
pub record Makes {E : Type 0} (rows : List Row) (R : Ring E) (w made : ℕ → E) : Type 0 where
  pub accepted : Passes rows → (t : ℕ) → made t ≡ w t
  pub refused : (e : Refusal) → Refuses rows e → (t : ℕ) → made t ≡ R.zero

-- the longest stride
abbrev pub longest : ℕ
longest = 65536

abbrev pub stride_rows : ℕ → List Row
stride_rows m = (¬ ((1 ≤ m) × (m ≤ longest)), Span) ∷ []

abbrev pub sum_rows : {K : Type 0} → K → K → List Row
sum_rows a b = (¬ (a ≡ b), Foreign) ∷ []

abbrev pub draw_rows : ℕ → ℕ → ℕ → List Row
draw_rows room from m = (¬ (from + m ≤ room), Short) ∷ []

module _ {E : Type 0} (R : Ring E) where
  abbrev pub scaling_rows : E → List Row
  scaling_rows c = (¬ T (R.lawful c), Foreign) ∷ []

  -- every m-th element; zeros for m = 0
  abbrev pub strided : ℕ → (ℕ → E) → ℕ → E
  strided m w t = cond (m == 0) R.zero (w (m * t))

module _ {E : Type 0} {R : Ring E} (L : Laws R) where
  -- the sums of two lists of one kind, those of the second as far as they are lawful; zeros of lists that are not of one kind
  abbrev pub summed : Bool → (ℕ → E) → (ℕ → E) → ℕ → E
  summed alike v w t = cond alike (R.add (v t) (hold L (w t)).0) R.zero

  -- each element times c, as far as c is lawful
  abbrev pub scaled : E → (ℕ → E) → ℕ → E
  scaled c w t = R.mul (hold L c).0 (w t)
