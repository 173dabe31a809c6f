-- The words of a capture, and which polynomials cancel them: e words of n channels, where S c k is channel c of word k.
use Rattle.std.specs.Prelude.{◌≡◌, cond, List, ℕ, zero, suc, ◌+◌, ◌-◌, ◌*◌, ◌<◌, ◌≤◌, T, ltb}
use Rattle.ring.specs.Ring.{Ring, sum, power}
use Rattle.recurrence.specs.declared.shape.Shape.{Shape}
use Rattle.recurrence.specs.Memory.{at}
use Rattle.recurrence.specs.Polynomials.{Lawful, Within, Degree, Leads, value}

-- where channel c of word k lies in the memory of a capture
abbrev pub place : Shape → ℕ → ℕ → ℕ
place s k c = k * s.channels + c

module _ {E : Type 0} (R : Ring E) where
  -- channel c of word k
  abbrev pub words : Shape → List E → ℕ → ℕ → E
  words s ws c k = at R ws (place s k c)

  module _ (n e : ℕ) (S : ℕ → ℕ → E) where
    -- every word is of lawful elements
    abbrev pub LawfulWords : Type 0
    LawfulWords = (k c : ℕ) → k < e → c < n → T (R.lawful (S c k))

    -- p cancels the words: its value is zero at every place where all the words that it reads are there, and in every channel.
    -- If its degree is e or more there is no such place, and a zero polynomial has no degree: these cancel.
    abbrev pub Cancels : (ℕ → E) → Type 0
    Cancels p = (m : ℕ) → Degree R m p → (k c : ℕ) → k + m < e → c < n → value R m p (S c) k ≡ R.zero

    -- every polynomial of level i that cancels the words has degree L or more
    abbrev pub Least : ℕ → ℕ → Type 0
    Least i L = (m : ℕ) (p : ℕ → E) → Lawful R p → Leads R i m p → Cancels p → L ≤ m

    -- L is the length at level i: the least degree of the polynomials of level i that cancel the words
    pub record Length (i L : ℕ) : Type 0 where
      pub polynomial : ℕ → E
      pub lawful : Lawful R polynomial
      pub leads : Leads R i L polynomial
      pub cancels : Cancels polynomial
      pub least : Least i L

    -- p is a shortest polynomial of level i: of degree L, with leading coefficient step^i, it cancels the words, and no shorter one of its level does
    pub record Shortest (i L : ℕ) (p : ℕ → E) : Type 0 where
      pub lawful : Lawful R p
      pub above : Within R (suc L) p
      pub top : p L ≡ power R R.step i
      pub cancels : Cancels p
      pub least : Least i L

  module _ (e : ℕ) (S : ℕ → ℕ → E) (L : ℕ) (p : ℕ → E) where
    -- the words, continued by the monic polynomial p of degree L, as far as r turns reach; word k wants k + 1 turns
    unfoldable pub turns : ℕ → ℕ → ℕ → E
    turns c zero k = R.zero
    turns c (suc r) k = cond (ltb k e) (S c k) (R.sub R.zero (sum R L (λ j. R.mul (p j) (turns c r (k - L + j)))))

    -- channel c of word k of the run: before e the words themselves, and from e on minus the sum of p(j) × word (k - L + j) over j below L
    abbrev pub run : ℕ → ℕ → E
    run c k = turns c (suc k) k

    -- f cancels the run of n channels: its value is zero at every place of it
    abbrev pub CancelsRun : ℕ → (ℕ → E) → Type 0
    CancelsRun n f = (m : ℕ) → Degree R m f → (k c : ℕ) → c < n → value R m f (run c) k ≡ R.zero
