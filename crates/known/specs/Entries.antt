-- A capture with its finding as it is known beforehand, and when the definitions yield it.
use Rattle.std.specs.Prelude.{◌≡◌, ℕ, ◌+◌, ◌<◌, Bool, true, T, ◌↔◌, List, [], ◌∷◌, length, get_or, slice_index_or}
use Rattle.ring.specs.Ring.{Ring}
use Rattle.recurrence.specs.declared.shape.Level.{Level}
use Rattle.recurrence.specs.Memory.{at}
use Rattle.recurrence.specs.Words.{Length}
use Rattle.recurrence.specs.Findings.{long, Settled, row, run_of, Finding}
use Rattle.recurrence.specs.Reductions.{Rest, Coefficients}

-- Words are listed one after the other, each channel by channel. A finding is its levels and its memory, a row for each level, as long as there are
-- words and one more. Then whether it is settled, some of the words that come next, and polynomials to try, each with the number of coefficients left.
pub record Entry (E : Type 0) : Type 0 where
  pub channels : ℕ
  pub words : List (List E)
  pub levels : List Level
  pub memory : List E
  pub settled : Bool
  pub next : List (List E)
  pub tried : List (List E × ℕ)

-- words of one channel
abbrev pub one_channel : {E : Type 0} → List E → List (List E)
one_channel [] = []
one_channel (a ∷ rest) = (a ∷ []) ∷ one_channel rest

-- a level that is found
abbrev pub long_is : ℕ → Level
long_is l = record { length = l; found = true }

module _ {E : Type 0} (R : Ring E) where
  -- channel c of word k
  abbrev pub channel : List (List E) → ℕ → ℕ → E
  channel words c k = at R (slice_index_or words k []) c

  module _ (x : Entry E) where
    abbrev pub count : ℕ
    count = length x.words

    -- a finding of the entry's words
    abbrev pub Finds : List Level → List E → Type 0
    Finds levels fm = Finding R count levels fm x.channels (channel x.words)

    -- The entry's finding is one, and its lengths are the lengths by level. Whichever finding of these words is taken, it is settled or not as the entry
    -- says, its run goes on with the words that come next, and whichever rest a polynomial tried has by it, that has as many coefficients as the entry says.
    pub record Yields : Type 0 where
      pub finding : Finds x.levels x.memory
      pub lengths : (i : ℕ) → i < R.depth → Length R x.channels count (channel x.words) i (long x.levels i)
      pub settled : (levels : List Level) (fm : List E) → Finds levels fm → Settled count levels ↔ T x.settled
      pub next : (levels : List Level) (fm : List E) → Finds levels fm → (t c : ℕ) → t < length x.next → c < x.channels
          → run_of R count levels fm (channel x.words) c (count + t) ≡ channel x.next c t
      pub left : (levels : List Level) (fm : List E) → Finds levels fm → (j : ℕ) → j < length x.tried
          → (r : ℕ → E) → Rest R (long levels) (row R count levels fm) r (at R (get_or x.tried j ([], 0)).0) → Coefficients R (get_or x.tried j ([], 0)).1 r
