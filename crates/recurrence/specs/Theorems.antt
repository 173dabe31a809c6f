-- What holds of recurrences over every kind, through its laws alone.
use Rattle.std.specs.Prelude.{◌≡◌, ◌↔◌, List, ℕ, suc, ◌+◌, ◌-◌, ◌*◌, ◌<◌, ◌≤◌}
use Rattle.ring.specs.Ring.{Ring, sum}
use Rattle.recurrence.specs.declared.shape.Level.{Level}
use Rattle.recurrence.specs.Memory.{Unlawful}
use Rattle.recurrence.specs.Polynomials.{Lawful, Zero, Within, value, Obeys}
use Rattle.recurrence.specs.Words.{LawfulWords, Length, Shortest, run}
use Rattle.recurrence.specs.Findings.{long, Settled, extent, row, Formed, run_of, CancelsRunOf, Finding}
use Rattle.recurrence.specs.Reductions.{Rest}
use Rattle.recurrence.specs.Store.{Normal, Complete, Stuck, Best, Keeps}

module _ {E : Type 0} (R : Ring E) where
  -- What cancels as many places of a list as a recurrence that the list obeys is long cancels all of them.
  abbrev pub RecurrenceSettles : Type 0
  RecurrenceSettles = (D : ℕ) (q w : ℕ → E) → Obeys R D q w → Lawful R w
      → (m : ℕ) (p : ℕ → E) → Lawful R p → ((t : ℕ) → t < D → value R m p w t ≡ R.zero)
      → (t : ℕ) → value R m p w t ≡ R.zero

  -- The list w begins with the words of a channel and goes on by the monic polynomial p of degree L: from e on each word is minus the sum of
  -- p(j) × word (k - L + j) over j below L.
  pub record Continues (e : ℕ) (S : ℕ → E) (L : ℕ) (p w : ℕ → E) : Type 0 where
    pub begins : (k : ℕ) → k < e → w k ≡ S k
    pub goes_on : (k : ℕ) → e ≤ k → w k ≡ R.sub R.zero (sum R L (λ j. R.mul (p j) (w (k - L + j))))

  -- The run continues the words, and nothing else does.
  abbrev pub RunContinues : Type 0
  RunContinues = (e : ℕ) (S : ℕ → ℕ → E) (L : ℕ) (p : ℕ → E) → L ≤ e → (c : ℕ)
      → Continues e (S c) L p (run R e S L p c)
      × ((w : ℕ → E) → Continues e (S c) L p w → (k : ℕ) → w k ≡ run R e S L p c k)

  -- Where what is kept is complete below degree s, a stuck polynomial of degree s and leading coefficient step^i is the best of its degree and
  -- level; and with one for each level kept as well, it is complete below degree s + 1. (Below degree 0 anything is.)
  abbrev pub StoreStands : Type 0
  StoreStands = (n e : ℕ) (S : ℕ → ℕ → E) → 0 < n → LawfulWords R n e S
      → (s : ℕ) (v : ℕ → ℕ) → ((q : ℕ) → v q ≤ R.depth) → Complete R n e S s v
      → (p : ℕ → ℕ → E) → ((i : ℕ) → i < R.depth → Normal R i s (p i) × Stuck R n e S s v (p i))
      → ((i : ℕ) → i < R.depth → Best R n e S i s (p i))
      × ((v' : ℕ → ℕ) → Keeps R n e S s v p v' → Complete R n e S (suc s) v')

  -- Lengths do not grow from level to level, and are at most e; so a level has one length.
  abbrev pub LengthsFall : Type 0
  LengthsFall = (n e : ℕ) (S : ℕ → ℕ → E) → 0 < n → LawfulWords R n e S
      → (i j k l : ℕ) → i ≤ j → j < R.depth → Length R n e S i k → Length R n e S j l → (l ≤ k) × (k ≤ e)

  -- a finding of lawful words, at least one channel wide
  pub record Stands (n e : ℕ) (S : ℕ → ℕ → E) (levels : List Level) (fm : List E) : Type 0 where
    pub wide : 0 < n
    pub words : LawfulWords R n e S
    pub finding : Finding R e levels fm n S

  -- The row of a level is a shortest polynomial, and its length is the length at that level.
  abbrev pub RowsShortest : Type 0
  RowsShortest = (n e : ℕ) (S : ℕ → ℕ → E) (levels : List Level) (fm : List E) → Stands n e S levels fm
      → (i : ℕ) → i < R.depth → Shortest R n e S i (long levels i) (row R e levels fm i) × Length R n e S i (long levels i)

  -- Every row of a settled finding cancels the run.
  abbrev pub RowsCancelRun : Type 0
  RowsCancelRun = (n e : ℕ) (S : ℕ → ℕ → E) (levels : List Level) (fm : List E) → Stands n e S levels fm → Settled e levels
      → (i : ℕ) → i < R.depth → CancelsRunOf R e levels fm n S (row R e levels fm i)

  -- A rest by a settled finding is zero exactly if the polynomial cancels the run, whichever units were split off.
  abbrev pub RestTells : Type 0
  RestTells = (n e : ℕ) (S : ℕ → ℕ → E) (levels : List Level) (fm : List E) → Stands n e S levels fm → Settled e levels
      → (f r : ℕ → E) (N : ℕ) → Lawful R f → Within R N f → Rest R (long levels) (row R e levels fm) r f
      → Zero R r ↔ CancelsRunOf R e levels fm n S f

  -- Every polynomial has a rest by a formed finding of lawful elements: a rest of lawful elements that is not longer.
  abbrev pub RestExists : Type 0
  RestExists = (e : ℕ) (levels : List Level) (fm : List E) → Formed R e levels fm → (¬ Unlawful R fm (extent R e))
      → (f : ℕ → E) (N : ℕ) → Lawful R f → Within R N f
      → (r : ℕ → E) × Lawful R r × Within R N r × Rest R (long levels) (row R e levels fm) r f

  -- If the words are of a list that obeys a monic polynomial of degree D, in every channel, and number 2D or more, the run is that list.
  abbrev pub RunForetells : Type 0
  RunForetells = (n e : ℕ) (S : ℕ → ℕ → E) (levels : List Level) (fm : List E) → Stands n e S levels fm
      → (w : ℕ → ℕ → E) (D : ℕ) (q : ℕ → E) → 2 * D ≤ e
      → ((c : ℕ) → c < n → Lawful R (w c) × Obeys R D q (w c)) → ((k c : ℕ) → k < e → c < n → S c k ≡ w c k)
      → (c k : ℕ) → c < n → run_of R e levels fm S c k ≡ w c k
