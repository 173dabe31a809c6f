-- Findings: for each level below the depth a shortest polynomial that cancels the words.
-- A finding is a table of 31 levels and a memory whose row i, from i × (e + 1) on, has the polynomial of level i, lowest coefficient first.
use Rattle.std.specs.Prelude.{◌≡◌, ◌≢◌, false, List, ℕ, ◌+◌, ◌*◌, ◌<◌, ◌≤◌, T, get_or, take, drop}
use Rattle.ring.specs.Ring.{Ring, power}
use Rattle.recurrence.specs.declared.shape.Level.{Level}
use Rattle.recurrence.specs.Memory.{at}
use Rattle.recurrence.specs.Words.{Cancels, Least, run, CancelsRun}

-- a level that is not found
abbrev pub blank : Level
blank = record { length = 0; found = false }

-- the length of level i
abbrev pub long : List Level → ℕ → ℕ
long levels i = (get_or levels i blank).length

-- at least twice as many words are held as level 0 is long
abbrev pub Settled : ℕ → List Level → Type 0
Settled e levels = 2 * long levels 0 ≤ e

module _ {E : Type 0} (R : Ring E) where
  -- how many elements a finding of e words has
  abbrev pub extent : ℕ → ℕ
  extent e = R.depth * (e + 1)

  module _ (e : ℕ) (levels : List Level) (fm : List E) where
    -- the polynomial of level i: the coefficients of its row up to its length, and zero above
    abbrev pub row : ℕ → ℕ → E
    row i = at R (take (long levels i + 1) (drop (i * (e + 1)) fm))

    -- what is judged of a finding handed in: no length above e, every level marked found, and leading coefficients step^i
    pub record Formed : Type 0 where
      pub short : (i : ℕ) → i < R.depth → long levels i ≤ e
      pub marked : (i : ℕ) → i < R.depth → T (get_or levels i blank).found
      pub leads : (i : ℕ) → i < R.depth → at R fm (i * (e + 1) + long levels i) ≡ power R R.step i

    -- the lowest coefficient of the polynomial of level 0 is not zero
    abbrev pub RunsBack : Type 0
    RunsBack = row 0 0 ≢ R.zero

    -- the run: the words S, continued by the polynomial of level 0
    abbrev pub run_of : (ℕ → ℕ → E) → ℕ → ℕ → E
    run_of S c k = run R e S (long levels 0) (row 0) c k

    -- f cancels the run of n channels
    abbrev pub CancelsRunOf : ℕ → (ℕ → ℕ → E) → (ℕ → E) → Type 0
    CancelsRunOf n S f = CancelsRun R e S (long levels 0) (row 0) n f

    -- a finding of the e words S of n channels: formed, blank from the depth on, of lawful elements, zero above each length,
    -- and the polynomial of each level cancels the words and is the shortest of its level that does
    pub record Finding (n : ℕ) (S : ℕ → ℕ → E) : Type 0 where
      pub formed : Formed
      pub rest : (i : ℕ) → R.depth ≤ i → i < 31 → get_or levels i blank ≡ blank
      pub lawful : (j : ℕ) → j < extent e → T (R.lawful (at R fm j))
      pub above : (i j : ℕ) → i < R.depth → long levels i < j → j ≤ e → at R fm (i * (e + 1) + j) ≡ R.zero
      pub cancels : (i : ℕ) → i < R.depth → Cancels R n e S (row i)
      pub least : (i : ℕ) → i < R.depth → Least R n e S i (long levels i)
