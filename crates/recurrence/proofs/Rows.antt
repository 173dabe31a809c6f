-- The rows of a finding.
use mathlib.Core.Path.{◌≡◌, sym, ◌∙◌, subst}
use mathlib.Core.List.{List}
use Prim.Native.Nat.{ℕ, suc, ◌+◌, ◌*◌, ◌<◌, ◌≤◌}
use native.Mathlib.Decide.{dec_lt}
use native.Mathlib.Omega.{arith}
use lib.Dec.{T}
use lib.ListN.{take, drop, get_or-eq_default, length-take}
use lib.Seq.{get_or-take, get_or-drop}
use Rattle.ring.specs.Ring.{Ring, Laws, power}
use Rattle.recurrence.specs.declared.shape.Level.{Level}
use Rattle.recurrence.specs.Memory.{at}
use Rattle.recurrence.specs.Polynomials.{Lawful, Within, Degree}
use Rattle.recurrence.specs.Words.{Shortest}
use Rattle.recurrence.specs.Findings.{long, extent, row, Formed, Finding}
use Rattle.recurrence.proofs.Bridge as Bridge
use Rattle.ring.proofs.Loops.{place_inside}

module _ {E : Type 0} (R : Ring E) (e : ℕ) (levels : List Level) (fm : List E) where
  pub row_past : (i : ℕ) → Within R (suc (long levels i)) (row R e levels fm i)
  row_past i j h =
      get_or-eq_default (take (long levels i + 1) (drop (i * (e + 1)) fm)) R.zero
      (omega (arith, length-take (long levels i + 1) (drop (i * (e + 1)) fm)))

  pub row_at : (i j : ℕ) → j ≤ long levels i → row R e levels fm i j ≡ at R fm (i * (e + 1) + j)
  row_at i j h = get_or-take (long levels i + 1) (drop (i * (e + 1)) fm) j R.zero (omega arith) ∙ get_or-drop (i * (e + 1)) fm j R.zero

  module _ (formed : Formed R e levels fm) where
    pub row_top : (i : ℕ) → i < R.depth → row R e levels fm i (long levels i) ≡ power R R.step i
    row_top i hi = row_at i (long levels i) (omega arith) ∙ formed.leads i hi

    pub row_lawful : Laws R → ((j : ℕ) → j < extent R e → T (R.lawful (at R fm j))) → (i : ℕ) → i < R.depth → Lawful R (row R e levels fm i)
    row_lawful L lawful i hi j = by (dec_lt (long levels i) j)
      where
        by : Dec (long levels i < j) → T (R.lawful (row R e levels fm i j))
        by (yes h) = Bridge.zero_lawful L (row_past i j h)
        by (no h) =
            subst (λ z. T (R.lawful z)) (sym (row_at i j (omega arith)))
            (lawful _ (place_inside R.depth (e + 1) i j hi (omega (arith, formed.short i hi))))

    pub row_degree : Laws R → (i : ℕ) → i < R.depth → Degree R (long levels i) (row R e levels fm i)
    row_degree L i hi = Bridge.normal_degree L i (long levels i) (row R e levels fm i) hi (row_past i) (row_top i hi)

  -- the rows of a finding are shortest polynomials
  pub row_shortest : Laws R → (n : ℕ) (S : ℕ → ℕ → E) → Finding R e levels fm n S → (i : ℕ) → i < R.depth → Shortest R n e S i (long levels i) (row R e levels fm i)
  row_shortest L n S found i hi = record {
    lawful = row_lawful found.formed L found.lawful i hi;
    above = row_past i;
    top = row_top found.formed i hi;
    cancels = found.cancels i hi;
    least = found.least i hi;
  }
