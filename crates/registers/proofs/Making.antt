-- A register as it is made: it begins with its first elements and obeys its polynomial, or has zeros.
use Rattle.std.proofs.Common.{◌≡◌, ◌⊎◌, ℕ, ◌<◌, true, T, ◌≢◌, List, [], length, take, sym, refl, ap, ◌∙◌, subst, inl, inr, ⊎_elim, Result, Ok, Err, arith, length-take-le, get_or-take}
use native.Mathlib.Decide.{dec_lt}
use lib.ListN.{get_or-eq_default}
use Rattle.ring.specs.declared.Refusal.{Refusal}
use Rattle.ring.specs.Refusals.{Row, Call, Passes, Refuses}
use Rattle.ring.specs.Ring.{Ring, Laws}
use Rattle.ring.specs.Lawful.{Lawful as Element, lifted, cells, AllLawful}
use Rattle.ring.proofs.Lifts as Lifts
use Rattle.ring.proofs.Differences.{equal_is, sub_self}
use Rattle.ring.proofs.Loops.{lawful_at}
use Rattle.ring.proofs.Rows.{passes_refuses}
use Rattle.recurrence.proofs.Elements.{lawful_below, lawful_all}
use Rattle.recurrence.specs.Memory.{at}
use Rattle.recurrence.specs.Polynomials.{Lawful, Obeys}
use Rattle.recurrence.proofs.Polynomials.{run, Obeys as Obeysˡ}
use Rattle.recurrence.proofs.Recurrences as Rec
use Rattle.recurrence.proofs.Bridge.{value_is, from_zero, zero_or_not}
use Rattle.registers.specs.Registers.{degree, register_rows, Registers, continued}
use Rattle.registers.proofs.Continuing.{continued_none}

-- all of a list is used where nothing is refused, and else none of it
abbrev pub Chosen : {E : Type 0} → List Row → List E → List E → Type 0
Chosen rows xs used = (Passes rows × (used ≡ xs)) ⊎ ((e : Refusal) × Refuses rows e × (used ≡ []))

pub chosen : {E : Type 0} (rows : List Row) (xs used : List E) (r : Result Unit Refusal) → Call rows r (λ _. Unit {0}) (Unit {0})
    → ((u : Unit) → r ≡ Ok u → used ≡ xs) → ((e : Refusal) → r ≡ Err e → used ≡ []) → Chosen rows xs used
chosen rows xs used (Ok u) call all none = inl (call.0, all u refl)
chosen rows xs used (Err e) call all none = inr (e, call.0, none e refl)

module _ {E : Type 0} {R : Ring E} (L : Laws R) where
  -- an element that is not other than one is one
  one_stable : (a : E) → T (R.lawful a) → ¬ (a ≢ R.one) → a ≡ R.one
  one_stable a h stable =
      let h1 : T (R.lawful R.one) = L.ring_laws.one_lawful in
      ⊎_elim (λ e. (equal_is L a R.one (R.sub a R.one) true (λ _ _. refl) (λ _. ((λ _. e), λ _. tt)) h h1).0 tt) (λ n. absurd (stable (λ e. n (ap (λ x. R.sub x R.one) e ∙ sub_self L R.one h1))))
      (zero_or_not L (R.sub a R.one) (L.ring_laws.sub_lawful a R.one h h1))

  cell_value : (xs : List E) (i : ℕ) → T (R.lawful (at R xs i)) → at R xs i ≡ (cells L xs i).0
  unfolding cells
  cell_value xs i l = (Lifts.hold_is L (at R xs i) l).eq

  module _ (cs stages : List E) (pass : Passes (register_rows R cs stages)) where
    abbrev D : ℕ
    D = degree cs

    some : 0 < length cs
    some = not_none (length cs) (λ e. pass.1.1.0 (inl e))
      where
        not_none : (n : ℕ) → ¬ (n ≡ 0) → 0 < n
        not_none n h = omega arith

    all : Lawful R (at R cs)
    all = lawful_all R L cs (λ u. pass.1.0 (inl u))

    size : length (take D stages) ≡ D
    size = length-take-le D stages (omega (arith, pass.0))

    begins : (j : ℕ) → j < D → continued L cs (take D stages) j ≡ at R stages j
    begins j h =
        let lawful : T (R.lawful (at R stages j)) = lawful_below R stages D (λ u. pass.1.0 (inr u)) j h in
        let taken : at R (take D stages) j ≡ at R stages j = get_or-take D stages j R.zero h in
        ap (λ (x : Element L). x.0)
        (Rec.run_begins (lifted L) (length (take D stages)) (cells L cs) (length (take D stages)) (cells L (take D stages)) j (omega (arith, size))
        ∙ Lifts.cells_same L (take D stages) stages j j taken)
        ∙ sym (cell_value stages j lawful)

    obeys : Obeys R D (at R cs) (continued L cs (take D stages))
    obeys = subst (λ n. Obeys R n (at R cs) (continued L cs (take D stages))) size there
      where
        m : ℕ
        m = length (take D stages)

        one : at R cs m ≡ R.one
        one = ap (at R cs) size ∙ one_stable (at R cs D) (all D) (λ n. pass.1.1.0 (inr (inl n)))

        lifted_obeys : Obeysˡ (lifted L) m (cells L cs) (run (lifted L) m (cells L cs) m (cells L (take D stages)))
        lifted_obeys =
            Rec.run_obeys (lifted L) m (cells L cs) m (cells L (take D stages)) (omega arith) (Lifts.cell_eq L cs m (lifted L).𝟙 (Lifts.one_is L one)) (λ t h. absurd (omega arith))

        there : Obeys R m (at R cs) (continued L cs (take D stages))
        there = record {
          lawful = all;
          monic = record { above = λ j h. get_or-eq_default cs R.zero (omega (arith, size)); top = one };
          cancels = λ t. from_zero L
              (value_is L m (at R cs) (continued L cs (take D stages)) t (cells L cs) (run (lifted L) m (cells L cs) m (cells L (take D stages))) (λ j _. Lifts.cell_is L cs j all) (λ j _. record { eq = refl }))
              (lifted_obeys.cancels t);
        }

    taken_lawful : AllLawful L (take D stages)
    taken_lawful j = go (dec_lt j D)
      where
        go : Dec (j < D) → T (R.lawful (at R (take D stages) j))
        go (yes h) = lawful_at L (get_or-take D stages j R.zero h) (lawful_below R stages D (λ u. pass.1.0 (inr u)) j h)
        go (no h) = lawful_at L (get_or-eq_default (take D stages) R.zero (omega (arith, size))) L.ring_laws.zero_lawful

    begun : Registers R cs stages (continued L cs (take D stages))
    begun = record { begins = λ _. begins; obeys = λ _. obeys; refused = λ e n. absurd (passes_refuses (register_rows R cs stages) e pass n) }

  none_begun : (cs stages : List E) (e : Refusal) → Refuses (register_rows R cs stages) e → Registers R cs stages (continued L [] [])
  none_begun cs stages e refuses = record {
    begins = λ pass. absurd (passes_refuses (register_rows R cs stages) e pass refuses);
    obeys = λ pass. absurd (passes_refuses (register_rows R cs stages) e pass refuses);
    refused = λ _ _. continued_none L [] [] refl;
  }

  -- a register of the coefficients that are chosen, and of as many first elements
  module _ (cs stages used : List E) (choice : Chosen (register_rows R cs stages) cs used) where
    pub made : Registers R cs stages (continued L used (take (degree used) stages))
    made = elim choice [ inl p ↦ rw p.1 (begun cs stages p.0) | inr n ↦ rw n.2 (none_begun cs stages n.0 n.1) ]

    pub used_lawful : AllLawful L used
    used_lawful = elim choice [ inl p ↦ rw p.1 (all cs stages p.0) | inr n ↦ rw n.2 (λ _. L.ring_laws.zero_lawful) ]

    pub values_lawful : AllLawful L (take (degree used) stages)
    values_lawful = elim choice [ inl p ↦ rw p.1 (taken_lawful cs stages p.0) | inr n ↦ rw n.2 (λ _. L.ring_laws.zero_lawful) ]
