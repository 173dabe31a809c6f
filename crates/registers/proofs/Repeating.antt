-- The list of a loop.
use Rattle.std.proofs.Common.{◌≡◌, ℕ, zero, suc, ◌+◌, ◌%◌, ◌<◌, Bool, true, false, cond, T, eqb, inl, inr, List, [], length, get_or, sym, refl, ap, ◌∙◌, ap₂, add-zero, zero-add, arith, eq-eqb, ne_eqb}
use native.Mathlib.Nat.{mod-add-mod, add-mod_right}
use Rattle.ring.specs.declared.Refusal.{Refusal}
use Rattle.ring.specs.Refusals.{Passes, Refuses}
use Rattle.ring.specs.Ring.{Ring, Laws}
use Rattle.ring.specs.Commutative.{CommRing, sum}
use Rattle.ring.specs.Lawful.{Lawful as Element, lifted, hold, cells}
use Rattle.ring.proofs.Lifts as Lifts
use Rattle.ring.proofs.Sums as Sums
use Rattle.recurrence.proofs.Elements.{lawful_all}
use Rattle.ring.proofs.Rows.{passes_refuses}
use Rattle.recurrence.specs.Memory.{at}
use Rattle.recurrence.specs.Polynomials.{Lawful, Obeys}
use Rattle.recurrence.proofs.Polynomials.{act}
use Rattle.recurrence.proofs.Bridge.{lift, lift_is, value_is, from_zero}
use Rattle.registers.proofs.Making.{Chosen}
use Rattle.registers.specs.Registers.{loop_rows, cyclic, Repeats, repeated}

module _ {A : Type 0} (R : CommRing A) where
  infixl 60 ◌⊕◌
  infixl 70 ◌⊗◌
  infix 80 ⊖◌
  open R use {𝟘, 𝟙, ◌⊕◌, ◌⊗◌, ⊖◌, add_zero as plus_zero}

  -- a list that comes back after m + 1 places is cancelled by y^(m + 1) - 1
  cyclic_cancels : (m : ℕ) (q w : ℕ → A) → q 0 ≡ ⊖ 𝟙 → ((j : ℕ) → j < m → q (suc j) ≡ 𝟘) → q (suc m) ≡ 𝟙 → ((t : ℕ) → w (t + suc m) ≡ w t)
      → (t : ℕ) → act R (suc (suc m)) q w t ≡ 𝟘
  unfolding act
  cyclic_cancels m q w first inner last again t =
      Sums.sum_suc R (suc m) _
      ∙ ap₂ ◌⊕◌ front back
      ∙ Sums.neg_add R (w t)
    where
      front : sum R (suc m) (λ j. q j ⊗ w (t + j)) ≡ ⊖ w t
      front =
          Sums.sum_front R m (λ j. q j ⊗ w (t + j))
          ∙ ap₂ ◌⊕◌ (ap₂ ◌⊗◌ first (ap w (add-zero t)) ∙ Sums.neg_mul R 𝟙 (w t) ∙ ap ⊖◌ (Sums.one_mul R (w t)))
          (Sums.sum_none R m _ (λ j b. ap (λ a. a ⊗ w (t + suc j)) (inner j b) ∙ Sums.zero_mul R (w (t + suc j))))
          ∙ plus_zero (⊖ w t)

      back : q (suc m) ⊗ w (t + suc m) ≡ w t
      back = ap₂ ◌⊗◌ last (again t) ∙ Sums.one_mul R (w t)

module _ {E : Type 0} {R : Ring E} (L : Laws R) where
  -- the element at a place, and those after it
  pub repeated_first : (xs : List E) (place : ℕ) (x : E) → x ≡ get_or xs (place % length xs) R.zero → (hold L x).0 ≡ repeated L xs place 0
  unfolding cells
  repeated_first xs place x e =
      ap (λ (a : E). (hold L a).0) (e ∙ ap (λ (i : ℕ). get_or xs (i % length xs) R.zero) (sym (add-zero place)))

  pub repeated_later : (xs : List E) (place t : ℕ) → repeated L xs (place % length xs + 1) t ≡ repeated L xs place (t + 1)
  repeated_later xs place t =
      ap (λ (i : ℕ). (cells L xs i).0) (ap (λ (i : ℕ). i % length xs) (omega arith) ∙ mod-add-mod place (length xs) (t + 1))

  pub repeated_none : (xs : List E) → length xs ≡ 0 → (place t : ℕ) → repeated L xs place t ≡ R.zero
  repeated_none xs none place t =
      ap (λ (a : Element L). a.0) (Lifts.cells_past L xs ((place + t) % length xs) (omega arith)) ∙ sym (Lifts.zero_is L refl).eq

  cyclic_zero : (m j : ℕ) → 0 < j → ¬ (j ≡ m) → cyclic R m j ≡ R.zero
  cyclic_zero m j some other = rw (ne_eqb j 0 (omega arith), ne_eqb j m other)

  cyclic_top : (m : ℕ) → 0 < m → cyclic R m m ≡ R.one
  cyclic_top m some = rw (ne_eqb m 0 (omega arith), eq-eqb m m refl)

  cyclic_lawful : (m : ℕ) → Lawful R (cyclic R m)
  cyclic_lawful m j = choice (eqb j 0) (eqb j m)
    where
      choice : (a b : Bool) → T (R.lawful (cond a (R.sub R.zero R.one) (cond b R.one R.zero)))
      choice true b = L.ring_laws.sub_lawful R.zero R.one L.ring_laws.zero_lawful L.ring_laws.one_lawful
      choice false true = L.ring_laws.one_lawful
      choice false false = L.ring_laws.zero_lawful

  module _ (xs : List E) (pass : Passes (loop_rows R xs)) where
    abbrev m : ℕ
    m = length xs

    some : 0 < m
    some = not_none m pass.1.0
      where
        not_none : (n : ℕ) → ¬ (n ≡ 0) → 0 < n
        not_none n h = omega arith

    all : Lawful R (at R xs)
    all = lawful_all R L xs pass.0

    repeats : (t : ℕ) → repeated L xs 0 t ≡ at R xs (t % length xs)
    repeats t = ap (λ (i : ℕ). (cells L xs (i % length xs)).0) (zero-add t) ∙ sym (Lifts.cell_is L xs (t % length xs) all).eq

    again : (t : ℕ) → cells L xs ((0 + (t + m)) % m) ≡ cells L xs ((0 + t) % m)
    again t = ap (cells L xs) (ap (λ (i : ℕ). i % m) (omega arith) ∙ add-mod_right (0 + t) m)

    obeys : Obeys R m (cyclic R m) (repeated L xs 0)
    obeys = record {
      lawful = cyclic_lawful m;
      monic = record { above = λ j h. cyclic_zero m j (omega (arith, some)) (omega arith); top = cyclic_top m some };
      cancels = λ t. from_zero L
          (value_is L m (cyclic R m) (repeated L xs 0) t (lift L (cyclic R m)) (λ i. cells L xs ((0 + i) % m)) (λ j _. lift_is L (cyclic R m) (cyclic_lawful m) j) (λ j _. record { eq = refl }))
          (at_least m some again t);
    }
      where
        at_least : (n : ℕ) → 0 < n → ((t : ℕ) → cells L xs ((0 + (t + n)) % m) ≡ cells L xs ((0 + t) % m))
            → (t : ℕ) → act (lifted L) (suc n) (lift L (cyclic R n)) (λ i. cells L xs ((0 + i) % m)) t ≡ (lifted L).𝟘
        at_least zero h period t = absurd (omega arith)
        at_least (suc n) h period t =
            cyclic_cancels (lifted L) n (lift L (cyclic R (suc n))) (λ i. cells L xs ((0 + i) % m))
            (Lifts.held L (Lifts.is_at L (Sums.zero_add (lifted L) _) (Lifts.sub_is L (Lifts.zero_is L refl) (Lifts.one_is L refl) (λ _ _. refl))))
            (λ j b. Lifts.held L (Lifts.zero_is L (cyclic_zero (suc n) (suc j) (omega arith) (omega arith))))
            (Lifts.held L (Lifts.one_is L (cyclic_top (suc n) h)))
            period t

    begun : Repeats R xs (repeated L xs 0)
    begun = record { repeats = λ _. repeats; obeys = λ _. obeys; refused = λ e n. absurd (passes_refuses (loop_rows R xs) e pass n) }

  none_begun : (xs : List E) (e : Refusal) → Refuses (loop_rows R xs) e → Repeats R xs (repeated L [] 0)
  none_begun xs e refuses = record {
    repeats = λ pass. absurd (passes_refuses (loop_rows R xs) e pass refuses);
    obeys = λ pass. absurd (passes_refuses (loop_rows R xs) e pass refuses);
    refused = λ _ _. repeated_none [] refl 0;
  }

  -- a loop of the elements that are chosen
  pub made : (xs used : List E) → Chosen (loop_rows R xs) xs used → Repeats R xs (repeated L used 0)
  made xs used choice = elim choice [ inl p ↦ rw p.1 (begun xs p.0) | inr n ↦ rw n.2 (none_begun xs n.0 n.1) ]
