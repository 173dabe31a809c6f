-- Rows that are written: one less a multiple of another, one begun, one moved up.
use Rattle.std.proofs.Common.{◌≡◌, ℕ, zero, suc, ◌+◌, ◌-◌, ◌<◌, ◌≤◌, T, ◌≢◌, List, length, get_or, set, sym, ap, ◌∙◌, subst, arith, get_or-set_other, get_or-set_same, below_more}
use native.Mathlib.Decide.{dec_lt}
use Rattle.std.proofs.lemmas.List.{get_or_read, get_or_past}
use Rattle.ring.specs.Ring.{Ring, Laws}
use Rattle.ring.specs.Commutative.{power}
use Rattle.ring.specs.Lawful.{Lawful, Is, lifted, step_of, hold, cells, AllLawful}
use Rattle.ring.proofs.Sums as Sums
use Rattle.ring.proofs.Lifts as Lifts
use Rattle.recurrence.proofs.Polynomials.{plus, shift}
use Rattle.recurrence.proofs.Recurrences as Rec
use Rattle.rows.specs.Rows.{Holds, Clear, constant, ToScale}

module _ {E : Type 0} {R : Ring E} (L : Laws R) where
  pub holds_lawful : (xs : List E) (p : ℕ → Lawful L) → Holds L xs p → AllLawful L xs
  holds_lawful xs p h j = Lifts.ok L (h j)

  pub holds_cells : (xs : List E) (p : ℕ → Lawful L) → Holds L xs p → (j : ℕ) → cells L xs j ≡ p j
  holds_cells xs p h j = Lifts.cell_eq L xs j (p j) (h j)

  abbrev pub scaled : E → List E → List E → ℕ → Lawful L
  scaled c row other = plus (lifted L) (cells L row) ((lifted L).⊖◌ (hold L c)) (cells L other)

  -- the first i places are so, and the others are as they were
  pub record Scaling (c : E) (row other new : List E) (i : ℕ) : Type 0 where
    pub done : (j : ℕ) → j < i → Is L (get_or new j R.zero) (scaled c row other j)
    pub rest : (j : ℕ) → i ≤ j → get_or new j R.zero ≡ get_or row j R.zero

  pub scaling_next : (c : E) (row other new : List E) (n j : ℕ) (x y m r : E) → j < n → ToScale L c row other n → length new ≡ length row
      → x ≡ get_or new j x → y ≡ get_or other j y
      → Scaling c row other new j
      → (T (R.lawful c) → T (R.lawful y) → m ≡ R.mul c y)
      → (T (R.lawful x) → T (R.lawful m) → r ≡ R.sub x m)
      → Scaling c row other (set new j r) (j + 1)
  scaling_next c row other new n j x y m r h fit len ex ey inv em er =
      let lt : j < length new = omega (arith, fit.room) in
      let ix : Is L x (cells L row j) = Lifts.is_same L (get_or_read new j x lt ex R.zero ∙ inv.rest j (omega arith)) (Lifts.cell_is L row j fit.lawful) in
      let iy = Lifts.read_is L other j y (omega (arith, fit.room_other)) ey fit.lawful_other in
      let ir = Lifts.sub_is L ix (Lifts.mul_is L (Lifts.hold_is L c fit.factor) iy em) er in
      let is_r : Is L r (scaled c row other j) =
      Lifts.is_at L (ap ((lifted L).◌⊕◌ (cells L row j)) (sym (Sums.neg_mul (lifted L) (hold L c) (cells L other j)))) ir in
      record {
        done = below_more (λ i. Is L (get_or (set new j r) i R.zero) (scaled c row other i)) j
            (λ i b. let ne : i ≢ j = omega arith in rw get_or-set_other (inv.done i b))
            (Lifts.is_same L (get_or-set_same new j r R.zero lt) is_r);
        rest = λ i le. let ne : i ≢ j = omega arith in rw get_or-set_other (inv.rest i (omega arith));
      }

  pub scaling_whole : (c : E) (row other new : List E) (n i : ℕ) → i ≡ n → ToScale L c row other n → Scaling c row other new i → Holds L new (scaled c row other)
  scaling_whole c row other new n i e fit inv j = at (dec_lt j i)
    where
      at : Dec (j < i) → Is L (get_or new j R.zero) (scaled c row other j)
      at (yes h) = inv.done j h
      at (no h) =
          Lifts.is_at L
          (sym (ap (λ b. (lifted L).◌⊕◌ (cells L row j) ((lifted L).◌⊗◌ ((lifted L).⊖◌ (hold L c)) b)) (fit.below j (omega arith))
          ∙ ap ((lifted L).◌⊕◌ (cells L row j)) (Sums.mul_zero (lifted L) _) ∙ (lifted L).add_zero (cells L row j)))
          (Lifts.is_same L (inv.rest j (omega arith)) (Lifts.cell_is L row j fit.lawful))

  pub clear_lawful : (xs : List E) → Clear R xs → AllLawful L xs
  clear_lawful xs clear j = subst (λ z. T (R.lawful z)) (sym (clear j)) L.ring_laws.zero_lawful

  pub clear_cell : (xs : List E) → Clear R xs → (j : ℕ) → cells L xs j ≡ (lifted L).𝟘
  clear_cell xs clear j = Lifts.cell_eq L xs j _ (Lifts.zero_is L (clear j))

  pub begun : (i : ℕ) (new : List E) (x : E) → Clear R new → 0 < length new → Is L x (power (lifted L) (step_of L) i) → Holds L (set new 0 x) (constant L i)
  unfolding constant
  begun i new x clear long is zero = Lifts.is_same L (get_or-set_same new 0 x R.zero long) is
  begun i new x clear long is (suc j) = Lifts.zero_is L (get_or-set_other new 0 (suc j) x R.zero (omega arith) ∙ clear (suc j))

  -- copied one place up
  pub moved : (row new : List E) → 0 < length row → AllLawful L row → cells L row (length row - 1) ≡ (lifted L).𝟘 → length new ≡ length row
      → ((j : ℕ) → j + 1 < length row → get_or new (j + 1) R.zero ≡ get_or row j R.zero) → (x : E) → x ≡ R.zero
      → Holds L (set new 0 x) (shift (lifted L) 1 (cells L row))
  moved row new pos all top len up x ex zero =
      Lifts.is_at L (sym (Rec.shift_before (lifted L) 1 (cells L row) 0 (omega arith))) (Lifts.zero_is L (get_or-set_same new 0 x R.zero (omega arith) ∙ ex))
  moved row new pos all top len up x ex (suc j) =
      Lifts.is_at L (sym (Rec.shift_at (lifted L) 1 (cells L row) (suc j) (omega arith) ∙ ap (cells L row) {x = suc j - 1} {y = j} (omega arith))) (at (dec_lt (j + 1) (length row)))
    where
      other : get_or (set new 0 x) (suc j) R.zero ≡ get_or new (suc j) R.zero
      other = get_or-set_other new 0 (suc j) x R.zero (omega arith)

      at : Dec (j + 1 < length row) → Is L (get_or (set new 0 x) (suc j) R.zero) (cells L row j)
      at (yes h) = Lifts.is_same L (other ∙ ap (λ z. get_or new z R.zero) {x = suc j} {y = j + 1} (omega arith) ∙ up j h) (Lifts.cell_is L row j all)
      at (no h) = Lifts.is_at L (sym (zero_at (dec_lt j (length row)))) (Lifts.zero_is L (other ∙ get_or_past new (suc j) R.zero (omega arith)))
        where
          zero_at : Dec (j < length row) → cells L row j ≡ (lifted L).𝟘
          zero_at (yes k) = ap (cells L row) {x = j} {y = length row - 1} (omega arith) ∙ top
          zero_at (no k) = Lifts.cells_past L row j (omega arith)
