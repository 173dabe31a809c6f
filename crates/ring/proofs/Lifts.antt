-- What the operations of a kind are among its lawful elements, and how a loop over memory is tied to a sum.
use Rattle.std.proofs.Common.{◌≡◌, ℕ, zero, suc, ◌<◌, ◌≤◌, Bool, true, false, T, List, length, get_or, sym, refl, ap, ◌∙◌, subst, ap₂, arith}
use Rattle.std.proofs.lemmas.List.{get_or_read, get_or_past}
use Rattle.ring.specs.Commutative.{sum as sumˡ, power as powerˡ}
use Rattle.ring.specs.Ring.{Ring, Laws, sum, power}
use Rattle.ring.specs.Lawful.{Lawful, Is, same, lifted, step_of, hold_at, hold, cells, AllLawful}
use Rattle.ring.proofs.Sums as Sums

module _ {E : Type 0} {R : Ring E} (L : Laws R) where
  pub ok : {a : E} {x : Lawful L} → Is L a x → T (R.lawful a)
  ok {x = x} h = subst (λ v. T (R.lawful v)) (sym h.eq) x.1

  hold_at_is : (a : E) (b : Bool) (e : R.lawful a ≡ b) → T (R.lawful a) → (hold_at L a b e).0 ≡ a
  unfolding hold_at
  hold_at_is a true e h = refl
  hold_at_is a false e h = absurd (subst T e h)

  pub hold_is : (a : E) → T (R.lawful a) → Is L a (hold L a)
  unfolding hold
  hold_is a h = record { eq = sym (hold_at_is a (R.lawful a) refl h) }

  pub held : {a : E} {x : Lawful L} → Is L a x → hold L a ≡ x
  held {a = a} h = same L (sym (hold_is a (ok h)).eq ∙ h.eq)

  pub is_at : {a : E} {x y : Lawful L} → x ≡ y → Is L a x → Is L a y
  is_at e h = record { eq = h.eq ∙ ap (λ z. z.0) e }

  pub is_same : {a b : E} {x : Lawful L} → a ≡ b → Is L b x → Is L a x
  is_same e h = record { eq = e ∙ h.eq }

  pub one_value : {a : E} {x y : Lawful L} → Is L a x → Is L a y → x ≡ y
  one_value h k = same L (sym h.eq ∙ k.eq)

  pub zero_is : {r : E} → r ≡ R.zero → Is L r (lifted L).𝟘
  unfolding lifted
  zero_is e = record { eq = e }

  pub one_is : {r : E} → r ≡ R.one → Is L r (lifted L).𝟙
  unfolding lifted
  one_is e = record { eq = e }

  pub step_is : {r : E} → r ≡ R.step → Is L r (step_of L)
  unfolding step_of
  step_is e = record { eq = e }

  pub add_is : {a b r : E} {x y : Lawful L} → Is L a x → Is L b y → (T (R.lawful a) → T (R.lawful b) → r ≡ R.add a b) → Is L r ((lifted L).◌⊕◌ x y)
  unfolding lifted
  add_is ea eb h = record { eq = h (ok ea) (ok eb) ∙ ap₂ R.add ea.eq eb.eq }

  pub mul_is : {a b r : E} {x y : Lawful L} → Is L a x → Is L b y → (T (R.lawful a) → T (R.lawful b) → r ≡ R.mul a b) → Is L r ((lifted L).◌⊗◌ x y)
  unfolding lifted
  mul_is ea eb h = record { eq = h (ok ea) (ok eb) ∙ ap₂ R.mul ea.eq eb.eq }

  sub_same : (x y : Lawful L) (s : Lawful L) → (lifted L).◌⊕◌ s y ≡ x → s ≡ (lifted L).◌⊕◌ x ((lifted L).⊖◌ y)
  sub_same x y s e = sym (Sums.from_sum (lifted L) (sym e))

  sub_back : (x y : Lawful L) → (lifted L).◌⊕◌ (R.sub x.0 y.0, L.ring_laws.sub_lawful x.0 y.0 x.1 y.1) y ≡ x
  unfolding lifted
  sub_back x y = same L (L.ring_laws.sub_add x.0 y.0 x.1 y.1)

  pub sub_is : {a b r : E} {x y : Lawful L} → Is L a x → Is L b y → (T (R.lawful a) → T (R.lawful b) → r ≡ R.sub a b) → Is L r ((lifted L).◌⊕◌ x ((lifted L).⊖◌ y))
  sub_is {x = x} {y = y} ea eb h = record {
    eq = h (ok ea) (ok eb) ∙ ap₂ R.sub ea.eq eb.eq ∙ ap (λ z. z.0) (sub_same x y (R.sub x.0 y.0, L.ring_laws.sub_lawful x.0 y.0 x.1 y.1) (sub_back x y));
  }

  pub power_is : (n : ℕ) → Is L (power R R.step n) (powerˡ (lifted L) (step_of L) n)
  unfolding power powerˡ lifted step_of
  power_is zero = record { eq = refl }
  power_is (suc n) = record { eq = ap (λ z. R.mul z R.step) (power_is n).eq }

  -- what is read from a memory
  pub cell_is : (xs : List E) (j : ℕ) → AllLawful L xs → Is L (get_or xs j R.zero) (cells L xs j)
  unfolding cells
  cell_is xs j all = hold_is (get_or xs j R.zero) (all j)

  pub read_is : (xs : List E) (j : ℕ) (x : E) → j < length xs → x ≡ get_or xs j x → AllLawful L xs → Is L x (cells L xs j)
  read_is xs j x h e all = is_same (get_or_read xs j x h e R.zero) (cell_is xs j all)

  pub cell_eq : (xs : List E) (j : ℕ) (x : Lawful L) → Is L (get_or xs j R.zero) x → cells L xs j ≡ x
  unfolding cells
  cell_eq xs j x h = held h

  pub cells_same : (xs ys : List E) (i j : ℕ) → get_or xs i R.zero ≡ get_or ys j R.zero → cells L xs i ≡ cells L ys j
  unfolding cells
  cells_same xs ys i j e = ap (hold L) e

  pub cells_past : (xs : List E) (j : ℕ) → length xs ≤ j → cells L xs j ≡ (lifted L).𝟘
  cells_past xs j h = cell_eq xs j (lifted L).𝟘 (zero_is (get_or_past xs j R.zero h))

  -- a sum of elements, each of which is lawful
  pub sum_is : (n : ℕ) (f : ℕ → E) (g : ℕ → Lawful L) → ((j : ℕ) → j < n → Is L (f j) (g j)) → Is L (sum R n f) (sumˡ (lifted L) n g)
  unfolding sum sumˡ lifted
  sum_is zero f g h = record { eq = refl }
  sum_is (suc n) f g h = record { eq = ap₂ R.add (sum_is n f g (λ j below. h j (omega arith))).eq (h n (omega arith)).eq }

  -- one more turn of a loop that adds products up
  pub sum_turn : (n : ℕ) (g : ℕ → Lawful L) {a b p total r : E} {x y : Lawful L} → Is L total (sumˡ (lifted L) n g) → Is L a x → Is L b y
      → g n ≡ (lifted L).◌⊗◌ x y
      → (T (R.lawful a) → T (R.lawful b) → p ≡ R.mul a b)
      → (T (R.lawful total) → T (R.lawful p) → r ≡ R.add total p)
      → Is L r (sumˡ (lifted L) (suc n) g)
  sum_turn n g total_is a_is b_is e product added =
      is_at (ap (λ z. (lifted L).◌⊕◌ (sumˡ (lifted L) n g) z) (sym e) ∙ sym (Sums.sum_suc (lifted L) n g)) (add_is total_is (mul_is a_is b_is product) added)
