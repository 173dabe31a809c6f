-- What is read of memory whose elements are known to be lawful.
use Rattle.std.proofs.Common.{◌≡◌, ℕ, zero, suc, ◌<◌, ◌≤◌, Bool, true, false, T, ◌↔◌, ◌⊎◌, inl, inr, List, length, get_or, take, length-take-le, get_or-take, sym, refl, subst, arith}
use native.Mathlib.Decide.{dec_lt}
use lib.ListN.{get_or-eq_default}
use Rattle.std.proofs.lemmas.List.{get_or_read}
use Rattle.ring.specs.Ring.{Ring, Laws}
use Rattle.recurrence.specs.Memory.{at, Unlawful}
use Rattle.recurrence.specs.Polynomials.{Lawful}

pub stable : (b : Bool) → (¬ (¬ T b)) → T b
stable true h = tt
stable false h = absurd (h (λ x. x))

module _ {E : Type 0} (R : Ring E) where
  pub lawful_below : (xs : List E) (m : ℕ) → (Unlawful R xs m → ⊥) → (j : ℕ) → j < m → T (R.lawful (at R xs j))
  lawful_below xs m h j below = stable (R.lawful (at R xs j)) (λ no_law. h (j, below, no_law))

  -- one of the first m elements is not lawful, or each is
  pub unlawful_or_not : (xs : List E) (m : ℕ) → Unlawful R xs m ⊎ (¬ Unlawful R xs m)
  unlawful_or_not xs zero = inr (λ u. absurd (omega (arith, u.1)))
  unlawful_or_not xs (suc m) = here (R.lawful (at R xs m)) refl (unlawful_or_not xs m)
    where
      here : (b : Bool) → R.lawful (at R xs m) ≡ b → Unlawful R xs m ⊎ (¬ Unlawful R xs m) → Unlawful R xs (suc m) ⊎ (¬ Unlawful R xs (suc m))
      here b e (inl u) = inl (u.0, omega (arith, u.1), u.2)
      here false e (inr none) = inl (m, omega arith, λ t. subst T e t)
      here true e (inr none) = inr (λ u. by u (dec_lt u.0 m))
        where
          by : (u : Unlawful R xs (suc m)) → Dec (u.0 < m) → ⊥
          by u (yes below) = none (u.0, below, u.2)
          by u (no past) = let e' : u.0 ≡ m = omega (arith, u.1) in u.2 (rw e' (subst T (sym e) tt))

  -- of the first m elements one is not lawful where one is not in the slice that is cut there
  pub cut_unlawful : (xs : List E) (m : ℕ) → m ≤ length xs → Unlawful R (take m xs) (length (take m xs)) ↔ Unlawful R xs m
  cut_unlawful xs m size = (
    λ u. let below : u.0 < m = omega (arith, u.1, length-take-le m xs size) in
        (u.0, below, subst (λ x. ¬ T (R.lawful x)) (get_or-take m xs u.0 R.zero below) u.2),
    λ u. (u.0, omega (arith, u.1, length-take-le m xs size), subst (λ x. ¬ T (R.lawful x)) (sym (get_or-take m xs u.0 R.zero u.1)) u.2),
  )

  -- the element that is read at j
  pub read_at : (xs : List E) (j : ℕ) (x : E) → j < length xs → x ≡ get_or xs j x → x ≡ at R xs j
  read_at xs j x below e = get_or_read xs j x below e R.zero

  pub read_lawful : (xs : List E) (m j : ℕ) (x : E) → m ≤ length xs → (Unlawful R xs m → ⊥) → j < m → x ≡ get_or xs j x → T (R.lawful x)
  read_lawful xs m j x size h below e = subst (λ v. T (R.lawful v)) (sym (read_at xs j x (omega arith) e)) (lawful_below xs m h j below)

  -- a whole list of lawful elements is so at every place, since it is zero past its end
  pub lawful_all : Laws R → (xs : List E) → (Unlawful R xs (length xs) → ⊥) → Lawful R (at R xs)
  lawful_all L xs h j = go (dec_lt j (length xs))
    where
      go : Dec (j < length xs) → T (R.lawful (at R xs j))
      go (yes below) = lawful_below xs (length xs) h j below
      go (no past) = subst (λ v. T (R.lawful v)) (sym (get_or-eq_default xs R.zero (omega arith))) L.ring_laws.zero_lawful
