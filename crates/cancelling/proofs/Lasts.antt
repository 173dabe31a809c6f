-- The last of a list's elements that is not zero, where they are gone through from the back.
use Rattle.std.proofs.Common.{◌≡◌, ℕ, ◌+◌, ◌-◌, ◌<◌, ◌≤◌, List, Bool, true, length, Option, Some, None, Bor, ap, sym, subst, arith}
use mathlib.Core.Logic.{◌≢◌}
use Rattle.std.specs.Option.{IsSomeAnd, IfSome, MatchOption, option_map, unwrap_or}
use native.Mathlib.Decide.{dec_lt}
use lib.ListN.{get_or, get_or-eq_default}
use Rattle.ring.specs.Ring.{Ring}
use Rattle.recurrence.specs.Memory.{at}
use Rattle.recurrence.specs.Reductions.{Coefficients}

read : {E : Type 0} (P : Bor E → Type 0) (o : Option (Bor E)) (a : E) → option_map (λ y. y.now) o ≡ Some a → IfSome o P → (b : Bor E) × (b.now ≡ a) × P b
read P None a e p = absurd (subst (λ o. MatchOption o ⊥ (λ _. Unit {0})) (sym e) tt)
read P (Some b) a e p = (b, ap (λ o. unwrap_or o a) e, p)

weaker : {E : Type 0} (P : Bor E → Type 0) (o : Option (Bor E)) → IsSomeAnd o P → IfSome o P
weaker P None h = absurd h
weaker P (Some b) h = h

module _ {E : Type 0} (R : Ring E) (xs : List E) (look : ℕ → Option (Bor E)) (len : ℕ) (whole : Bool)
    (ys : List E) (alike : ys ≡ xs) (ends : whole ≡ true → len ≡ length ys)
    (gives : (k : ℕ) (d : E) → k < length ys → length ys - 1 - k < len → option_map (λ y. y.now) (look (length ys - 1 - k)) ≡ Some (get_or ys k d)) where
  reads : (k : ℕ) (d : E) → k < length xs → length xs - 1 - k < len → option_map (λ y. y.now) (look (length xs - 1 - k)) ≡ Some (get_or xs k d)
  reads = subst (λ (zs : List E). (k : ℕ) (d : E) → k < length zs → length zs - 1 - k < len → option_map (λ y. y.now) (look (length zs - 1 - k)) ≡ Some (get_or zs k d)) alike gives

  size : length ys ≡ length xs
  size = ap (λ zs. length zs) alike

  pub last : {Keeps : Type 0} {No Yes : Bor E → Type 0} (r : Option ℕ) → MatchOption r ((whole ≡ true) × (Keeps → (k : ℕ) → IfSome (look k) No))
      (λ i. (i + len ≡ length xs) × (Keeps → IsSomeAnd (look (length xs - 1 - i)) Yes × ((k : ℕ) → k < length xs - 1 - i → IsSomeAnd (look k) No)))
      → IfSome r (λ i. i < length xs) → Keeps
      → ((b : Bor E) (k : ℕ) → k < length xs → b.now ≡ at R xs k → No b → at R xs k ≡ R.zero)
      → ((b : Bor E) (k : ℕ) → k < length xs → b.now ≡ at R xs k → Yes b → at R xs k ≢ R.zero)
      → (m : ℕ) → MatchOption r (m ≡ 0) (λ i. m ≡ i + 1) → Coefficients R m (at R xs)
  last {No = No} None h low keep zeros top m e = record { past = λ j b. by j (dec_lt j (length xs)); last = λ j e'. absurd (omega arith) }
    where
      by : (j : ℕ) → Dec (j < length xs) → at R xs j ≡ R.zero
      by j (yes b) = let x = read No (look (length xs - 1 - j)) (at R xs j) (reads j R.zero b (omega (arith, ends h.0, size))) (h.1 keep (length xs - 1 - j)) in zeros x.0 j b x.1 x.2
      by j (no b) = get_or-eq_default xs R.zero (omega arith)
  last {No = No} {Yes = Yes} (Some i) h low keep zeros top m e = record { past = λ j b. by j b (dec_lt j (length xs)); last = λ j e'. let same : i ≡ j = omega arith in subst (λ z. at R xs z ≢ R.zero) same stays }
    where
      by : (j : ℕ) → m ≤ j → Dec (j < length xs) → at R xs j ≡ R.zero
      by j above (yes b) = let x = read No (look (length xs - 1 - j)) (at R xs j) (reads j R.zero b (omega (arith, h.0, e, low))) (weaker No _ ((h.1 keep).1 (length xs - 1 - j) (omega (arith, h.0)))) in zeros x.0 j b x.1 x.2
      by j above (no b) = get_or-eq_default xs R.zero (omega arith)

      stays : at R xs i ≢ R.zero
      stays = let x = read Yes (look (length xs - 1 - i)) (at R xs i) (reads i R.zero low (omega (arith, h.0, low))) (weaker Yes _ (h.1 keep).0) in top x.0 i low x.1 x.2
