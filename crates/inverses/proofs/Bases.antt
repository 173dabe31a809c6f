-- What a computed test says of every base.
use mathlib.Core.Path.{◌≡◌, sym, ap, subst, ◌∙◌}
use mathlib.Core.Logic.{◌≢◌}
use mathlib.Core.Bool.{Bool, true, false, ◌||◌, ◌&&◌, cond}
use mathlib.Core.List.{List, [], ◌∷◌}
use Prim.Native.Nat.{ℕ, ◌+◌, ◌<◌, ◌≤◌}
use native.Mathlib.Numerals.{add-one}
use lib.Dec.{T, eqb, eqb→eq, leb, leb→le}
use lib.ListN.{length, get_or, drop}
use lib.Seq.{drop-cons}
use borrow.Author.Tests.{ne_eqb}
use Rattle.inverses.specs.Bases.{bases, among, before, listed}

pub both_left : (a b : Bool) → T (a && b) → T a
both_left true b t = tt
both_left false b t = absurd t

pub both_right : (a b : Bool) → T (a && b) → T b
both_right true b t = t
both_right false b t = absurd t

pub either : (a b : Bool) (P : Type 0) → (T a → P) → (T b → P) → T (a || b) → P
either true b P f g t = f tt
either false b P f g t = g t

-- the test f passes at each entry
abbrev pub each : (ℕ → Bool) → List ℕ → Bool
each f [] = true
each f (x ∷ xs) = f x && each f xs

each_among : (f : ℕ → Bool) (xs : List ℕ) → T (each f xs) → (p : ℕ) → T (among p xs) → T (f p)
each_among f [] t p h = absurd h
each_among f (x ∷ xs) t p h =
    either (eqb p x) (among p xs) (T (f p))
    (λ e. subst (λ y. T (f y)) (sym (eqb→eq p x e)) (both_left (f x) (each f xs) t))
    (each_among f xs (both_right (f x) (each f xs) t) p)
    h

pub listed_each : (f : ℕ → Bool) → T (each f bases) → (p : ℕ) → T (listed p) → T (f p)
unfolding listed
listed_each f t p h = each_among f bases t p h

pub listed_low : (p : ℕ) → T (listed p) → 2 ≤ p
listed_low p h = leb→le 2 p (listed_each (leb 2) tt p h)

pub listed_high : (p : ℕ) → T (listed p) → p ≤ 251
listed_high p h = leb→le p 251 (listed_each (λ x. leb x 251) tt p h)

-- going on past an entry that is not p
module _ (p : ℕ) (xs : List ℕ) (i : ℕ) (lt : i < length xs) where
  rest : drop i xs ≡ get_or xs i 0 ∷ drop (i + 1) xs
  rest = rw add-one (drop-cons xs i 0 lt)

  pub past_among : get_or xs i 0 ≢ p → among p (drop i xs) ≡ among p (drop (i + 1) xs)
  past_among ne = ap (among p) rest ∙ ap (λ b. b || among p (drop (i + 1) xs)) (ne_eqb p (get_or xs i 0) (λ e. ne (sym e)))

  pub past_before : get_or xs i 0 ≢ p → before p (drop i xs) ≡ get_or xs i 0 + before p (drop (i + 1) xs)
  past_before ne = ap (before p) rest ∙ ap (λ b. cond b 0 (get_or xs i 0 + before p (drop (i + 1) xs))) (ne_eqb p (get_or xs i 0) (λ e. ne (sym e)))
