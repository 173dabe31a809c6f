-- The values of a delay line as its cells turn round.
use Rattle.std.proofs.Common.{◌≡◌, ℕ, suc, ◌+◌, ◌-◌, ◌<◌, ◌≤◌, min, List, [], ◌∷◌, ◌++◌, length, get_or, take, drop, set, sym, ap, ◌∙◌, append_assoc, append-nil, add-one, arith, drop_of_length-le, length-take, take_all, drop-cons, get_or-take, take-take, take-suc-set, drop-set-lt}
use native.Mathlib.Decide.{dec_lt}
use lib.Seq.{take-set-lt, take-nil, drop-nil}
use Rattle.std.proofs.lemmas.List.{drop-take}
use Rattle.sources.specs.Window.{turned, window}

module _ {A : Type 0} where
  pub take_min : (n : ℕ) (xs : List A) → take (min n (length xs)) xs ≡ take n xs
  take_min n xs = at (dec_lt n (length xs))
    where
      at : Dec (n < length xs) → take (min n (length xs)) xs ≡ take n xs
      at (yes h) = let e : min n (length xs) ≡ n = omega arith in rw e
      at (no h) = let e : min n (length xs) ≡ length xs = omega arith in rw e (take_all (length xs) xs (omega arith) ∙ sym (take_all n xs (omega arith)))

  -- the part of a list from a place on, up to another
  older_inside : (xs : List A) (at end : ℕ) → at ≤ end → take (end - at) (drop at xs) ≡ drop at (take end xs)
  older_inside xs at end h = sym (ap (λ (n : ℕ). drop at (take n xs)) (omega arith) ∙ drop-take at (end - at) xs)

  older_whole : (xs : List A) (at end start : ℕ) → end ≤ length xs → start ≡ min at end → take (end - start) (drop start xs) ≡ drop at (take end xs)
  older_whole xs at end start h e = by_cases (dec_lt end at)
    where
      by_cases : Dec (end < at) → take (end - start) (drop start xs) ≡ drop at (take end xs)
      by_cases (yes b) =
          let none : end - start ≡ 0 = omega arith in
          let size : length (take end xs) ≤ at = simp length-take (omega arith) in
          ap (λ (n : ℕ). take n (drop start xs)) none ∙ sym (drop_of_length-le (take end xs) {i = at} size)
      by_cases (no b) = let same : start ≡ at = omega arith in rw same (older_inside xs at end (omega arith))

  pub older_is : (xs : List A) (n at end start : ℕ) → end ≡ min n (length xs) → start ≡ min at end → take (end - start) (drop start xs) ≡ drop at (take n xs)
  older_is xs n at end start e s = older_whole xs at end start (omega arith) s ∙ ap (drop at) (ap (λ (k : ℕ). take k xs) e ∙ take_min n xs)

  newer_whole : (xs : List A) (at n : ℕ) → n ≤ length xs → take (min n at) xs ≡ take at (take n xs)
  newer_whole xs at n h = by_cases (dec_lt n at)
    where
      by_cases : Dec (n < at) → take (min n at) xs ≡ take at (take n xs)
      by_cases (yes b) =
          let e : min n at ≡ n = omega arith in
          let size : length (take n xs) ≤ at = simp length-take (omega arith) in
          rw e (sym (take_all at (take n xs) size))
      by_cases (no b) = let e : min n at ≡ at = omega arith in rw e (sym (take-take at n xs (omega arith)))

  pub newer_is : (xs : List A) (n at end : ℕ) → end ≡ min (min n (length xs)) at → take end xs ≡ take at (take n xs)
  newer_is xs n at end e =
      ap (λ (k : ℕ). take k xs) (omega arith) ∙ newer_whole xs at (min n (length xs)) (omega arith) ∙ ap (take at) (take_min n xs)

  -- a place past the end is the first
  pub turned_past : (xs : List A) (at : ℕ) → length xs ≤ at → turned at xs ≡ turned 0 xs
  unfolding turned
  turned_past xs at h = ap (λ l. l ++ take at xs) (drop_of_length-le xs {i = at} h) ∙ take_all at xs h ∙ sym (append-nil xs)

  -- x is put where the oldest value was
  turned_on : (xs : List A) (at : ℕ) (x d : A) → at < length xs → (get_or xs at d ∷ turned (at + 1) (set xs at x)) ≡ turned at xs ++ (x ∷ [])
  unfolding turned
  turned_on xs at x d h =
      rw add-one
      (ap (λ l. get_or xs at d ∷ (l ++ take (suc at) (set xs at x))) (drop-set-lt (suc at) xs at x (omega arith))
      ∙ ap (λ l. get_or xs at d ∷ (drop (suc at) xs ++ l)) (take-suc-set xs at x h)
      ∙ sym (ap (λ l. (l ++ take at xs) ++ (x ∷ [])) (drop-cons xs at d h) ∙ append_assoc (get_or xs at d ∷ drop (suc at) xs) (take at xs) (x ∷ [])))

  pub pushed : (cells : List A) (n at place : ℕ) (x d : A) → place < length (take n cells) → turned at (take n cells) ≡ turned place (take n cells)
      → (get_or cells place d ∷ window (set cells place x) n (place + 1)) ≡ window cells n at ++ (x ∷ [])
  pushed cells n at place x d h same =
      let within : place < n = omega (arith, simp length-take at h) in
      ap (λ (a : A). a ∷ window (set cells place x) n (place + 1)) (sym (get_or-take n cells place d within))
      ∙ ap (λ l. get_or (take n cells) place d ∷ turned (place + 1) l) (take-set-lt n cells place x within)
      ∙ turned_on (take n cells) place x d h
      ∙ ap (λ l. l ++ (x ∷ [])) (sym same)

  -- a line of no length passes on what it is given
  pub passed_on : (cells : List A) (n at : ℕ) (x : A) → length (take n cells) ≡ 0 → (x ∷ window cells n at) ≡ window cells n at ++ (x ∷ [])
  unfolding turned
  passed_on cells n at x h = empty (take n cells) h
    where
      empty : (xs : List A) → length xs ≡ 0 → (x ∷ (drop at xs ++ take at xs)) ≡ (drop at xs ++ take at xs) ++ (x ∷ [])
      empty [] e = simp (drop-nil, take-nil)
      empty (y ∷ ys) e = absurd (omega arith)
