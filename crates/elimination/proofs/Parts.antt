-- Parts of memory, and memory with a part written.
use Rattle.std.proofs.Common.{◌≡◌, ℕ, ◌+◌, ◌-◌, ◌<◌, ◌≤◌, T, List, ◌++◌, length, get_or, take, drop, sym, ap, ◌∙◌, subst, arith, length-take, length-take-le, get_or-drop, get_or-take}
use mathlib.Core.Path.{fun_ext}
use native.Mathlib.Decide.{dec_lt}
use borrow.Rule.Slice.PartMut.{put_mid}
use Rattle.std.proofs.lemmas.List.{get_or_append_left, get_or-append_right}
use Rattle.ring.specs.Ring.{Ring, Laws}
use Rattle.ring.specs.Lawful.{lifted, cells, AllLawful}
use Rattle.ring.proofs.Lifts as Lifts

module _ {X : Type 0} (xs ys : List X) (a k : ℕ) (same : length ys ≡ k) (room : a + k ≤ length xs) where
  pub put_below : (p : ℕ) (d : X) → p < a → get_or (put_mid a k xs ys) p d ≡ get_or xs p d
  put_below p d h = get_or_append_left (take a xs) _ d p (omega (arith, length-take-le a xs (omega arith))) ∙ get_or-take a xs p d h

  pub put_at : (j : ℕ) (d : X) → j < k → get_or (put_mid a k xs ys) (a + j) d ≡ get_or ys j d
  put_at j d h =
      get_or-append_right (take a xs) _ a (a + j) d (length-take-le a xs (omega arith)) (omega arith)
      ∙ ap (λ m. get_or (ys ++ drop k (drop a xs)) m d) {x = a + j - a} {y = j} (omega arith) ∙ get_or_append_left ys _ d j (omega arith)

  pub put_above : (p : ℕ) (d : X) → a + k ≤ p → get_or (put_mid a k xs ys) p d ≡ get_or xs p d
  put_above p d h =
      get_or-append_right (take a xs) _ a p d (length-take-le a xs (omega arith)) (omega arith)
      ∙ get_or-append_right ys _ k (p - a) d same (omega arith)
      ∙ get_or-drop k (drop a xs) (p - a - k) d ∙ get_or-drop a xs (k + (p - a - k)) d ∙ ap (λ m. get_or xs m d) {x = a + (k + (p - a - k))} {y = p} (omega arith)

module _ {E : Type 0} {R : Ring E} (L : Laws R) where
  -- the cells of a part
  pub part_cell : (xs : List E) (a m j : ℕ) → j < m → cells L (take m (drop a xs)) j ≡ cells L xs (a + j)
  part_cell xs a m j h = Lifts.cells_same L (take m (drop a xs)) xs j (a + j) (get_or-take m (drop a xs) j R.zero h ∙ get_or-drop a xs j R.zero)

  pub part_none : (xs : List E) (a m j : ℕ) → m ≤ j → cells L (take m (drop a xs)) j ≡ (lifted L).𝟘
  part_none xs a m j h = Lifts.cells_past L (take m (drop a xs)) j (omega (arith, length-take m (drop a xs)))

  -- two parts with the same elements
  pub parts_same : (xs ys : List E) (a b m : ℕ) → ((j : ℕ) → j < m → get_or xs (a + j) R.zero ≡ get_or ys (b + j) R.zero) → cells L (take m (drop a xs)) ≡ cells L (take m (drop b ys))
  parts_same xs ys a b m h = fun_ext (λ j. at j (dec_lt j m))
    where
      at : (j : ℕ) → Dec (j < m) → cells L (take m (drop a xs)) j ≡ cells L (take m (drop b ys)) j
      at j (yes k) = part_cell xs a m j k ∙ Lifts.cells_same L xs ys (a + j) (b + j) (h j k) ∙ sym (part_cell ys b m j k)
      at j (no k) = part_none xs a m j (omega arith) ∙ sym (part_none ys b m j (omega arith))

  -- a part with the elements of a list
  pub part_is_list : (xs ys : List E) (a m : ℕ) → length ys ≡ m → ((j : ℕ) → j < m → get_or xs (a + j) R.zero ≡ get_or ys j R.zero) → cells L (take m (drop a xs)) ≡ cells L ys
  part_is_list xs ys a m len h = fun_ext (λ j. at j (dec_lt j m))
    where
      at : (j : ℕ) → Dec (j < m) → cells L (take m (drop a xs)) j ≡ cells L ys j
      at j (yes k) = part_cell xs a m j k ∙ Lifts.cells_same L xs ys (a + j) j (h j k)
      at j (no k) = part_none xs a m j (omega arith) ∙ sym (Lifts.cells_past L ys j (omega arith))

  -- a lawful list put into lawful cells
  pub put_lawful : (xs ys : List E) (a k : ℕ) → length ys ≡ k → a + k ≤ length xs → AllLawful L xs → AllLawful L ys → AllLawful L (put_mid a k xs ys)
  put_lawful xs ys a k same room hx hy j = at (dec_lt j a) (dec_lt j (a + k))
    where
      at : Dec (j < a) → Dec (j < a + k) → T (R.lawful (get_or (put_mid a k xs ys) j R.zero))
      at (yes h) _ = subst (λ z. T (R.lawful z)) (sym (put_below xs ys a k same room j R.zero h)) (hx j)
      at (no h) (yes b) =
          let e : j ≡ a + (j - a) = omega arith in
          subst (λ z. T (R.lawful z)) (sym (ap (λ m. get_or (put_mid a k xs ys) m R.zero) e ∙ put_at xs ys a k same room (j - a) R.zero (omega arith))) (hy (j - a))
      at (no h) (no b) = subst (λ z. T (R.lawful z)) (sym (put_above xs ys a k same room j R.zero (omega arith))) (hx j)
