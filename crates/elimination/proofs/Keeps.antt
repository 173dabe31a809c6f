-- A polynomial that is kept for a place.
use Rattle.std.proofs.Common.{◌≡◌, ℕ, suc, ◌+◌, ◌-◌, ◌*◌, ◌<◌, ◌≤◌, T, ◌≢◌, List, length, get_or, set, sym, ap, ◌∙◌, subst, arith, length-set, get_or-set_other, get_or-set_same}
use native.Mathlib.Decide.{dec_lt, ℕ_discrete}
use borrow.Rule.Slice.PartMut.{put_mid, same_len_mid}
use Rattle.std.proofs.lemmas.List.Edits.{length-between}
use Rattle.ring.specs.Ring.{Ring, Laws}
use Rattle.ring.specs.Lawful.{Lawful, Is, cells, AllLawful, level_of}
use Rattle.ring.proofs.Lifts as Lifts
use Rattle.recurrence.specs.declared.shape.Shape.{Shape}
use Rattle.recurrence.proofs.Captures.{Capture, value}
use Rattle.recurrence.proofs.Valuations as Val
use Rattle.places.specs.Places.{capture_of, Row}
use Rattle.elimination.specs.Stores.{Kept, kept_row, kept_value, kept_level, ToKeep, KeptOne}
use Rattle.places.proofs.Places.{wide, counts_place, apart}
use Rattle.elimination.proofs.Parts.{put_below, put_at, put_above, parts_same, part_is_list, put_lawful}

module _ {E : Type 0} {R : Ring E} (L : Laws R) (shape : Shape) (ws : List E) where
  abbrev C : Capture (Lawful L)
  C = capture_of L shape ws

  abbrev e : ℕ
  e = shape.count.words

  -- the store with row and its value in place of what was kept for the place q
  pub record Written (q : ℕ) (row old new : List E) (value : E) : Type 0 where
    pub lawful : AllLawful L new
    pub long : length new ≡ length old
    pub coefficients : (j : ℕ) → j < e + 1 → get_or new (q * (e + 2) + j) R.zero ≡ get_or row j R.zero
    pub value_is : get_or new (q * (e + 2) + (e + 1)) R.zero ≡ value
    pub below : (p : ℕ) → p < q * (e + 2) → get_or new p R.zero ≡ get_or old p R.zero
    pub above : (p : ℕ) → q * (e + 2) + (e + 2) ≤ p → get_or new p R.zero ≡ get_or old p R.zero

  pub written : (q a : ℕ) (row old : List E) (x : E) → a ≡ q * (e + 2) → a + (e + 2) ≤ length old → length row ≡ e + 1
      → AllLawful L old → AllLawful L row → T (R.lawful x)
      → Written q row old (set (put_mid a (a + (e + 1) - a) old row) (a + (e + 1)) x) x
  written q a row old x ea room len hw hr hx = record {
    lawful = λ j. lawful_at j (ℕ_discrete j b);
    long = length-set put b x ∙ put_len;
    coefficients = λ j h. let ne : a + j ≢ b = omega arith in
        ap (λ z. get_or (set put b x) (z + j) R.zero) (sym ea) ∙ get_or-set_other put b (a + j) x R.zero ne ∙ put_at old row a k same fits j R.zero (omega arith);
    value_is = ap (λ z. get_or (set put b x) (z + (e + 1)) R.zero) (sym ea) ∙ get_or-set_same put b x R.zero (omega (arith, put_len));
    below = λ p h. let ne : p ≢ b = omega arith in get_or-set_other put b p x R.zero ne ∙ put_below old row a k same fits p R.zero (omega arith);
    above = λ p h. let ne : p ≢ b = omega arith in get_or-set_other put b p x R.zero ne ∙ put_above old row a k same fits p R.zero (omega arith);
  }
    where
      k : ℕ
      k = a + (e + 1) - a

      b : ℕ
      b = a + (e + 1)

      put : List E
      put = put_mid a k old row

      same : length row ≡ k
      same = omega arith

      fits : a + k ≤ length old
      fits = omega arith

      put_len : length put ≡ length old
      put_len = same_len_mid a k old row (omega (arith, length-between old a b (omega arith)))

      lawful_at : (j : ℕ) → Dec (j ≡ b) → T (R.lawful (get_or (set put b x) j R.zero))
      lawful_at j (yes h) = subst (λ z. T (R.lawful z)) (sym (ap (λ z. get_or (set put b x) z R.zero) h ∙ get_or-set_same put b x R.zero (omega (arith, put_len)))) hx
      lawful_at j (no h) = subst (λ z. T (R.lawful z)) (sym (get_or-set_other put b j x R.zero h)) (put_lawful L old row a k same fits hw hr j)

  -- the other places keep what they have
  others : (q r : ℕ) (row old new : List E) (x : E) → Written q row old new x → r ≢ q → (j : ℕ) → j < e + 2 → get_or new (r * (e + 2) + j) R.zero ≡ get_or old (r * (e + 2) + j) R.zero
  others q r row old new x w ne j h = at (dec_lt r q)
    where
      at : Dec (r < q) → get_or new (r * (e + 2) + j) R.zero ≡ get_or old (r * (e + 2) + j) R.zero
      at (yes b) = w.below (r * (e + 2) + j) (omega (arith, apart r q (e + 2) b))
      at (no b) = w.above (r * (e + 2) + j) (omega (arith, apart q r (e + 2) (omega arith)))

  value_other : (q r : ℕ) (row old new : List E) (x : E) → Written q row old new x → r ≢ q → kept_value L shape new r ≡ kept_value L shape old r
  value_other q r row old new x w ne = Lifts.cells_same L new old _ _ (others q r row old new x w ne (e + 1) (omega arith))

  row_other : (q r : ℕ) (row old new : List E) (x : E) → Written q row old new x → r ≢ q → cells L (kept_row L shape new r) ≡ cells L (kept_row L shape old r)
  row_other q r row old new x w ne = parts_same L new old (r * (e + 2)) (r * (e + 2)) (e + 1) (λ j h. others q r row old new x w ne j (omega arith))

  -- the row is kept where its value there is of smaller valuation
  pub kept_there : (m q : ℕ) (row old new : List E) (x : E) → Row L shape ws m row → ToKeep L shape ws m q row old
      → Is L x (value C (cells L row) q) → Written q row old new x → level_of L (value C (cells L row) q) < kept_level L shape old q → KeptOne L shape ws m q row old new
  kept_there m q row old new x fit pre is w less = record {
    grown = record {
      store = record {
        lawful = w.lawful;
        size = pre.kept.size ∙ sym w.long;
        kept = λ r. kept_at r (ℕ_discrete r q);
      };
      smaller = λ r. smaller_at r (ℕ_discrete r q);
    };
    here = omega (arith, same_level);
  }
    where
      row_there : cells L (kept_row L shape new q) ≡ cells L row
      row_there = part_is_list L new row (q * (e + 2)) (e + 1) fit.long w.coefficients

      value_there : kept_value L shape new q ≡ value C (cells L row) q
      value_there = Lifts.cell_eq L new _ _ (Lifts.is_same L w.value_is is)

      same_level : kept_level L shape new q ≡ level_of L (value C (cells L row) q)
      same_level = ap (level_of L) value_there

      kept_at : (r : ℕ) → Dec (r ≡ q) → Kept L shape ws (suc m) r (cells L (kept_row L shape new r)) (kept_value L shape new r)
      kept_at r (yes h) = subst (λ z. Kept L shape ws (suc m) z (cells L (kept_row L shape new z)) (kept_value L shape new z)) (sym h)
          (subst (λ f. Kept L shape ws (suc m) q f (kept_value L shape new q)) (sym row_there)
          (record {
            below = fit.below;
            zeros = λ t b. pre.zeros t b (omega (arith, Val.div_mono shape.channels t q (wide shape) (omega arith), counts_place shape q m fit.small pre.place));
            is = value_there;
          }))
      kept_at r (no h) = subst (λ a. Kept L shape ws (suc m) r (cells L (kept_row L shape new r)) a) (sym (value_other q r row old new x w h))
          (subst (λ f. Kept L shape ws (suc m) r f (kept_value L shape old r)) (sym (row_other q r row old new x w h)) (pre.kept.kept r))

      smaller_at : (r : ℕ) → Dec (r ≡ q) → kept_level L shape new r ≤ kept_level L shape old r
      smaller_at r (yes h) = subst (λ z. kept_level L shape new z ≤ kept_level L shape old z) (sym h) (omega (arith, same_level))
      smaller_at r (no h) = let same : kept_level L shape new r ≡ kept_level L shape old r = ap (level_of L) (value_other q r row old new x w h) in omega arith
