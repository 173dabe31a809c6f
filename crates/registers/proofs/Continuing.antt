-- The list of a register, from the values in its line.
use Rattle.std.proofs.Common.{◌≡◌, ℕ, zero, suc, ◌+◌, ◌-◌, ◌<◌, ◌≤◌, T, List, [], ◌∷◌, ◌++◌, length, get_or, take, drop, sym, refl, ap, ◌∙◌, ap₂, add-one, arith, length-append, length-drop, get_or-drop, take_all, get_or-append-add}
use native.Mathlib.Decide.{dec_lt}
use lib.ListN.{get_or-append, get_or-eq_default}
use lib.Seq.{get_or-append_seam}
use Rattle.ring.specs.Ring.{Ring, Laws}
use Rattle.ring.specs.Commutative.{CommRing, sum}
use Rattle.ring.specs.Lawful.{Lawful as Element, Is, lifted, hold, cells, AllLawful}
use Rattle.ring.proofs.Lifts as Lifts
use Rattle.ring.proofs.Sums as Sums
use Rattle.ring.proofs.Loops.{lawful_at}
use Rattle.ring.proofs.Strong.{strong}
use Rattle.recurrence.proofs.Polynomials.{run}
use Rattle.recurrence.proofs.Recurrences as Rec
use Rattle.registers.specs.Registers.{dot, continued}

-- all that is left of a list
pub all_dropped : {A : Type 0} (xs : List A) (n : ℕ) → take (length xs - n) (drop n xs) ≡ drop n xs
all_dropped xs n = take_all (length xs - n) (drop n xs) (simp length-drop (omega arith))

-- two lists that go on alike are one list
module _ {A : Type 0} (R : CommRing A) (D : ℕ) (p : ℕ → A) where
  infixl 70 ◌⊗◌
  infix 80 ⊖◌
  open R use {◌⊗◌, ⊖◌}

  abbrev GoesOn : (ℕ → A) → Type 0
  GoesOn u = (k : ℕ) → D ≤ k → u k ≡ ⊖ sum R D (λ j. p j ⊗ u (k - D + j))

  once : (u v : ℕ → A) → ((k : ℕ) → k < D → u k ≡ v k) → GoesOn u → GoesOn v → (k : ℕ) → u k ≡ v k
  once u v begin gu gv = strong (λ k. u k ≡ v k) (λ k less. at k less (dec_lt k D))
    where
      at : (k : ℕ) → ((m : ℕ) → m < k → u m ≡ v m) → Dec (k < D) → u k ≡ v k
      at k less (yes h) = begin k h
      at k less (no h) =
          gu k (omega arith)
          ∙ ap ⊖◌ (Sums.sum_ext R D _ _ (λ j within. ap (λ z. p j ⊗ z) (less (k - D + j) (omega arith))))
          ∙ sym (gv k (omega arith))

  -- the run of the values from the second on, followed by what continues them, is the run of the values from its second word on
  pub run_later : (S T : ℕ → A) → ((k : ℕ) → suc k < D → T k ≡ S (suc k)) → ((k : ℕ) → suc k ≡ D → T k ≡ ⊖ sum R D (λ j. p j ⊗ S j))
      → (t : ℕ) → run R D p D T t ≡ run R D p D S (t + 1)
  run_later S T inner last = once (run R D p D T) (λ t. run R D p D S (t + 1)) begin (Rec.run_next R D p D T (omega arith)) goes_on
    where
      begin_at : (k : ℕ) → k < D → Dec (suc k < D) → run R D p D T k ≡ run R D p D S (k + 1)
      begin_at k h (yes b) = Rec.run_begins R D p D T k h ∙ inner k b ∙ sym (ap (run R D p D S) (add-one k) ∙ Rec.run_begins R D p D S (suc k) b)
      begin_at k h (no b) =
          Rec.run_begins R D p D T k h
          ∙ last k (omega arith)
          ∙ sym
          (Rec.run_next R D p D S (omega arith) (k + 1) (omega arith)
          ∙ ap ⊖◌ (Sums.sum_ext R D _ _ (λ j within. ap (λ z. p j ⊗ z) (ap (run R D p D S) (omega arith) ∙ Rec.run_begins R D p D S j within))))

      begin : (k : ℕ) → k < D → run R D p D T k ≡ run R D p D S (k + 1)
      begin k h = begin_at k h (dec_lt (suc k) D)

      goes_on : GoesOn (λ t. run R D p D S (t + 1))
      goes_on k h =
          Rec.run_next R D p D S (omega arith) (k + 1) (omega arith)
          ∙ ap ⊖◌ (Sums.sum_ext R D _ _ (λ j within. ap (λ z. p j ⊗ z) (ap (run R D p D S) (omega arith))))

module _ {E : Type 0} {R : Ring E} (L : Laws R) where
  hold_cell : (xs : List E) (j : ℕ) (a : E) → a ≡ get_or xs j R.zero → hold L a ≡ cells L xs j
  unfolding cells
  hold_cell xs j a e = ap (hold L) e

  -- lists of lawful elements
  pub front_lawful : (xs ys : List E) → AllLawful L (xs ++ ys) → AllLawful L xs
  front_lawful xs ys h j = go (dec_lt j (length xs))
    where
      go : Dec (j < length xs) → T (R.lawful (get_or xs j R.zero))
      go (yes b) = lawful_at L (sym (get_or-append xs ys R.zero j b)) (h j)
      go (no b) = lawful_at L (get_or-eq_default xs R.zero (omega arith)) L.ring_laws.zero_lawful

  pub back_lawful : (xs ys : List E) → AllLawful L (xs ++ ys) → AllLawful L ys
  back_lawful xs ys h j = lawful_at L (sym (get_or-append-add xs ys j R.zero)) (h (length xs + j))

  pub drop_lawful : (n : ℕ) (xs : List E) → AllLawful L xs → AllLawful L (drop n xs)
  drop_lawful n xs h j = lawful_at L (get_or-drop n xs j R.zero) (h (n + j))

  append_lawful : (xs ys : List E) → AllLawful L xs → AllLawful L ys → AllLawful L (xs ++ ys)
  append_lawful xs ys hx hy j = go (dec_lt j (length xs))
    where
      go : Dec (j < length xs) → T (R.lawful (get_or (xs ++ ys) j R.zero))
      go (yes b) = lawful_at L (get_or-append xs ys R.zero j b) (hx j)
      go (no b) =
          lawful_at L (ap (λ (i : ℕ). get_or (xs ++ ys) i R.zero) {x = j} {y = length xs + (j - length xs)} (omega arith) ∙ get_or-append-add xs ys (j - length xs) R.zero) (hy (j - length xs))

  one_lawful : (x : E) → T (R.lawful x) → AllLawful L (x ∷ [])
  one_lawful x h zero = h
  one_lawful x h (suc j) = L.ring_laws.zero_lawful

  -- the values that a line holds after x went in, and the one that came out
  module _ (cs xs ys : List E) (x out : E) (pushed : (out ∷ ys) ≡ xs ++ (x ∷ [])) (follows : Is L x ((lifted L).⊖◌ (dot L cs xs))) where
    pub length_same : length ys ≡ length xs
    length_same = let e : length (out ∷ ys) ≡ length (xs ++ (x ∷ [])) = ap length pushed in omega (arith, simp length-append at e)

    shifted : (k : ℕ) → get_or ys k R.zero ≡ get_or (xs ++ (x ∷ [])) (suc k) R.zero
    shifted k = ap (λ l. get_or l (suc k) R.zero) pushed

    later_inner : (k : ℕ) → suc k < length xs → cells L ys k ≡ cells L xs (suc k)
    later_inner k h = Lifts.cells_same L ys xs k (suc k) (shifted k ∙ get_or-append xs (x ∷ []) R.zero (suc k) h)

    later_last : (k : ℕ) → suc k ≡ length xs → cells L ys k ≡ (lifted L).⊖◌ (dot L cs xs)
    later_last k h =
        Lifts.cell_eq L ys k ((lifted L).⊖◌ (dot L cs xs))
        (Lifts.is_same L (shifted k ∙ ap (λ (i : ℕ). get_or (xs ++ (x ∷ [])) i R.zero) h ∙ get_or-append_seam xs x [] R.zero) follows)

    pub continued_later : (t : ℕ) → continued L cs ys t ≡ continued L cs xs (t + 1)
    continued_later t =
        ap (λ (n : ℕ). (run (lifted L) n (cells L cs) n (cells L ys) t).0) length_same
        ∙ ap (λ (a : Element L). a.0) (run_later (lifted L) (length xs) (cells L cs) (cells L xs) (cells L ys) later_inner later_last t)

    pub both_lawful : AllLawful L xs → AllLawful L (out ∷ ys)
    both_lawful h j = lawful_at L (ap (λ l. get_or l j R.zero) pushed) (append_lawful xs (x ∷ []) h (one_lawful x (Lifts.ok L follows)) j)

    pub pushed_lawful : AllLawful L xs → AllLawful L ys
    pushed_lawful h j = both_lawful h (suc j)

    pub continued_first : AllLawful L xs → out ≡ continued L cs xs 0
    continued_first h = (Lifts.hold_is L out (both_lawful h 0)).eq ∙ ap (λ (a : Element L). a.0) (at (dec_lt 0 (length xs)))
      where
        came : out ≡ get_or (xs ++ (x ∷ [])) 0 R.zero
        came = ap (λ l. get_or l 0 R.zero) pushed

        empty_sum : length xs ≡ 0 → (f g : ℕ → Element L) → sum (lifted L) (length xs) f ≡ sum (lifted L) (length xs) g
        empty_sum none f g = Sums.sum_ext (lifted L) (length xs) f g (λ j within. absurd (omega arith))

        at : Dec (0 < length xs) → hold L out ≡ run (lifted L) (length xs) (cells L cs) (length xs) (cells L xs) 0
        at (yes h) =
            hold_cell xs 0 out (came ∙ get_or-append xs (x ∷ []) R.zero 0 h)
            ∙ sym (Rec.run_begins (lifted L) (length xs) (cells L cs) (length xs) (cells L xs) 0 h)
        at (no h) =
            let none : 0 ≡ length xs = omega arith in
            ap (hold L) (came ∙ ap (λ (i : ℕ). get_or (xs ++ (x ∷ [])) i R.zero) none ∙ get_or-append_seam xs x [] R.zero)
            ∙ Lifts.held L follows
            ∙ ap (lifted L).⊖◌ (empty_sum (sym none) _ _)
            ∙ sym (Rec.run_next (lifted L) (length xs) (cells L cs) (length xs) (cells L xs) (omega arith) 0 (omega arith))

  -- with no values all is zero
  pub continued_none : (cs xs : List E) → length xs ≡ 0 → (t : ℕ) → continued L cs xs t ≡ R.zero
  continued_none cs xs none t =
      ap (λ (a : Element L). a.0)
      (Rec.run_next (lifted L) (length xs) (cells L cs) (length xs) (cells L xs) (omega arith) t (omega arith)
      ∙ ap (lifted L).⊖◌ (Sums.sum_none (lifted L) (length xs) _ (λ j within. absurd (omega arith)))
      ∙ Sums.neg_zero (lifted L))
      ∙ sym (Lifts.zero_is L refl).eq

  -- the sum over a line, in two parts
  pub dot_parts : (cs xs ys : List E) → dot L cs (xs ++ ys) ≡ (lifted L).◌⊕◌ (dot L cs xs) (dot L (drop (length xs) cs) ys)
  dot_parts cs xs ys =
      ap (λ (n : ℕ). sum (lifted L) n f) (length-append xs ys)
      ∙ Sums.sum_split (lifted L) (length xs) (length ys) f
      ∙ ap₂ (lifted L).◌⊕◌
      (Sums.sum_ext (lifted L) (length xs) _ _ (λ j b. ap (λ a. (lifted L).◌⊗◌ (cells L cs j) a) (Lifts.cells_same L (xs ++ ys) xs j j (get_or-append xs ys R.zero j b))))
      (Sums.sum_ext (lifted L) (length ys) _ _
      (λ j b. ap₂ (lifted L).◌⊗◌ (sym (Lifts.cells_same L (drop (length xs) cs) cs j (length xs + j) (get_or-drop (length xs) cs j R.zero))) (Lifts.cells_same L (xs ++ ys) ys (length xs + j) j (get_or-append-add xs ys j R.zero))))
    where
      f : ℕ → Element L
      f j = (lifted L).◌⊗◌ (cells L cs j) (cells L (xs ++ ys) j)

  -- the element that follows, from the two sums
  pub follows_is : (cs xs ys : List E) (a b s z r : E) → a ≡ (dot L cs xs).0 → b ≡ (dot L (drop (length xs) cs) ys).0
      → (T (R.lawful a) → T (R.lawful b) → s ≡ R.add a b) → z ≡ R.zero → (T (R.lawful z) → T (R.lawful s) → r ≡ R.sub z s)
      → r ≡ ((lifted L).⊖◌ (dot L cs (xs ++ ys))).0
  follows_is cs xs ys a b s z r ea eb add ez sub =
      let sum_is : Is L s ((lifted L).◌⊕◌ (dot L cs xs) (dot L (drop (length xs) cs) ys)) = Lifts.add_is L (record { eq = ea }) (record { eq = eb }) add in
      (Lifts.sub_is L (Lifts.zero_is L ez) (Lifts.is_at L (sym (dot_parts cs xs ys)) sum_is) sub).eq
      ∙ ap (λ (e : Element L). e.0) (Sums.zero_add (lifted L) ((lifted L).⊖◌ (dot L cs (xs ++ ys))))
