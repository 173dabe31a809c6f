-- The words that a capture holds in memory that is lent: where they lie, and whether they are lawful.
use Rattle.std.proofs.Common.{◌≡◌, sym, ℕ, ◌*◌, ◌/◌, ◌%◌, ◌<◌, ◌≤◌, T, List, subst, mul-le-mul_right, mod-lt, div-lt_iff_lt-mul, div-add-mod', ⊎_elim, arith}
use Rattle.ring.specs.Ring.{Ring}
use Rattle.ring.proofs.Loops.{place_inside}
use Rattle.recurrence.specs.declared.shape.Shape.{Shape}
use Rattle.recurrence.specs.Memory.{at, Unlawful}
use Rattle.recurrence.specs.Words.{place, words, LawfulWords}
use Rattle.recurrence.proofs.Elements.{lawful_below, unlawful_or_not}

module _ (s : Shape) where
  abbrev e : ℕ
  e = s.count.words

  abbrev n : ℕ
  n = s.channels

  -- the words held have room where the capacity has
  pub room_held : (size : ℕ) → s.capacity * n ≤ size → e * n ≤ size
  room_held size h = omega (arith, mul-le-mul_right n s.ok.0)

  module _ {E : Type 0} (R : Ring E) (ws : List E) where
    pub words_lawful : ¬ Unlawful R ws (e * n) → LawfulWords R n e (words R s ws)
    words_lawful h k c hk hc = lawful_below R ws (e * n) h (place s k c) (place_inside e n k c hk hc)

    pub words_foreign : Unlawful R ws (e * n) → ¬ LawfulWords R n e (words R s ws)
    words_foreign (j, below, wrong) lawful =
        let wide : 0 < n = s.ok.2 in
        wrong (subst (λ (i : ℕ). T (R.lawful (at R ws i))) (div-add-mod' j n) (lawful (j / n) (j % n) ((div-lt_iff_lt-mul wide).1 below) (mod-lt j wide)))

    pub foreign_words : ¬ LawfulWords R n e (words R s ws) → Unlawful R ws (e * n)
    foreign_words foreign = ⊎_elim (λ u. u) (λ none. absurd (foreign (words_lawful none))) (unlawful_or_not R ws (e * n))

    -- an element of the words held, read at its place in memory
    pub read_lawful_place : LawfulWords R n e (words R s ws) → (q : ℕ) (x : E) → q < e * n → x ≡ at R ws q → T (R.lawful x)
    read_lawful_place lawful q x below is =
        let wide : 0 < n = s.ok.2 in
        subst (λ v. T (R.lawful v)) (sym is)
        (subst (λ (i : ℕ). T (R.lawful (at R ws i))) (div-add-mod' q n) (lawful (q / n) (q % n) ((div-lt_iff_lt-mul wide).1 below) (mod-lt q wide)))
