-- The turns of a continuation.
use Rattle.std.proofs.Common.{◌≡◌, ℕ, ◌+◌, ◌-◌, ◌*◌, ◌<◌, ◌≤◌, Bool, cond, T, ltb, List, sym, ap, ◌∙◌, subst, ap₂, arith, le-ltb, lt-ltb}
use native.Mathlib.Decide.{dec_lt}
use lib.Arith.{digits_lt, digits_div, digits_mod}
use Rattle.ring.specs.Ring.{Ring, Laws, sum}
use Rattle.ring.proofs.Lifts as Lifts
use Rattle.ring.proofs.Loops.{Added, lawful_at}
use Rattle.recurrence.specs.declared.shape.Shape.{Shape}
use Rattle.recurrence.specs.Memory.{at}
use Rattle.recurrence.specs.Polynomials.{Lawful}
use Rattle.recurrence.specs.Words.{words, LawfulWords, run}
use Rattle.recurrence.proofs.Continuations as Continuations
use Rattle.continuation.specs.Filling.{Filled}

-- the terms of channel c of word e + t
abbrev pub terms : {E : Type 0} → Ring E → Shape → List E → ℕ → (ℕ → E) → ℕ → ℕ → ℕ → E
terms R s ws D p c t j = R.mul (p j) (run R s.count.words (words R s ws) D p c (s.count.words + t - D + j))

-- the words held are lawful, and so is a polynomial of degree D, which reads no more of them than there are
pub record Ready {E : Type 0} (R : Ring E) (s : Shape) (ws : List E) (D : ℕ) (p : ℕ → E) : Type 0 where
  pub words : LawfulWords R s.channels s.count.words (words R s ws)
  pub polynomial : Lawful R p
  pub short : D ≤ s.count.words

module _ {E : Type 0} {R : Ring E} (L : Laws R) (s : Shape) (ws : List E) (D : ℕ) (p : ℕ → E) (ready : Ready R s ws D p) where
  abbrev e : ℕ
  e = s.count.words

  -- the run
  abbrev w : ℕ → ℕ → E
  w = run R e (words R s ws) D p

  pub run_lawful : (c k : ℕ) → c < s.channels → T (R.lawful (w c k))
  run_lawful c k hc = Lifts.ok L (Continuations.run_is L s.channels e (words R s ws) ready.words D p ready.polynomial ready.short c hc k)

  -- the word that is looked up
  pub looked : (out : List E) (t c j : ℕ) (x : E) → j < D → c < s.channels → Filled R s ws D p out (t * s.channels + c)
      → x ≡ cond (ltb t (D - j)) (words R s ws c (e - (D - j - t))) (at R out ((t - (D - j)) * s.channels + c))
      → x ≡ w c (e + t - D + j)
  looked out t c j x hj hc filled is = by (dec_lt t (D - j))
    where
      short : D ≤ e
      short = ready.short

      Q : Bool → Type 0
      Q b = x ≡ cond b (words R s ws c (e - (D - j - t))) (at R out ((t - (D - j)) * s.channels + c))

      by : Dec (t < D - j) → x ≡ w c (e + t - D + j)
      by (yes h) =
          let k : e - (D - j - t) ≡ e + t - D + j = omega arith in
          subst Q (lt-ltb t (D - j) h) is ∙ sym (Continuations.run_begins R e (words R s ws) D p c (e - (D - j - t)) (omega arith)) ∙ ap (w c) k
      by (no h) =
          let back : t - (D - j) < t = omega arith in
          let before : (t - (D - j)) * s.channels + c < t * s.channels + c = omega (arith, digits_lt back hc) in
          let k : e + (t - (D - j)) ≡ e + t - D + j = omega arith in
          subst Q (le-ltb t (D - j) (omega arith)) is ∙ filled ((t - (D - j)) * s.channels + c) before
          ∙ ap₂ (λ (a b : ℕ). w a (e + b)) (digits_mod (t - (D - j)) hc) (digits_div (t - (D - j)) hc) ∙ ap (w c) k

  -- minus the whole sum is the next word
  pub ended : (t c m : ℕ) (total r z : E) → m ≡ D → Added L (terms R s ws D p c t) m total → z ≡ R.zero
      → (T (R.lawful z) → T (R.lawful total) → r ≡ R.sub z total) → r ≡ w c (e + t)
  ended t c m total r z all added zero difference =
      difference (lawful_at L zero L.ring_laws.zero_lawful) added.0
      ∙ ap₂ R.sub zero (added.1 ∙ ap (λ (k : ℕ). sum R k (terms R s ws D p c t)) all)
      ∙ sym (Continuations.run_next R e (words R s ws) D p ready.short c (e + t) (omega arith))
