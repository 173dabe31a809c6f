-- From the sums at every place to the verdict of the whole polynomial, and back.
use Rattle.std.proofs.Common.{◌≡◌, ℕ, zero, suc, ◌+◌, ◌<◌, ◌≤◌, T, ◌↔◌, List, length, take, refl, sym, ◌∙◌, subst, arith, length-take, get_or-take}
use mathlib.Core.Path.{fun_ext}
use lib.ListN.{get_or-eq_default}
use native.Mathlib.Decide.{dec_lt}
use Rattle.ring.specs.Ring.{Ring, sum}
use Rattle.recurrence.specs.declared.shape.Shape.{Shape}
use Rattle.recurrence.specs.Memory.{at, Unlawful}
use Rattle.recurrence.specs.Polynomials.{Within, Degree}
use Rattle.recurrence.specs.Reductions.{Coefficients}
use Rattle.recurrence.specs.Words.{words, Cancels}
use Rattle.cancelling.specs.Trials.{ZeroAt}

module _ {E : Type 0} (R : Ring E) (s : Shape) (ws f : List E) where
  -- a polynomial with m coefficients has degree m - 1
  degree_is : (m d : ℕ) → Coefficients R m (at R f) → Degree R d (at R f) → m ≡ suc d
  degree_is m d counted has = at_m m (dec_lt m (suc d)) counted
    where
      at_m : (m : ℕ) → Dec (m < suc d) → Coefficients R m (at R f) → m ≡ suc d
      at_m m (yes low) h = absurd (has.top (h.past d (omega arith)))
      at_m zero (no high) h = absurd (omega arith)
      at_m (suc j) (no high) h = go (dec_lt d j)
        where
          go : Dec (d < j) → suc j ≡ suc d
          go (yes below) = absurd (h.last j refl (has.above j (omega arith)))
          go (no b) = omega arith

  abbrev Zeros : ℕ → Type 0
  Zeros m = (k : ℕ) → k + m ≤ s.count.words → ZeroAt R s ws f m k

  pub verdict : (m : ℕ) → Coefficients R m (at R f) → Zeros m ↔ Cancels R s.channels s.count.words (words R s ws) (at R f)
  unfolding sum
  verdict m counted = (cancels, zeros m counted)
    where
      cancels : Zeros m → Cancels R s.channels s.count.words (words R s ws) (at R f)
      cancels all d has k c below channel =
          let e : m ≡ suc d = degree_is m d counted has in
          subst (λ z. sum R z (λ j. R.mul (at R f j) (words R s ws c (k + j))) ≡ R.zero) e (all k (omega arith) c channel)

      zeros : (m : ℕ) → Coefficients R m (at R f) → Cancels R s.channels s.count.words (words R s ws) (at R f) → Zeros m
      zeros zero h whole k held c channel = refl
      zeros (suc d) h whole k held c channel =
          whole d (record { above = h.past; top = h.last d refl }) k c (omega arith) channel

module _ {E : Type 0} (R : Ring E) (f : List E) (m : ℕ) where
  -- the first m coefficients are lawful where all are
  pub taken_lawful : ¬ Unlawful R f (length f) → ¬ Unlawful R (take m f) (length (take m f))
  taken_lawful lawful u =
      let size : length (take m f) ≤ length f = omega (arith, length-take m f) in
      let inside : u.0 < m = omega (arith, u.1, length-take m f) in
      lawful (u.0, omega (arith, u.1), λ t. u.2 (subst (λ x. T (R.lawful x)) (sym (get_or-take m f u.0 R.zero inside)) t))

  at_taken : Within R m (at R f) → (j : ℕ) → at R (take m f) j ≡ at R f j
  at_taken past j = by (dec_lt j m)
    where
      by : Dec (j < m) → at R (take m f) j ≡ at R f j
      by (yes below) = get_or-take m f j R.zero below
      by (no high) = get_or-eq_default (take m f) R.zero (omega (arith, length-take m f)) ∙ sym (past j (omega arith))

  -- the verdict by the coefficients up to the last that is not zero
  pub verdict_taken : (s : Shape) (ws : List E) → m ≤ length f → Coefficients R m (at R f)
      → Zeros R s ws (take m f) (length (take m f)) ↔ Cancels R s.channels s.count.words (words R s ws) (at R f)
  verdict_taken s ws low counted =
      let same : at R (take m f) ≡ at R f = fun_ext (at_taken counted.past) in
      let size : length (take m f) ≡ m = omega (arith, length-take m f) in
      subst (λ (p : ℕ → E). Zeros R s ws (take m f) (length (take m f)) ↔ Cancels R s.channels s.count.words (words R s ws) p) same
      (verdict R s ws (take m f) (length (take m f))
      (subst (λ (p : ℕ → E). Coefficients R (length (take m f)) p) (sym same) (subst (λ (k : ℕ). Coefficients R k (at R f)) (sym size) counted)))
