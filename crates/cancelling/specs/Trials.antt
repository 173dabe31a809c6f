-- What trying a polynomial on the words of a capture means, place by place and as a whole.
use Rattle.std.specs.Prelude.{◌≡◌, ℕ, suc, ◌+◌, ◌*◌, ◌<◌, ◌≤◌, Bool, T, ◌⊎◌, ◌↔◌, List, [], ◌∷◌, ◌++◌, length, Result}
use Rattle.ring.specs.declared.Refusal.{Refusal}
use Rattle.ring.specs.declared.Refusal.TheVariants.{Channels, Short, Foreign, Stages, Span}
use Rattle.ring.specs.Ring.{Ring, sum, power, Split, UnitOf}
use Rattle.ring.specs.Refusals.{Row, Call}
use Rattle.recurrence.specs.declared.shape.Shape.{Shape}
use Rattle.recurrence.specs.Memory.{at, Unlawful}
use Rattle.recurrence.specs.Polynomials.{Within}
use Rattle.recurrence.specs.Words.{words, Cancels}

module _ {E : Type 0} (R : Ring E) where
  module _ (s : Shape) (ws f : List E) where
    -- a word that is held, or a coefficient, is not lawful
    abbrev pub ForeignRead : Type 0
    ForeignRead = Unlawful R ws (s.count.words * s.channels) ⊎ Unlawful R f (length f)

    -- what is refused of what is read
    abbrev pub reading : List Row
    reading = (length ws < s.capacity * s.channels, Short) ∷ (ForeignRead, Foreign) ∷ []

    -- the sum over the first m coefficients is zero at word k, in every channel
    abbrev pub ZeroAt : ℕ → ℕ → Type 0
    ZeroAt m k = (c : ℕ) → c < s.channels → sum R m (λ j. R.mul (at R f j) (words R s ws c (k + j))) ≡ R.zero

    -- the sum over the listed coefficients at word k, channel c; every word that it reads has to be held
    abbrev pub Summed : ℕ → ℕ → Result E Refusal → Type 0
    Summed k c r =
        Call ((s.channels ≤ c, Channels) ∷ (reading ++ ((s.count.words < k + length f, Span) ∷ [])))
        r (λ a. a ≡ sum R (length f) (λ j. R.mul (at R f j) (words R s ws c (k + j)))) (Unit {0})

    -- whether the polynomial cancels the words held
    abbrev pub Judged : Result Bool Refusal → Type 0
    Judged r = Call reading r (λ b. T b ↔ Cancels R s.channels s.count.words (words R s ws) (at R f)) (Unit {0})

  -- g is f times the inverse w of a unit part u of its leading coefficient: so g leads with step^v alone, and is monic where v is 0
  pub record Normal (f g : List E) (v : ℕ) : Type 0 where
    pub degree : ℕ
    pub above : Within R (suc degree) (at R f)
    pub below : v < R.depth
    pub unit : E
    pub inverse : E
    pub top : Split R (at R f degree) v unit
    pub inverts : UnitOf R unit inverse
    pub size : length g ≡ length f
    pub scaled : (j : ℕ) → j < length f → at R g j ≡ R.mul inverse (at R f j)
    pub leads : at R g degree ≡ power R R.step v

  -- what is asked of a polynomial that is to be normal: lawful coefficients, not all zero
  abbrev pub Normalized : List E → Result ℕ Refusal → List E → Type 0
  Normalized f r g =
      Call ((Unlawful R f (length f), Foreign) ∷ (((j : ℕ) → at R f j ≡ R.zero), Stages) ∷ [])
      r (λ v. Normal f g v) (g ≡ f)
