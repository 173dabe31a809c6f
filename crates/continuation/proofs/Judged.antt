-- What the words held and the finding are when they are refused, and what is filled when they are not.
use Rattle.std.proofs.Common.{◌≡◌, ℕ, ◌+◌, ◌-◌, ◌*◌, ◌%◌, ◌<◌, Bool, T, ◌⊎◌, List, [], length, take, drop, ◌∙◌, ap₂, inl, inr, ⊎_elim, arith}
use lib.Arith.{digits_div, digits_mod}
use Rattle.ring.specs.Ring.{Ring}
use Rattle.ring.specs.declared.Refusal.{Refusal}
use Rattle.ring.specs.Refusals.{Refuses}
use Rattle.recurrence.specs.declared.shape.Shape.{Shape}
use Rattle.recurrence.specs.declared.shape.Level.{Level}
use Rattle.recurrence.specs.Memory.{at, Unlawful}
use Rattle.recurrence.specs.Words.{words, run}
use Rattle.recurrence.specs.Findings.{long, Formed, run_of}
use Rattle.recurrence.specs.Lent.{ShortWords, ForeignWords, ShortFinding, ForeignFinding}
use Rattle.memory.proofs.Held.{words_lawful, words_foreign}
use Rattle.continuation.specs.Calls.{running_on}
use Rattle.continuation.specs.Filling.{Filled}
use Rattle.judging.specs.Judging.{judging}
use Rattle.judging.proofs.Judges.{refuses_as}

module _ (s : Shape) {E : Type 0} (R : Ring E) (ws : List E) (levels : List Level) (fm : List E) where
  abbrev e : ℕ
  e = s.count.words

  abbrev n : ℕ
  n = s.channels

  -- a finding that the judge refuses is refused for the same reason
  pub refuses_running_on : (out : List E) (r : Refusal) (lawful : Bool)
      → (T lawful → ¬ Unlawful R ws (e * n)) → (¬ T lawful → Unlawful R ws (e * n)) → length out % n ≡ 0 → ¬ ShortWords s ws
      → Refuses (judging R s levels fm lawful) r → Refuses (running_on R s levels fm ws out) r
  refuses_running_on out r lawful right wrong whole room judged =
      inr (
        (λ z. z whole),
        refuses_as (ShortFinding R s fm) (ShortWords s ws ⊎ ShortFinding R s fm) (ForeignFinding R s fm ⊎ (¬ T lawful)) (ForeignWords R s ws ⊎ ForeignFinding R s fm)
            (¬ Formed R e levels fm) [] r
            (inr, ⊎_elim (λ z. absurd (room z)) (λ z. z))
            (⊎_elim inr (λ z. inl (words_foreign s R ws (wrong z))), ⊎_elim (λ z. inr (λ t. z (words_lawful s R ws (right t)))) inl)
            judged,
      )

  -- the elements of a buffer that is filled by the row of level 0, read as the part, are the run's
  pub filled_run : (part out : List E) (size : ℕ) → part ≡ take (long levels 0 + 1) (drop (0 * (e + 1)) fm) → length part ≡ long levels 0 + 1
      → Filled R s ws (length part - 1) (at R part) out size → (t c : ℕ) → c < n → t * n + c < size
      → at R out (t * n + c) ≡ run_of R e levels fm (words R s ws) c (e + t)
  filled_run part out size is long_is filled t c hc h =
      let degree : length part - 1 ≡ long levels 0 = omega arith in
      filled (t * n + c) h ∙ ap₂ (λ (a b : ℕ). run R e (words R s ws) (length part - 1) (at R part) a (e + b)) (digits_mod t hc) (digits_div t hc)
      ∙ ap₂ (λ (k : ℕ) (l : List E). run R e (words R s ws) k (at R l) c (e + t)) degree is
