-- What is kept stays complete, and a stuck polynomial is the best of its degree and level.
use mathlib.Core.Path.{◌≡◌, sym, ap, ◌∙◌, subst}
use mathlib.Core.Logic.{inl, inr}
use Prim.Native.Nat.{ℕ, suc, ◌+◌, ◌/◌, ◌<◌, ◌≤◌}
use native.Mathlib.Decide.{dec_lt, dec_le}
use native.Mathlib.Omega.{arith}
use Rattle.ring.specs.Commutative.{power}
use Rattle.recurrence.proofs.Polynomials.{plus}
use Rattle.recurrence.proofs.Captures.{Capture, Valued, Chain, Multiple, Below, Leads, Monic, value, Counts, Zeros, First, Cancels, Best}
use Rattle.recurrence.proofs.Complete.{Stuck, Round}
use Rattle.recurrence.proofs.Reductions.{Answer}
use Rattle.ring.proofs.Sums as Sums
use Rattle.recurrence.proofs.Valuations as Valuations
use Rattle.recurrence.proofs.Complete.{Complete, NoneBelow}

module _ {A : Type 0} (C : Capture A) (chain : Chain C) where
  infixl 60 ◌⊕◌
  infixl 70 ◌⊗◌
  infix 80 ⊖◌
  open C use {ring as R, step, depth as d, words as e, channels as n, at as S}
  open R use {𝟘, 𝟙, ◌⊕◌, ◌⊗◌, ⊖◌, add_assoc, add_comm, add_zero, add_neg, mul_assoc, mul_comm, mul_one, distrib}

  -- at the start
  pub complete_start : (v : ℕ → ℕ) → Complete C 0 v
  complete_start v m f hm below q counts zeros = Valuations.multiple_zero C chain (v q) (value C f q) (Valuations.value_none C chain f q (λ j h. below j (omega arith)))

  module _ (s : ℕ) (v : ℕ → ℕ) (bound : (q : ℕ) → v q ≤ d) (complete : Complete C s v) where
    pub best : (i : ℕ) (p : ℕ → A) → Monic C i s p → (q w : ℕ) → First C s q p → Valued C w (value C p q) → w < v q → Best C i s p
    best i p monic q w first valued less f lead q2 zeros r below counts = at (dec_lt r q)
      where
        c : A
        c = lead.top.inverse

        g : ℕ → A
        g = plus R p (⊖ c) f

        at : Dec (r < q) → value C p r ≡ 𝟘
        at (yes h) = first.zeros r h counts
        at (no h) = absurd (Valuations.valued_least C chain (v q) w (value C p q) (bound q) (subst (Multiple C (v q)) same mg) valued less)
          where
            top_g : g s ≡ 𝟘
            top_g =
                Valuations.cancel_top R (p s) (f s) c
                (monic.top ∙ sym (ap (λ z. z ⊗ c) lead.top.is ∙ mul_assoc (power R step i) lead.top.unit c
                ∙ ap (λ z. power R step i ⊗ z) lead.top.inverts ∙ mul_one (power R step i)))

            counted : (k : ℕ) → k < q → Counts C s k
            counted k below_q = omega (arith, Valuations.div_mono n k q chain.wide (omega arith), first.counts)

            mg : Multiple C (v q) (value C g q)
            mg =
                complete s g (omega arith) (Valuations.below_down C chain s g (Valuations.plus_below C chain (suc s) p f (⊖ c) monic.below lead.below) top_g) q
                (omega (arith, first.counts))
                (λ k hk. Valuations.value_plus_zero C chain p f (⊖ c) k (first.zeros k hk (counted k hk)) (zeros k (omega arith) (counted k hk)))

            same : value C g q ≡ value C p q
            same =
                Valuations.value_plus C chain p f (⊖ c) q ∙ ap (λ z. value C p q ⊕ (⊖ c) ⊗ z) (zeros q (omega arith) first.counts)
                ∙ ap (λ z. value C p q ⊕ z) (Sums.mul_zero R (⊖ c)) ∙ add_zero (value C p q)

    pub best_stuck : (i : ℕ) (p : ℕ → A) → Monic C i s p → Stuck C s v p → Best C i s p
    best_stuck i p monic (inl cancels) = λ f lead q zeros r h counts. cancels r counts
    best_stuck i p monic (inr k) = best i p monic k.0 k.1 k.2 k.3 k.4

    -- where the polynomial of this degree is stuck, nothing of this degree cancels
    pub none_here : (i : ℕ) (p : ℕ → A) → Monic C i s p → (q w : ℕ) → First C s q p → Valued C w (value C p q) → w < v q
        → NoneBelow C i s → NoneBelow C i (suc s)
    none_here i p monic q w first valued less before m f h lead cancels = at (dec_lt m s)
      where
        at : Dec (m < s) → ⊥
        at (yes b) = before m f b lead cancels
        at (no b) =
            let e' : m ≡ s = omega arith in
            let lead' : Leads C i s f = subst (λ z. Leads C i z f) e' lead in
            let cancels' : Cancels C s f = subst (λ z. Cancels C z f) e' cancels in
            first.here (best i p monic q w first valued less f lead' (suc q) (λ r _ c. cancels' r c) q (omega arith) first.counts)

    pub complete_next : (p : ℕ → ℕ → A) (v' : ℕ → ℕ) → Round C s v p v' → Complete C (suc s) v'
    complete_next p v' round m f hm below q counts zeros = at (dec_le m s)
      where
        old : (m : ℕ) (f : ℕ → A) → m ≤ s → Below C m f → (q : ℕ) → q / n + m ≤ e → ((r : ℕ) → r < q → value C f r ≡ 𝟘) → Multiple C (v' q) (value C f q)
        old m f h below q counts zeros = Valuations.multiple_less C chain (v' q) (v q) (value C f q) (round.smaller q) (complete m f h below q counts zeros)

        at : Dec (m ≤ s) → Multiple C (v' q) (value C f q)
        at (yes h) = old m f h below q counts zeros
        at (no h) = level_at (dec_lt i d)
          where
            below' : Below C (suc s) f
            below' j k = below j (omega arith)

            i : ℕ
            i = chain.level (f s)

            top : Valued C i (f s)
            top = chain.split (f s)

            u : A
            u = top.unit

            g : ℕ → A
            g = plus R f (⊖ u) (p i)

            level_at : Dec (i < d) → Multiple C (v' q) (value C f q)
            level_at (no k) = old s f (omega arith) (Valuations.below_down C chain s f below' (Valuations.valued_zero C chain i (f s) top k)) q (omega arith) zeros
            level_at (yes k) = subst (Multiple C (v' q)) whole (Valuations.multiple_add C chain (v' q) (value C g q) (u ⊗ value C (p i) q) mg (Valuations.multiple_scale C chain (v' q) u (value C (p i) q) mp))
              where
                monic : Monic C i s (p i)
                monic = round.monic i k

                counted : (r : ℕ) → r < q → Counts C s r
                counted r b = omega (arith, Valuations.div_mono n r q chain.wide (omega arith))

                zeros_p : Zeros C s q (p i)
                zeros_p = best_stuck i (p i) monic (round.stuck i k) f (record { below = below'; top = top }) q (λ r b _. zeros r b)

                top_g : g s ≡ 𝟘
                top_g = Valuations.cancel_top R (f s) (p i s) u (top.is ∙ ap (λ z. z ⊗ u) (sym monic.top))

                mg : Multiple C (v' q) (value C g q)
                mg =
                    old s g (omega arith) (Valuations.below_down C chain s g (Valuations.plus_below C chain (suc s) f (p i) (⊖ u) below' monic.below) top_g) q (omega arith)
                    (λ r b. Valuations.value_plus_zero C chain f (p i) (⊖ u) r (zeros r b) (zeros_p r b (counted r b)))

                a : A
                a = value C (p i) q

                mp_at : Dec (chain.level a < d) → Multiple C (v' q) a
                mp_at (no z) = Valuations.multiple_zero C chain (v' q) a (Valuations.valued_zero C chain (chain.level a) a (chain.split a) z)
                mp_at (yes z) =
                    let first : First C s q (p i) = record { counts = omega arith; zeros = zeros_p; here = Valuations.valued_nonzero C chain (chain.level a) a (chain.split a) z } in
                    Valuations.multiple_less C chain (v' q) (chain.level a) a (round.kept i q (chain.level a) k first (chain.split a)) (Valuations.valued_multiple C chain (chain.level a) a (chain.split a))

                mp : Multiple C (v' q) a
                mp = mp_at (dec_lt (chain.level a) d)

                whole : value C g q ⊕ u ⊗ value C (p i) q ≡ value C f q
                whole = ap (λ z. z ⊕ u ⊗ value C (p i) q) (Valuations.value_plus C chain f (p i) (⊖ u) q) ∙ Valuations.undo R (value C f q) (value C (p i) q) u

  -- the first that cancels is the answer
  pub answered : (i s : ℕ) (p : ℕ → A) → Monic C i s p → Cancels C s p → NoneBelow C i s → Answer C i s p
  answered i s p monic cancels none = record { monic = monic; cancels = cancels; least = λ m f lead whole. at m f lead whole (dec_lt m s) }
    where
      at : (m : ℕ) (f : ℕ → A) → Leads C i m f → Cancels C m f → Dec (m < s) → s ≤ m
      at m f lead whole (no h) = omega arith
      at m f lead whole (yes h) = absurd (none m f h lead whole)
