-- Polynomials acting on sequences, the run, and what a recurrence settles.
use mathlib.Core.Path.{◌≡◌, refl, sym, ap, ap₂, ◌∙◌}
use Prim.Native.Nat.{ℕ, zero, suc, ◌+◌, ◌-◌, ◌<◌, ◌≤◌}
use native.Mathlib.Decide.{dec_lt}
use native.Mathlib.Omega.{arith}
use Rattle.ring.specs.Commutative.{CommRing, sum}
use Rattle.recurrence.proofs.Polynomials.{choose, plus, shift, act, rounds, run, Obeys}
use Rattle.ring.proofs.Sums as Sums
use Rattle.ring.proofs.Strong.{strong}

pub choose_yes : {A P : Type 0} (c : Dec P) (a b : A) → P → choose c a b ≡ a
unfolding choose
choose_yes (yes _) a b h = refl
choose_yes (no k) a b h = absurd (k h)

pub choose_no : {A P : Type 0} (c : Dec P) (a b : A) → ¬ P → choose c a b ≡ b
unfolding choose
choose_no (yes k) a b h = absurd (h k)
choose_no (no _) a b h = refl

module _ {A : Type 0} (R : CommRing A) where
  infixl 60 ◌⊕◌
  infixl 70 ◌⊗◌
  infix 80 ⊖◌
  open R use {𝟘, 𝟙, ◌⊕◌, ◌⊗◌, ⊖◌, add_assoc, add_comm, add_zero, add_neg, mul_assoc, mul_comm, mul_one, distrib}

  -- two polynomials act in either order
  pub act_act : (M N : ℕ) (p q w : ℕ → A) (t : ℕ) → act R M q (act R N p w) t ≡ act R N p (act R M q w) t
  unfolding act
  act_act M N p q w t =
      Sums.sum_ext R M _ (λ i. sum R N (λ j. q i ⊗ (p j ⊗ w (t + i + j)))) (λ i _. sym (Sums.sum_scale R N (q i) (λ j. p j ⊗ w (t + i + j))))
      ∙ Sums.sum_swap R M N (λ i j. q i ⊗ (p j ⊗ w (t + i + j)))
      ∙ Sums.sum_ext R N _ _ (λ j _. Sums.sum_ext R M _ (λ i. p j ⊗ (q i ⊗ w (t + j + i))) (λ i _. swapped i j) ∙ Sums.sum_scale R M (p j) (λ i. q i ⊗ w (t + j + i)))
    where
      swapped : (i j : ℕ) → q i ⊗ (p j ⊗ w (t + i + j)) ≡ p j ⊗ (q i ⊗ w (t + j + i))
      swapped i j =
          let e : t + i + j ≡ t + j + i = omega arith in
          rw e (Sums.mul_left_comm R (q i) (p j) (w (t + j + i)))

  -- the last word of a recurrence is settled by the others
  pub next_zero : (D : ℕ) (q g : ℕ → A) → Obeys R D q g → (t : ℕ) → ((j : ℕ) → j < D → g (t + j) ≡ 𝟘) → g (t + D) ≡ 𝟘
  unfolding act
  next_zero D q g ob t before =
      let front : sum R D (λ j. q j ⊗ g (t + j)) ≡ 𝟘 = Sums.sum_none R D _ (λ j h. ap (λ w. q j ⊗ w) (before j h) ∙ Sums.mul_zero R (q j)) in
      let whole : sum R D (λ j. q j ⊗ g (t + j)) ⊕ q D ⊗ g (t + D) ≡ 𝟘 = rw Sums.sum_suc at (ob.cancels t) in
      sym (ap₂ ◌⊕◌ front (ap (λ w. w ⊗ g (t + D)) ob.monic) ∙ Sums.zero_add R (𝟙 ⊗ g (t + D)) ∙ Sums.one_mul R (g (t + D))) ∙ whole

  -- a sequence that obeys a monic polynomial and begins with zeros is zero
  pub all_zero : (D : ℕ) (q g : ℕ → A) → Obeys R D q g → ((t : ℕ) → t < D → g t ≡ 𝟘) → (t : ℕ) → g t ≡ 𝟘
  all_zero D q g ob begin = strong (λ t. g t ≡ 𝟘) (λ t less. at t less (dec_lt t D))
    where
      at : (t : ℕ) → ((m : ℕ) → m < t → g m ≡ 𝟘) → Dec (t < D) → g t ≡ 𝟘
      at t less (yes h) = begin t h
      at t less (no h) =
          let e : t - D + D ≡ t = omega arith in
          rw e at (next_zero D q g ob (t - D) (λ j within. less (t - D + j) (omega arith)))

  pub act_zero : (N : ℕ) (p w : ℕ → A) (t : ℕ) → ((j : ℕ) → j < N → w (t + j) ≡ 𝟘) → act R N p w t ≡ 𝟘
  unfolding act
  act_zero N p w t h = Sums.sum_none R N _ (λ j within. ap (λ x. p j ⊗ x) (h j within) ∙ Sums.mul_zero R (p j))

  pub act_none : (N : ℕ) (p w : ℕ → A) (t : ℕ) → ((j : ℕ) → j < N → p j ≡ 𝟘) → act R N p w t ≡ 𝟘
  unfolding act
  act_none N p w t h = Sums.sum_none R N _ (λ j within. ap (λ x. x ⊗ w (t + j)) (h j within) ∙ Sums.zero_mul R (w (t + j)))

  pub act_plus : (N : ℕ) (p f : ℕ → A) (c : A) (w : ℕ → A) (t : ℕ) → act R N (plus R p c f) w t ≡ act R N p w t ⊕ c ⊗ act R N f w t
  unfolding act
  act_plus N p f c w t =
      Sums.sum_ext R N _ (λ j. p j ⊗ w (t + j) ⊕ c ⊗ (f j ⊗ w (t + j)))
      (λ j _. Sums.distrib_right R (p j) (c ⊗ f j) (w (t + j)) ∙ ap (λ z. p j ⊗ w (t + j) ⊕ z) (mul_assoc c (f j) (w (t + j))))
      ∙ Sums.sum_add R N (λ j. p j ⊗ w (t + j)) (λ j. c ⊗ (f j ⊗ w (t + j)))
      ∙ ap (λ z. sum R N (λ j. p j ⊗ w (t + j)) ⊕ z) (Sums.sum_scale R N c (λ j. f j ⊗ w (t + j)))

  -- only the words that it reads count
  pub act_ext : (N : ℕ) (p w x : ℕ → A) (t : ℕ) → ((j : ℕ) → j < N → w (t + j) ≡ x (t + j)) → act R N p w t ≡ act R N p x t
  unfolding act
  act_ext N p w x t h = Sums.sum_ext R N _ _ (λ j within. ap (λ z. p j ⊗ z) (h j within))

  -- coefficients that are zero need not be written
  pub act_stretch : (m N : ℕ) (p w : ℕ → A) (t : ℕ) → m ≤ N → ((j : ℕ) → m ≤ j → p j ≡ 𝟘) → act R N p w t ≡ act R m p w t
  unfolding act
  act_stretch m N p w t h below =
      let e : N ≡ N - m + m = omega arith in
      ap (λ k. sum R k (λ j. p j ⊗ w (t + j))) e
      ∙ Sums.sum_stretch R m (N - m) (λ j. p j ⊗ w (t + j)) (λ j k. ap (λ x. x ⊗ w (t + j)) (below j k) ∙ Sums.zero_mul R (w (t + j)))

  pub shift_before : (k : ℕ) (p : ℕ → A) (j : ℕ) → j < k → shift R k p j ≡ 𝟘
  unfolding shift
  shift_before k p j h = choose_yes (dec_lt j k) _ _ h

  pub shift_after : (k : ℕ) (p : ℕ → A) (j : ℕ) → shift R k p (k + j) ≡ p j
  unfolding shift
  shift_after k p j = choose_no (dec_lt (k + j) k) _ _ (omega arith) ∙ ap p (omega arith)

  pub shift_at : (k : ℕ) (p : ℕ → A) (j : ℕ) → k ≤ j → shift R k p j ≡ p (j - k)
  unfolding shift
  shift_at k p j h = choose_no (dec_lt j k) _ _ (omega arith)

  pub act_shift : (k N : ℕ) (p w : ℕ → A) (t : ℕ) → act R (k + N) (shift R k p) w t ≡ act R N p w (t + k)
  unfolding act
  act_shift k N p w t =
      Sums.sum_split R k N (λ j. shift R k p j ⊗ w (t + j))
      ∙ ap₂ ◌⊕◌ (Sums.sum_none R k _ (λ j h. ap (λ x. x ⊗ w (t + j)) (shift_before k p j h) ∙ Sums.zero_mul R (w (t + j))))
      (Sums.sum_ext R N _ _ (λ j _. moved j))
      ∙ Sums.zero_add R (sum R N (λ j. p j ⊗ w (t + k + j)))
    where
      moved : (j : ℕ) → shift R k p (k + j) ⊗ w (t + (k + j)) ≡ p j ⊗ w (t + k + j)
      moved j = let e : t + (k + j) ≡ t + k + j = omega arith in rw e (ap (λ x. x ⊗ w (t + k + j)) (shift_after k p j))

  -- the run is the capture where there is one
  pub run_begins : (L : ℕ) (p : ℕ → A) (e : ℕ) (S : ℕ → A) (k : ℕ) → k < e → run R L p e S k ≡ S k
  unfolding run rounds
  run_begins L p e S k h = choose_yes (dec_lt k e) _ _ h

  -- more rounds change nothing
  rounds_same : (L : ℕ) (p : ℕ → A) (e : ℕ) (S : ℕ → A) → L ≤ e → (r r' k : ℕ) → k < r → k < r' → rounds R L p e S r k ≡ rounds R L p e S r' k
  unfolding rounds
  rounds_same L p e S small zero r' k h h' = absurd (omega arith)
  rounds_same L p e S small (suc r) zero k h h' = absurd (omega arith)
  rounds_same L p e S small (suc r) (suc r') k h h' = at (dec_lt k e) (rounds_same L p e S small r r')
    where
      at : Dec (k < e) → ((i : ℕ) → i < r → i < r' → rounds R L p e S r i ≡ rounds R L p e S r' i)
          → rounds R L p e S (suc r) k ≡ rounds R L p e S (suc r') k
      at (yes b) ih = choose_yes (dec_lt k e) _ _ b ∙ sym (choose_yes (dec_lt k e) _ _ b)
      at (no b) ih =
          ap (λ z. choose (dec_lt k e) (S k) (⊖ z))
          (Sums.sum_ext R L _ _ (λ j within. ap (λ z. p j ⊗ z) (ih (k - L + j) (omega arith) (omega arith))))

  pub run_next : (L : ℕ) (p : ℕ → A) (e : ℕ) (S : ℕ → A) → L ≤ e → (k : ℕ) → e ≤ k
      → run R L p e S k ≡ ⊖ sum R L (λ j. p j ⊗ run R L p e S (k - L + j))
  unfolding run rounds
  run_next L p e S small k h =
      choose_no (dec_lt k e) _ _ (omega arith)
      ∙ ap ⊖◌ (Sums.sum_ext R L _ _ (λ j within. ap (λ z. p j ⊗ z) (rounds_same L p e S small k (suc (k - L + j)) (k - L + j) (omega arith) (omega arith))))

  pub run_obeys : (L : ℕ) (p : ℕ → A) (e : ℕ) (S : ℕ → A) → L ≤ e → p L ≡ 𝟙 → ((t : ℕ) → t + L < e → act R (suc L) p S t ≡ 𝟘) → Obeys R L p (run R L p e S)
  unfolding act
  run_obeys L p e S small monic cancels = record { monic = monic; cancels = λ t. at t (dec_lt (t + L) e) }
    where
      at : (t : ℕ) → Dec (t + L < e) → act R (suc L) p (run R L p e S) t ≡ 𝟘
      at t (yes h) = act_ext (suc L) p (run R L p e S) S t (λ j within. run_begins L p e S (t + j) (omega arith)) ∙ cancels t h
      at t (no h) = Sums.sum_suc R L _ ∙ ap₂ (λ a b. before ⊕ a ⊗ b) monic last ∙ ap (λ z. before ⊕ z) (Sums.one_mul R (⊖ before)) ∙ add_neg before
        where
          before : A
          before = sum R L (λ j. p j ⊗ run R L p e S (t + j))

          last : run R L p e S (t + L) ≡ ⊖ before
          last =
              let e' : t + L - L ≡ t = omega arith in
              run_next L p e S small (t + L) (omega arith) ∙ ap (λ k. ⊖ sum R L (λ j. p j ⊗ run R L p e S (k + j))) e'

  pub act_plus_right : (N : ℕ) (q w x : ℕ → A) (c : A) (t : ℕ) → act R N q (plus R w c x) t ≡ act R N q w t ⊕ c ⊗ act R N q x t
  unfolding act
  act_plus_right N q w x c t =
      Sums.sum_ext R N _ (λ j. q j ⊗ w (t + j) ⊕ c ⊗ (q j ⊗ x (t + j)))
      (λ j _. distrib (q j) (w (t + j)) (c ⊗ x (t + j)) ∙ ap (λ z. q j ⊗ w (t + j) ⊕ z) (Sums.mul_left_comm R (q j) c (x (t + j))))
      ∙ Sums.sum_add R N (λ j. q j ⊗ w (t + j)) (λ j. c ⊗ (q j ⊗ x (t + j)))
      ∙ ap (λ z. sum R N (λ j. q j ⊗ w (t + j)) ⊕ z) (Sums.sum_scale R N c (λ j. q j ⊗ x (t + j)))

  -- zero plus a multiple of zero
  pub zero_plus_zero : (a b c : A) → a ≡ 𝟘 → b ≡ 𝟘 → a ⊕ c ⊗ b ≡ 𝟘
  zero_plus_zero a b c ha hb = ap₂ (λ x y. x ⊕ c ⊗ y) ha hb ∙ Sums.zero_add R (c ⊗ 𝟘) ∙ Sums.mul_zero R c

  pub minus : (a b : A) → a ⊕ (⊖ 𝟙) ⊗ b ≡ a ⊕ (⊖ b)
  minus a b = ap (λ z. a ⊕ z) (Sums.neg_mul R 𝟙 b ∙ ap ⊖◌ (Sums.one_mul R b))

  -- two sequences that obey one monic polynomial and begin alike are one
  pub agree : (D : ℕ) (q w x : ℕ → A) → Obeys R D q w → Obeys R D q x → ((t : ℕ) → t < D → w t ≡ x t) → (t : ℕ) → w t ≡ x t
  agree D q w x ow ox begin t =
      Sums.sub_zero_eq R (w t) (x t) (sym (minus (w t) (x t)) ∙ all_zero D q (plus R w (⊖ 𝟙) x) obeys begins t)
    where
      obeys : Obeys R D q (plus R w (⊖ 𝟙) x)
      obeys = record {
        monic = ow.monic;
        cancels = λ k. act_plus_right (suc D) q w x (⊖ 𝟙) k ∙ zero_plus_zero _ _ (⊖ 𝟙) (ow.cancels k) (ox.cancels k);
      }

      begins : (k : ℕ) → k < D → plus R w (⊖ 𝟙) x k ≡ 𝟘
      begins k h = minus (w k) (x k) ∙ ap (λ z. z ⊕ (⊖ x k)) (begin k h) ∙ add_neg (x k)

  -- what cancels as many words as a recurrence is long cancels all of them
  pub cancels_on : (D : ℕ) (q w : ℕ → A) → Obeys R D q w → (N : ℕ) (p : ℕ → A) → ((t : ℕ) → t < D → act R N p w t ≡ 𝟘) → (t : ℕ) → act R N p w t ≡ 𝟘
  cancels_on D q w ob N p begin =
      all_zero D q (act R N p w)
      (record { monic = ob.monic; cancels = λ t. act_act (suc D) N p q w t ∙ act_zero N p (act R (suc D) q w) t (λ j _. ob.cancels (t + j)) }) begin
