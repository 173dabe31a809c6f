-- The run: the words, continued by the answer of level 0; and what reduction by the answers tells of it.
use mathlib.Core.Path.{◌≡◌, refl, sym, ap, ◌∙◌}
use mathlib.Core.Logic.{◌↔◌}
use Prim.Native.Nat.{ℕ, zero, suc, ◌+◌, ◌-◌, ◌*◌, ◌/◌, ◌%◌, ◌<◌, ◌≤◌}
use native.Mathlib.Nat.{mod-lt}
use Rattle.std.proofs.lemmas.Nat.{div-mul-add, mod-mul-add}
use native.Mathlib.Decide.{dec_lt, dec_le}
use native.Mathlib.Omega.{arith}
use Rattle.ring.specs.Commutative.{power}
use Rattle.recurrence.proofs.Polynomials.{choose, plus, shift, act, Obeys}
use Rattle.recurrence.proofs.Captures.{Capture, Valued, Chain, Below, Leads, Monic, value, Cancels}
use Rattle.recurrence.proofs.Reductions.{Answer, channel, Answers, Small, Reduces, none_left, small_left, reduce}
use Rattle.ring.proofs.Sums as Sums
use Rattle.recurrence.proofs.Recurrences as Rec
use Rattle.recurrence.proofs.Valuations as Valuations

module _ {A : Type 0} (C : Capture A) (chain : Chain C) where
  infixl 60 ◌⊕◌
  infixl 70 ◌⊗◌
  infix 80 ⊖◌
  open C use {ring as R, step, depth as d, words as e, channels as n, at as S}
  open R use {𝟘, 𝟙, ◌⊕◌, ◌⊗◌, ⊖◌, add_assoc, add_comm, add_zero, add_neg, mul_assoc, mul_comm, mul_one, distrib}

  -- a place by its word and its channel
  pub word_of : (k c : ℕ) → c < n → (k * n + c) / n ≡ k
  word_of k c hc = div-mul-add k n c hc

  pub value_at : (m : ℕ) (p : ℕ → A) → m < e → Below C (suc m) p → (k c : ℕ) → c < n → value C p (k * n + c) ≡ act R (suc m) p (λ t. S t c) k
  unfolding value
  value_at m p hm below k c hc =
      let lane : (k * n + c) % n ≡ c = mod-mul-add k n c hc in
      rw (word_of k c hc, lane) (Rec.act_stretch R (suc m) (suc e) p (λ t. S t c) k (omega arith) below)

  -- to cancel the capture, by words and channels
  pub cancels_to : (m : ℕ) (p : ℕ → A) → Below C (suc m) p → Cancels C m p → (k c : ℕ) → c < n → k + m < e → act R (suc m) p (λ t. S t c) k ≡ 𝟘
  cancels_to m p below cancels k c hc hk = sym (value_at m p (omega arith) below k c hc) ∙ cancels (k * n + c) (rw (word_of k c hc) hk)

  pub cancels_from : (m : ℕ) (p : ℕ → A) → Below C (suc m) p → ((k c : ℕ) → c < n → k + m < e → act R (suc m) p (λ t. S t c) k ≡ 𝟘) → Cancels C m p
  unfolding value
  cancels_from m p below h r counts =
      Rec.act_stretch R (suc m) (suc e) p (λ t. S t (r % n)) (r / n) (omega arith) below ∙ h (r / n) (r % n) (mod-lt r chain.wide) counts

  -- a unit times step^i leads at level i
  pub one_valued : (i : ℕ) (a : A) → i ≤ d → a ≡ power R step i → Valued C i a
  one_valued i a h e = record { within = h; unit = 𝟙; inverse = 𝟙; inverts = mul_one 𝟙; is = e ∙ sym (mul_one (power R step i)) }

  pub power_zero : power R step 0 ≡ 𝟙
  unfolding power
  power_zero = refl

  none : ℕ → A
  none j = 𝟘

  -- what cancels at a level, times a power of the step, cancels at a deeper one
  pub deeper : (i j m : ℕ) (f : ℕ → A) → i ≤ j → j ≤ d → Leads C i m f → Cancels C m f → (g : ℕ → A) × Leads C j m g × Cancels C m g
  unfolding none
  deeper i j m f hi hj lead cancels = (plus R none x f, leads, λ r counts. Valuations.value_plus_zero C chain none f x r (Valuations.value_none C chain none r (λ j _. refl)) (cancels r counts))
    where
      x : A
      x = power R step (j - i)

      top : x ⊗ f m ≡ power R step j ⊗ lead.top.unit
      top =
          ap (λ z. x ⊗ z) lead.top.is ∙ sym (mul_assoc x (power R step i) lead.top.unit)
          ∙ ap (λ z. z ⊗ lead.top.unit) (sym (Sums.power_add R step (j - i) i) ∙ ap (power R step) (omega arith))

      leads : Leads C j m (plus R none x f)
      leads = record {
        below = Valuations.plus_below C chain (suc m) none f x (λ j _. refl) lead.below;
        top = record { within = hj; unit = lead.top.unit; inverse = lead.top.inverse; inverts = lead.top.inverts; is = Sums.zero_add R _ ∙ top };
      }

  -- step^i y^e cancels e words
  pub bounded : (i : ℕ) → i ≤ d → (g : ℕ → A) × Leads C i e g × Cancels C e g
  bounded i hi = (shift R e unit_at, record { below = under; top = one_valued i _ hi at_top }, λ r counts. absurd (omega arith))
    where
      unit_at : ℕ → A
      unit_at j = choose (dec_lt 0 j) 𝟘 (power R step i)

      under : Below C (suc e) (shift R e unit_at)
      under j h = Rec.shift_at R e unit_at j (omega arith) ∙ Rec.choose_yes (dec_lt 0 (j - e)) _ _ (omega arith)

      at_top : shift R e unit_at e ≡ power R step i
      at_top = Rec.shift_at R e unit_at e (omega arith) ∙ Rec.choose_no (dec_lt 0 (e - e)) _ _ (omega arith)

  -- if the words are of a sequence that obeys a short enough recurrence, the run is that sequence
  pub run_is_true : (L : ℕ) (p : ℕ → A) → Answer C 0 L p
      → (w : ℕ → ℕ → A) (D : ℕ) (q : ℕ → A) → D + D ≤ e → Below C (suc D) q → ((c : ℕ) → c < n → Obeys R D q (w c))
      → ((k c : ℕ) → k < e → c < n → S k c ≡ w c k)
      → (c k : ℕ) → c < n → channel C L p c k ≡ w c k
  run_is_true L p ans w D q half below obeys same c k hc =
      Rec.agree R L p (channel C L p c) (w c) run_obeys w_obeys (λ t h. Rec.run_begins R L p e (λ i. S i c) t (omega (arith, short)) ∙ same t c (omega (arith, short)) hc) k
    where
      short : L ≤ D
      short =
          ans.least D q (record { below = below; top = one_valued 0 (q D) (omega arith) ((obeys c hc).monic ∙ sym power_zero) })
          (cancels_from D q below (λ t b hb ht. Rec.act_ext R (suc D) q (λ i. S i b) (w b) t (λ j within. same (t + j) b (omega arith) hb) ∙ (obeys b hb).cancels t))

      top : p L ≡ 𝟙
      top = ans.monic.top ∙ power_zero

      run_obeys : Obeys R L p (channel C L p c)
      run_obeys = Rec.run_obeys R L p e (λ i. S i c) (omega (arith, short)) top (λ t h. cancels_to L p ans.monic.below ans.cancels t c hc h)

      w_obeys : Obeys R L p (w c)
      w_obeys = record {
        monic = top;
        cancels = Rec.cancels_on R D q (w c) (obeys c hc) (suc L) p
            (λ t h. Rec.act_ext R (suc L) p (w c) (λ i. S i c) t (λ j within. sym (same (t + j) c (omega (arith, short)) hc)) ∙ cancels_to L p ans.monic.below ans.cancels t c hc (omega (arith, short)));
      }

  -- a polynomial that leads at m has more than m coefficients
  leads_within : (N i m : ℕ) (f : ℕ → A) → i < d → Leads C i m f → Below C N f → m < N
  leads_within N i m f hi lead below = at (dec_lt m N)
    where
      at : Dec (m < N) → m < N
      at (yes h) = h
      at (no h) = absurd (Valuations.valued_nonzero C chain i (f m) lead.top hi (below m (omega arith)))

  module _ (L : ℕ → ℕ) (P : ℕ → ℕ → A) (monic : (i : ℕ) → i < d → Monic C i (L i) (P i)) where
    -- y^k p, of degree k + L i
    pub shift_below : (k i : ℕ) → i < d → Below C (suc (k + L i)) (shift R k (P i))
    shift_below k i hi j h = Rec.shift_at R k (P i) j (omega arith) ∙ (monic i hi).below (j - k) (omega arith)

    -- a step leaves no more coefficients
    pub step_below : (N i m : ℕ) (f : ℕ → A) (u : A) → i < d → L i ≤ m → m < N → Below C N f → Below C N (plus R f u (shift R (m - L i) (P i)))
    step_below N i m f u hi long within below =
        Valuations.plus_below C chain N f (shift R (m - L i) (P i)) u below (λ j h. shift_below (m - L i) i hi j (omega arith))

    pub rest_below : (N : ℕ) (r f : ℕ → A) → Reduces C L P r f → Below C N f → Below C N r
    rest_below N r f (none_left z) below = below
    rest_below N r f (small_left s) below = below
    rest_below N r f (reduce i m hi lead long more) below =
        rest_below N r (plus R f (⊖ lead.top.unit) (shift R (m - L i) (P i))) more (step_below N i m f (⊖ lead.top.unit) hi long (leads_within N i m f hi lead below) below)

    all_step : (N : ℕ) (f : ℕ → A) → Below C (suc N) f → ((g : ℕ → A) → Below C N g → (r : ℕ → A) × Reduces C L P r g) → (r : ℕ → A) × Reduces C L P r f
    all_step N f below ih = at (dec_lt i d)
      where
        i : ℕ
        i = chain.level (f N)

        top : Valued C i (f N)
        top = chain.split (f N)

        lead : Leads C i N f
        lead = record { below = below; top = top }

        to : i < d → Dec (L i ≤ N) → (r : ℕ → A) × Reduces C L P r f
        to hi (no h) = (f, small_left (record { level = i; degree = N; level_within = hi; leads = lead; small = omega arith }))
        to hi (yes h) = (next.0, reduce i N hi lead h next.1)
          where
            k : ℕ
            k = N - L i

            g : ℕ → A
            g = plus R f (⊖ top.unit) (shift R k (P i))

            end : shift R k (P i) N ≡ power R step i
            end = Rec.shift_at R k (P i) N (omega arith) ∙ ap (P i) (omega arith) ∙ (monic i hi).top

            top_g : g N ≡ 𝟘
            top_g = Valuations.cancel_top R (f N) (shift R k (P i) N) top.unit (top.is ∙ ap (λ z. z ⊗ top.unit) (sym end))

            next : (r : ℕ → A) × Reduces C L P r g
            next =
                ih g (Valuations.below_down C chain N g (step_below (suc N) i N f (⊖ top.unit) hi h (omega arith) below) top_g)

        at : Dec (i < d) → (r : ℕ → A) × Reduces C L P r f
        at (yes h) = to h (dec_le (L i) N)
        at (no h) = ih f (Valuations.below_down C chain N f below (Valuations.valued_zero C chain i (f N) top h))

    -- every polynomial is reduced to some rest
    pub all_reduce : (N : ℕ) (f : ℕ → A) → Below C N f → (r : ℕ → A) × Reduces C L P r f
    all_reduce zero f below = (f, none_left (λ j. below j (omega arith)))
    all_reduce (suc N) f below = all_step N f below (all_reduce N)

  module _ (L : ℕ → ℕ) (P : ℕ → ℕ → A) (ans : Answers C L P) where
    monics : (i : ℕ) → i < d → Monic C i (L i) (P i)
    monics i hi = (ans.answer i hi).monic

    first : Answer C 0 (L 0) (P 0)
    first = ans.answer 0 chain.deep

    -- no level's answer is longer than the monic one
    pub shorter : (i : ℕ) → i < d → L i ≤ L 0
    shorter i hi =
        let lead : Leads C 0 (L 0) (P 0) = record { below = first.monic.below; top = one_valued 0 _ (omega arith) first.monic.top } in
        let g = deeper 0 i (L 0) (P 0) (omega arith) (omega arith) lead first.cancels in
        (ans.answer i hi).least (L 0) g.0 g.1 g.2

    -- each answer cancels the run
    pub answer_cancels : (i : ℕ) → i < d → (c t : ℕ) → c < n → act R (suc (L i)) (P i) (channel C (L 0) (P 0) c) t ≡ 𝟘
    answer_cancels i hi c t hc =
        Rec.cancels_on R (L 0) (P 0) (channel C (L 0) (P 0) c) obeys (suc (L i)) (P i)
        (λ k hk. Rec.act_ext R (suc (L i)) (P i) (channel C (L 0) (P 0) c) (λ s. S s c) k
        (λ j within. Rec.run_begins R (L 0) (P 0) e (λ s. S s c) (k + j) (omega (arith, shorter i hi, ans.half)))
        ∙ cancels_to (L i) (P i) (ans.answer i hi).monic.below (ans.answer i hi).cancels k c hc (omega (arith, shorter i hi, ans.half)))
        t
      where
        obeys : Obeys R (L 0) (P 0) (channel C (L 0) (P 0) c)
        obeys =
            Rec.run_obeys R (L 0) (P 0) e (λ s. S s c) (omega (arith, ans.half)) (first.monic.top ∙ power_zero)
            (λ k h. cancels_to (L 0) (P 0) first.monic.below first.cancels k c hc h)

    shift_cancels : (N k i : ℕ) → i < d → k + L i < N → (c t : ℕ) → c < n → act R N (shift R k (P i)) (channel C (L 0) (P 0) c) t ≡ 𝟘
    shift_cancels N k i hi h c t hc =
        let whole : k + suc (L i) ≡ suc (k + L i) = omega arith in
        Rec.act_stretch R (suc (k + L i)) N (shift R k (P i)) _ t h (shift_below L P monics k i hi)
        ∙ (rw (← whole) (Rec.act_shift R k (suc (L i)) (P i) _ t ∙ answer_cancels i hi c (t + k) hc))

    -- one step changes nothing on the run
    step_same : (N i m : ℕ) (f : ℕ → A) (u : A) → i < d → L i ≤ m → m < N → (c t : ℕ) → c < n
        → act R N (plus R f u (shift R (m - L i) (P i))) (channel C (L 0) (P 0) c) t ≡ act R N f (channel C (L 0) (P 0) c) t
    step_same N i m f u hi long within c t hc =
        Rec.act_plus R N f (shift R (m - L i) (P i)) u _ t
        ∙ ap (λ z. act R N f (channel C (L 0) (P 0) c) t ⊕ u ⊗ z) (shift_cancels N (m - L i) i hi (omega arith) c t hc)
        ∙ ap (λ z. act R N f (channel C (L 0) (P 0) c) t ⊕ z) (Sums.mul_zero R u) ∙ add_zero _

    small_no : (N : ℕ) (r : ℕ → A) → Below C N r → Small C L r → ¬ ((c t : ℕ) → c < n → act R N r (channel C (L 0) (P 0) c) t ≡ 𝟘)
    small_no N r below s zero' = omega (arith, (ans.answer i hi).least m r s.leads (cancels_from m r s.leads.below here), s.small)
      where
        i : ℕ
        i = s.level

        m : ℕ
        m = s.degree

        hi : i < d
        hi = s.level_within

        here : (k c : ℕ) → c < n → k + m < e → act R (suc m) r (λ t. S t c) k ≡ 𝟘
        here k c hc hk =
            sym (Rec.act_ext R (suc m) r (channel C (L 0) (P 0) c) (λ t. S t c) k (λ j within. Rec.run_begins R (L 0) (P 0) e (λ t. S t c) (k + j) (omega arith)))
            ∙ sym (Rec.act_stretch R (suc m) N r (channel C (L 0) (P 0) c) k (leads_within N i m r hi s.leads below) s.leads.below) ∙ zero' c k hc

    -- the rest is zero just if the polynomial cancels the run
    pub tells : (N : ℕ) (r f : ℕ → A) → Reduces C L P r f → Below C N f
        → ((j : ℕ) → r j ≡ 𝟘) ↔ ((c t : ℕ) → c < n → act R N f (channel C (L 0) (P 0) c) t ≡ 𝟘)
    tells N r f (none_left z) below = (λ _ c t hc. Rec.act_none R N r _ t (λ j _. z j), λ _. z)
    tells N r f (small_left s) below = (λ z c t hc. Rec.act_none R N r _ t (λ j _. z j), λ h. absurd (small_no N r below s h))
    tells N r f (reduce i m hi lead long more) below =
        let within : m < N = leads_within N i m f hi lead below in
        let k : ℕ = m - L i in
        let ih = tells N r _ more (step_below L P monics N i m f (⊖ lead.top.unit) hi long within below) in
        let same = step_same N i m f (⊖ lead.top.unit) hi long within in
        (λ z c t hc. sym (same c t hc) ∙ ih.0 z c t hc, λ h. ih.1 (λ c t hc. same c t hc ∙ h c t hc))
