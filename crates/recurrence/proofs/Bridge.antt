-- Raw polynomials and words, and the same among lawful elements.
use mathlib.Core.Path.{◌≡◌, refl, sym, ap, ◌∙◌, subst}
use mathlib.Core.Logic.{◌≢◌, ◌⊎◌, inl, inr}
use mathlib.Core.Bool.{cond}
use Prim.Native.Nat.{ℕ, zero, suc, ◌+◌, ◌-◌, ◌<◌, ◌≤◌}
use native.Mathlib.Decide.{dec_lt}
use native.Mathlib.Omega.{arith}
use borrow.Author.Tests.{lt-ltb, le-ltb}
use lib.Dec.{T}
use Rattle.ring.specs.Ring.{Ring, Laws, Split, power}
use Rattle.ring.specs.Lawful.{Lawful as Element, Is, same, lifted, hold}
use Rattle.ring.proofs.Lifts as Lifts
use Rattle.ring.proofs.Sums as Sums
use Rattle.recurrence.specs.Polynomials.{Lawful, Zero, Within, Degree, Leads, value, shift}
use Rattle.recurrence.specs.Words.{LawfulWords, Cancels, Least}
use Rattle.recurrence.proofs.Polynomials.{act, shift as shiftˡ}
use Rattle.recurrence.proofs.Captures.{Capture, Chain, Valued, Below, Monic, Leads as Leadsˡ, Cancels as Cancelsˡ}
use Rattle.recurrence.proofs.Recurrences as Rec
use Rattle.recurrence.proofs.Valuations as Valuations
use Rattle.recurrence.proofs.Runs as Runs
use Rattle.recurrence.proofs.Lift.{capture, valued_of, chain_of}

module _ {E : Type 0} {R : Ring E} (L : Laws R) where
  abbrev pub lift : (ℕ → E) → ℕ → Element L
  lift p j = hold L (p j)

  abbrev pub raw : (ℕ → Element L) → ℕ → E
  raw f j = (f j).0

  pub lift_is : (p : ℕ → E) → Lawful R p → (j : ℕ) → Is L (p j) (lift p j)
  lift_is p ok j = Lifts.hold_is L (p j) (ok j)

  pub raw_is : (x : Element L) → Is L x.0 x
  raw_is x = record { eq = refl }

  pub to_zero : {a : E} {x : Element L} → Is L a x → a ≡ R.zero → x ≡ (lifted L).𝟘
  to_zero h e = Lifts.one_value L h (Lifts.zero_is L e)

  pub from_zero : {a : E} {x : Element L} → Is L a x → x ≡ (lifted L).𝟘 → a ≡ R.zero
  from_zero h e = (Lifts.is_at L e h).eq ∙ sym (Lifts.zero_is L refl).eq

  pub zero_lawful : {a : E} → a ≡ R.zero → T (R.lawful a)
  zero_lawful e = Lifts.ok L (Lifts.zero_is L e)

  -- a - u b
  pub scaled_is : {a u b r : E} {x y z : Element L} → Is L a x → Is L u y → Is L b z → r ≡ R.sub a (R.mul u b)
      → Is L r ((lifted L).◌⊕◌ x ((lifted L).◌⊗◌ ((lifted L).⊖◌ y) z))
  scaled_is {x = x} {y = y} {z = z} ha hu hb e =
      Lifts.is_at L (ap ((lifted L).◌⊕◌ x) (sym (Sums.neg_mul (lifted L) y z))) (Lifts.sub_is L ha (Lifts.mul_is L hu hb (λ _ _. refl)) (λ _ _. e))

  pub value_is : (m : ℕ) (p w : ℕ → E) (t : ℕ) (f W : ℕ → Element L)
      → ((j : ℕ) → j ≤ m → Is L (p j) (f j)) → ((j : ℕ) → j ≤ m → Is L (w (t + j)) (W (t + j))) → Is L (value R m p w t) (act (lifted L) (suc m) f W t)
  unfolding act
  value_is m p w t f W hp hw = Lifts.sum_is L (suc m) _ _ (λ j b. Lifts.mul_is L (hp j (omega arith)) (hw j (omega arith)) (λ _ _. refl))

  -- zero or not
  pub zero_or_not : (a : E) → T (R.lawful a) → (a ≡ R.zero) ⊎ (a ≢ R.zero)
  zero_or_not a ok = by (dec_lt v R.depth)
    where
      v : ℕ
      v = (L.splits a ok).0

      split : Split R a v (L.splits a ok).1
      split = (L.splits a ok).2

      by : Dec (v < R.depth) → (a ≡ R.zero) ⊎ (a ≢ R.zero)
      by (yes h) = inr (λ z. omega (arith, split.zero_end z))
      by (no h) = inl (split.end_zero (omega (arith, split.low)))

  -- a polynomial is zero or has a degree
  pub zero_or_degree : (N : ℕ) (p : ℕ → E) → Lawful R p → Within R N p → Zero R p ⊎ ((m : ℕ) × (m < N) × Degree R m p)
  zero_or_degree zero p ok h = inl (λ j. h j (omega arith))
  zero_or_degree (suc N) p ok h = by (zero_or_degree N p ok) (zero_or_not (p N) (ok N))
    where
      wider : Zero R p ⊎ ((m : ℕ) × (m < N) × Degree R m p) → Zero R p ⊎ ((m : ℕ) × (m < suc N) × Degree R m p)
      wider (inl z) = inl z
      wider (inr d) = inr (d.0, omega (arith, d.1), d.2)

      narrower : p N ≡ R.zero → (j : ℕ) → N ≤ j → Dec (N < j) → p j ≡ R.zero
      narrower z j b (yes c) = h j (omega arith)
      narrower z j b (no c) = let e : j ≡ N = omega arith in rw e z

      by : (Within R N p → Zero R p ⊎ ((m : ℕ) × (m < N) × Degree R m p)) → (p N ≡ R.zero) ⊎ (p N ≢ R.zero) → Zero R p ⊎ ((m : ℕ) × (m < suc N) × Degree R m p)
      by ih (inl z) = wider (ih (λ j b. narrower z j b (dec_lt N j)))
      by ih (inr z) = inr (N, omega arith, record { above = h; top = z })

  -- a polynomial with a degree has a level
  pub leads_of : (m : ℕ) (p : ℕ → E) → Lawful R p → Degree R m p → (v : ℕ) × Leads R v m p
  leads_of m p ok deg = by (dec_lt v R.depth)
    where
      v : ℕ
      v = (L.splits (p m) (ok m)).0

      split : Split R (p m) v (L.splits (p m) (ok m)).1
      split = (L.splits (p m) (ok m)).2

      by : Dec (v < R.depth) → (v : ℕ) × Leads R v m p
      by (yes h) = (v, record { within = h; above = deg.above; unit = (L.splits (p m) (ok m)).1; top = split })
      by (no h) = absurd (deg.top (split.end_zero (omega (arith, split.low))))

  pub degree_of : (v m : ℕ) (p : ℕ → E) → Leads R v m p → Degree R m p
  degree_of v m p lead = record { above = lead.above; top = λ z. let h = lead.top.zero_end z in absurd (omega (arith, h, lead.within)) }

  -- step^i is not zero
  pub normal_degree : (i m : ℕ) (p : ℕ → E) → i < R.depth → Within R (suc m) p → p m ≡ power R R.step i → Degree R m p
  normal_degree i m p hi above top = record { above = above; top = λ z. L.power_not i hi (sym top ∙ z) }

  pub degree_once : (m m' : ℕ) (p : ℕ → E) → Degree R m p → Degree R m' p → m ≡ m'
  degree_once m m' p d d' = by (dec_lt m m') (dec_lt m' m)
    where
      by : Dec (m < m') → Dec (m' < m) → m ≡ m'
      by (yes h) _ = absurd (d'.top (d.above m' h))
      by (no h) (yes h') = absurd (d.top (d'.above m h'))
      by (no h) (no h') = omega arith

  pub degree_within : (m N : ℕ) (p : ℕ → E) → Degree R m p → Within R N p → m < N
  degree_within m N p d h = by (dec_lt m N)
    where
      by : Dec (m < N) → m < N
      by (yes b) = b
      by (no b) = absurd (d.top (h m (omega arith)))

  pub shift_is : (k : ℕ) (p : ℕ → E) (f : ℕ → Element L) → ((j : ℕ) → Is L (p j) (f j)) → (j : ℕ) → Is L (shift R k p j) (shiftˡ (lifted L) k f j)
  shift_is k p f h j = by (dec_lt j k)
    where
      by : Dec (j < k) → Is L (shift R k p j) (shiftˡ (lifted L) k f j)
      by (yes b) = Lifts.is_at L (sym (Rec.shift_before (lifted L) k f j b)) (Lifts.zero_is L (ap (λ t. cond t R.zero (p (j - k))) (lt-ltb j k b)))
      by (no b) =
          Lifts.is_at L (sym (Rec.shift_at (lifted L) k f j (omega arith)))
          (Lifts.is_same L (ap (λ t. cond t R.zero (p (j - k))) (le-ltb j k (omega arith))) (h (j - k)))

  module _ (n e : ℕ) (S : ℕ → ℕ → E) (wide : 0 < n) where
    abbrev C : Capture (Element L)
    C = capture L S n e

    abbrev chain : Chain C
    chain = chain_of L S n e wide

    pub below_to : (m : ℕ) (p : ℕ → E) (f : ℕ → Element L) → ((j : ℕ) → Is L (p j) (f j)) → Within R m p → Below C m f
    below_to m p f is h j b = to_zero (is j) (h j b)

    pub within_from : (m : ℕ) (f : ℕ → Element L) → Below C m f → Within R m (raw f)
    within_from m f h j b = from_zero (raw_is (f j)) (h j b)

    pub monic_to : (i m : ℕ) (p : ℕ → E) → Lawful R p → Within R (suc m) p → p m ≡ power R R.step i → Monic C i m (lift p)
    monic_to i m p ok above top = record {
      below = below_to (suc m) p (lift p) (lift_is p ok) above;
      top = Lifts.held L (Lifts.is_same L top (Lifts.power_is L i));
    }

    abbrev pub leads_to : (i m : ℕ) (p : ℕ → E) → Lawful R p → Leads R i m p → Leadsˡ C i m (lift p)
    leads_to i m p ok h = record {
      below = below_to (suc m) p (lift p) (lift_is p ok) h.above;
      top = valued_of L S n e (p m) h.unit (lift p m) i (lift_is p ok m) h.top;
    }

    pub split_from : (i : ℕ) (x : Element L) → i < R.depth → (v : Valued C i x) → Split R x.0 i v.unit.0
    unfolding lifted
    split_from i x hi v = record {
      whole = ap (λ z. z.0) v.is ∙ ap (λ z. R.mul z v.unit.0) (sym (Lifts.power_is L i).eq);
      low = v.within;
      zero_end = λ z. absurd (Valuations.valued_nonzero C chain i x v hi (same L z));
      end_zero = λ z. absurd (omega arith);
      unit = (v.inverse.0, record { left = v.unit.1; right = v.inverse.1; product = ap (λ z. z.0) v.inverts });
    }

    abbrev pub leads_from : (i m : ℕ) (f : ℕ → Element L) → i < R.depth → Leadsˡ C i m f → Leads R i m (raw f)
    leads_from i m f hi h = record {
      within = hi;
      above = within_from (suc m) f h.below;
      unit = h.top.unit.0;
      top = split_from i (f m) hi h.top;
    }

    -- a polynomial has one level
    pub leads_once : (v m v' m' : ℕ) (p : ℕ → E) → Lawful R p → Leads R v m p → Leads R v' m' p → (v ≡ v') × (m ≡ m')
    leads_once v m v' m' p ok l l' =
        let e : m ≡ m' = degree_once m m' p (degree_of v m p l) (degree_of v' m' p l') in
        (Valuations.valued_once C chain v v' (lift p m) (leads_to v m p ok l).top (subst (λ z. Valued C v' (lift p z)) (sym e) (leads_to v' m' p ok l').top), e)

    module _ (ok : LawfulWords R n e S) where
      word_is : (k c : ℕ) → k < e → c < n → Is L (S c k) (hold L (S c k))
      word_is k c hk hc = Lifts.hold_is L (S c k) (ok k c hk hc)

      -- the value on the words, the two ways
      pub words_is : (m : ℕ) (p : ℕ → E) (f : ℕ → Element L) (k c : ℕ) → ((j : ℕ) → Is L (p j) (f j)) → k + m < e → c < n
          → Is L (value R m p (S c) k) (act (lifted L) (suc m) f (λ t. hold L (S c t)) k)
      words_is m p f k c is hk hc = value_is m p (S c) k f _ (λ j _. is j) (λ j b. word_is (k + j) c (omega arith) hc)

      pub cancels_to : (m : ℕ) (p : ℕ → E) → Lawful R p → Degree R m p → Cancels R n e S p → Cancelsˡ C m (lift p)
      cancels_to m p lp deg cancels =
          Runs.cancels_from C chain m (lift p) (below_to (suc m) p (lift p) (lift_is p lp) deg.above)
          (λ k c hc hk. to_zero (words_is m p (lift p) k c (lift_is p lp) hk hc) (cancels m deg k c hk hc))

      pub cancels_from : (m : ℕ) (f : ℕ → Element L) → Degree R m (raw f) → Below C (suc m) f → Cancelsˡ C m f → Cancels R n e S (raw f)
      cancels_from m f deg below cancels m' deg' k c hk hc =
          let same_degree : m ≡ m' = degree_once m m' (raw f) deg deg' in
          let here : act (lifted L) (suc m') f (λ t. hold L (S c t)) k ≡ (lifted L).𝟘 = rw (← same_degree) (Runs.cancels_to C chain m f below cancels k c hc (omega arith)) in
          from_zero (words_is m' (raw f) f k c (λ j. raw_is (f j)) hk hc) here

      pub least_to : (i l : ℕ) → i < R.depth → Least R n e S i l → (m : ℕ) (f : ℕ → Element L) → Leadsˡ C i m f → Cancelsˡ C m f → l ≤ m
      least_to i l hi least m f lead cancels =
          let lead' : Leads R i m (raw f) = leads_from i m f hi lead in
          least m (raw f) (λ j. (f j).1) lead' (cancels_from m f (degree_of i m (raw f) lead') lead.below cancels)
