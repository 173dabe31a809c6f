-- The turns of reduction, from what the calls ensure.
use Rattle.std.proofs.Common.{◌≡◌, ℕ, ◌+◌, ◌-◌, ◌*◌, ◌<◌, ◌≤◌, Bool, cond, T, ltb, List, length, get_or, take, drop, sym, refl, ap, ◌∙◌, subst, ap₂, arith, le-ltb, lt-ltb}
use native.Mathlib.Decide.{dec_lt}
use Rattle.ring.specs.Ring.{Ring, Laws, power, Split}
use Rattle.ring.proofs.Loops.{lawful_at}
use Rattle.recurrence.specs.declared.shape.Shape.{Shape}
use Rattle.recurrence.specs.declared.shape.Level.{Level}
use Rattle.recurrence.specs.Polynomials.{Lawful, Within, Leads, shift}
use Rattle.recurrence.specs.Memory.{at, Written}
use Rattle.recurrence.specs.Findings.{long, row}
use Rattle.recurrence.specs.Reductions.{Step, Rest, done, more}
use Rattle.recurrence.proofs.Rests.{zero_irreducible, small_irreducible}
use Rattle.recurrence.proofs.Rows as Rows
use Rattle.recurrence.proofs.Elements.{read_at}
use Rattle.judging.specs.Judging.{Sound}
use Rattle.remainder.specs.Steps.{taken}
use Rattle.ring.specs.Lawful.{lifted}
use Rattle.ring.proofs.Sums as Sums
use Rattle.ring.proofs.Lifts as Lifts
use Rattle.ring.proofs.Differences as Differences
use Rattle.judging.proofs.Forms as Forms

module _ {E : Type 0} {R : Ring E} (L : Laws R) where
  sub_zero : (x : E) → T (R.lawful x) → R.sub x R.zero ≡ x
  sub_zero x h =
      let K = L.ring_laws in
      sym (K.add_zero _ (K.sub_lawful x R.zero h K.zero_lawful)) ∙ K.sub_add x R.zero h K.zero_lawful

  mul_zero : (x : E) → T (R.lawful x) → R.mul x R.zero ≡ R.zero
  mul_zero x h =
      (Lifts.mul_is L (Lifts.hold_is L x h) (Lifts.zero_is L refl) (λ _ _. refl)).eq ∙ ap (λ z. z.0) (Sums.mul_zero (lifted L) _) ∙ sym (Lifts.zero_is L refl).eq

module _ {E : Type 0} (R : Ring E) (s : Shape) (levels : List Level) (fm : List E) where
  abbrev P : ℕ → ℕ → E
  P = row R s.count.words levels fm

  -- f₀ is reduced so far to f: whatever is a rest of f is one of f₀, and only the first n coefficients of f may differ from zero
  pub record Turn (f₀ f : List E) (n : ℕ) : Type 0 where
    pub chain : (r : ℕ → E) → Rest R (long levels) P r (at R f) → Rest R (long levels) P r (at R f₀)
    pub within : Within R n (at R f)
    pub lawful : Lawful R (at R f)
    pub inside : n ≤ length f

  -- nothing is left
  pub finish : Laws R → (f₀ f : List E) (n : ℕ) → n ≤ 0 → Turn f₀ f n → Rest R (long levels) P (at R f) (at R f₀)
  finish L f₀ f n h turn =
      turn.chain (at R f) (done (zero_irreducible L 1 0 (λ _ _. R.zero) (omega arith) (long levels) P (at R f) (λ j. turn.within j (omega arith))) (λ j. refl))

module _ {E : Type 0} {R : Ring E} (L : Laws R) (s : Shape) (levels : List Level) (fm : List E) (sound : Sound R s levels fm) where
  abbrev row_at : ℕ → ℕ → E
  row_at = row R s.count.words levels fm

  -- f, of degree m and level v with m ≥ L, becomes g: u y^(m - L) times the row of level v is taken away
  module _ (f g : List E) (m v : ℕ) (lead : Leads R v m (at R f)) (far : long levels v ≤ m) (inside : m < length f) (ok : Lawful R (at R f))
      (w : Written f g (m - long levels v) (long levels v + 1) (taken R (at R f) (m - long levels v) lead.unit (row_at v))) where
    k : ℕ
    k = m - long levels v

    abbrev u : E
    u = lead.unit

    lawful_unit : T (R.lawful u)
    lawful_unit = lead.top.unit.1.left

    shift_lawful : (j : ℕ) → Dec (j < k) → T (R.lawful (shift R k (row_at v) j))
    shift_lawful j (yes h) = subst (λ (b : Bool). T (R.lawful (cond b R.zero (row_at v (j - k))))) (sym (lt-ltb j k h)) L.ring_laws.zero_lawful
    shift_lawful j (no h) = subst (λ (b : Bool). T (R.lawful (cond b R.zero (row_at v (j - k))))) (sym (le-ltb j k (omega arith))) (Forms.row_lawful L s levels fm sound v lead.within (j - k))

    -- where the row is zero, nothing changes
    idle : (j : ℕ) (z : E) → z ≡ R.zero → at R g j ≡ at R f j → at R g j ≡ R.sub (at R f j) (R.mul u z)
    idle j z ez e = e ∙ sym (ap (λ y. R.sub (at R f j) (R.mul u y)) ez ∙ ap (R.sub (at R f j)) (mul_zero L u lawful_unit) ∙ sub_zero L _ (ok j))

    each : (j : ℕ) → at R g j ≡ R.sub (at R f j) (R.mul u (shift R k (row_at v) j))
    unfolding k
    each j = go (dec_lt j k) (dec_lt m j)
      where
        Q : Bool → Type 0
        Q b = at R g j ≡ R.sub (at R f j) (R.mul u (cond b R.zero (row_at v (j - k))))

        go : Dec (j < k) → Dec (m < j) → Q (ltb j k)
        go (yes h) _ = subst Q (sym (lt-ltb j k h)) (idle j R.zero refl (w.before j h R.zero))
        go (no h) (yes b) = subst Q (sym (le-ltb j k (omega arith))) (idle j _ (Rows.row_past R s.count.words levels fm v (j - k) (omega arith)) (w.after j (omega arith) R.zero))
        go (no h) (no b) =
            let e : k + (j - k) ≡ j = omega arith in
            subst Q (sym (le-ltb j k (omega arith))) (subst (λ (i : ℕ). at R g i ≡ R.sub (at R f i) (R.mul u (row_at v (j - k)))) e (w.there (j - k) (omega arith) R.zero))

    pub step : Step R (long levels) row_at (at R f) (at R g)
    unfolding k
    step = record { level = v; degree = m; leads = lead; far = far; taken = each }

    pub step_lawful : Lawful R (at R g)
    step_lawful j =
        lawful_at L (each j) (L.ring_laws.sub_lawful _ _ (ok j) (L.ring_laws.mul_lawful _ _ lawful_unit (shift_lawful j (dec_lt j k))))

    -- the leading coefficient is gone
    pub step_within : Within R m (at R g)
    unfolding k
    step_within j h = go (dec_lt m j)
      where
        go : Dec (m < j) → at R g j ≡ R.zero
        go (yes b) = w.after j (omega arith) R.zero ∙ lead.above j b
        go (no b) =
            let e : k + long levels v ≡ j = omega arith in
            let ej : j ≡ m = omega arith in
            let top = Rows.row_top R s.count.words levels fm sound.formed v lead.within in
            subst (λ (i : ℕ). at R g i ≡ R.zero) e
            (w.there (long levels v) (omega arith) R.zero
            ∙ ap₂ (λ (i : ℕ) (z : E). R.sub (at R f i) (R.mul u z)) (e ∙ ej) top
            ∙ ap (R.sub (at R f m))
            (L.ring_laws.mul_comm u (power R R.step v) lawful_unit (lawful_at L (sym top) (Forms.row_lawful L s levels fm sound v lead.within (long levels v)))
            ∙ sym lead.top.whole)
            ∙ Differences.sub_self L _ (ok m))

  -- a turn begins: the coefficient x is read and split
  module _ (f₀ f : List E) (n v : ℕ) (u x : E) (some : 0 < n) (turn : Turn R s levels fm f₀ f n) (read : x ≡ get_or f (n - 1) x) (split : T (R.lawful x) → Split R x v u) where
    here : x ≡ at R f (n - 1)
    here = read_at R f (n - 1) x (omega (arith, turn.inside)) read

    top : Split R (at R f (n - 1)) v u
    top = subst (λ (z : E). Split R z v u) here (split (lawful_at L here (turn.lawful (n - 1))))

    abbrev leads : v < R.depth → Leads R v (n - 1) (at R f)
    leads hv = record { within = hv; above = λ j b. turn.within j (omega arith); unit = u; top = top }

    pub lawful_part : T (R.lawful u)
    lawful_part = top.unit.1.left

    -- no step is possible
    pub stop : v < R.depth → n - 1 < long levels v → Rest R (long levels) row_at (at R f) (at R f₀)
    stop hv short =
        turn.chain (at R f)
        (done (small_irreducible L 1 0 (λ _ _. R.zero) (omega arith) (long levels) row_at (at R f) v (n - 1) turn.lawful (leads hv) short) (λ j. refl))

    -- a step
    pub again : (g part : List E) (D : ℕ) → v < R.depth → D ≡ long levels v → D ≤ n - 1 → part ≡ take (long levels v + 1) (drop (v * (s.count.words + 1)) fm) → length part ≡ long levels v + 1
        → Written f g (n - 1 - D) (length part) (taken R (at R f) (n - 1 - D) u (at R part)) → Turn R s levels fm f₀ g (n - 1)
    again g part D hv D_is far is size w = record {
      chain = λ r h. turn.chain r (more (step f g (n - 1) v (leads hv) near inside turn.lawful w') h);
      within = step_within f g (n - 1) v (leads hv) near inside turn.lawful w';
      lawful = step_lawful f g (n - 1) v (leads hv) near inside turn.lawful w';
      inside = omega (arith, turn.inside, w.size);
    }
      where
        near : long levels v ≤ n - 1
        near = omega arith

        inside : n - 1 < length f
        inside = omega (arith, turn.inside)

        w' : Written f g (n - 1 - long levels v) (long levels v + 1) (taken R (at R f) (n - 1 - long levels v) u (row_at v))
        w' = subst (λ (k : ℕ). Written f g (n - 1 - k) (long levels v + 1) (taken R (at R f) (n - 1 - k) u (row_at v))) D_is (record {
          size = w.size;
          there = λ i b d. w.there i (omega (arith, size)) d ∙ ap (λ (l : List E). R.sub (at R f (n - 1 - D + i)) (R.mul u (at R l i))) is;
          before = w.before;
          after = λ j b d. w.after j (omega (arith, size)) d;
        })
