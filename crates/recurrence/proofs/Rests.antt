-- Rests over raw elements are rests among the lawful ones, and back.
use mathlib.Core.Path.{◌≡◌, refl, sym, ap, ◌∙◌, subst, fun_ext}
use mathlib.Core.Logic.{◌⊎◌, inl, inr}
use Prim.Native.Nat.{ℕ, suc, ◌-◌, ◌<◌}
use native.Mathlib.Omega.{arith}
use lib.Dec.{T}
use Rattle.ring.specs.Ring.{Ring, Laws, power}
use Rattle.ring.specs.Lawful.{Lawful as Element, Is, lifted, hold}
use Rattle.ring.proofs.Lifts as Lifts
use Rattle.recurrence.specs.Polynomials.{Lawful, Zero, Within, Degree, Leads}
use Rattle.recurrence.specs.Reductions.{Step, Irreducible, Rest, done, more}
use Rattle.recurrence.proofs.Polynomials.{plus, shift as shiftˡ}
use Rattle.recurrence.proofs.Captures.{Capture, Chain, Monic}
use Rattle.recurrence.proofs.Reductions.{Small, Reduces, none_left, small_left, reduce}
use Rattle.recurrence.proofs.Runs as Runs
use Rattle.recurrence.proofs.Lift.{capture, chain_of, unit_is}
use Rattle.recurrence.proofs.Bridge as Bridge

module _ {E : Type 0} {R : Ring E} (L : Laws R) (n e : ℕ) (S : ℕ → ℕ → E) (wide : 0 < n) where
  abbrev C : Capture (Element L)
  C = capture L S n e

  abbrev chain : Chain C
  chain = chain_of L S n e wide

  -- nothing leads a zero polynomial
  pub zero_irreducible : (l : ℕ → ℕ) (P : ℕ → ℕ → E) (r : ℕ → E) → Zero R r → Irreducible R l P r
  zero_irreducible l P r z v m lead = let h = lead.top.zero_end (z m) in absurd (omega (arith, h, lead.within))

  -- one level and degree are enough to tell
  pub small_irreducible : (l : ℕ → ℕ) (P : ℕ → ℕ → E) (r : ℕ → E) (v m : ℕ) → Lawful R r → Leads R v m r → m < l v → Irreducible R l P r
  small_irreducible l P r v m ok lead small v' m' lead' =
      let once = Bridge.leads_once L n e S wide v m v' m' r ok lead lead' in
      subst (λ z. m' < l z) once.0 (subst (λ z. z < l v) once.1 small)

  module _ (l : ℕ → ℕ) (P : ℕ → ℕ → E) (lawful : (i : ℕ) → i < R.depth → Lawful R (P i)) (above : (i : ℕ) → i < R.depth → Within R (suc (l i)) (P i))
      (top : (i : ℕ) → i < R.depth → P i (l i) ≡ power R R.step i) where
    abbrev Q : ℕ → ℕ → Element L
    Q i = Bridge.lift L (P i)

    pub monic : (i : ℕ) → i < R.depth → Monic C i (l i) (Q i)
    monic i hi = Bridge.monic_to L n e S wide i (l i) (P i) (lawful i hi) (above i hi) (top i hi)

    -- one step, the two ways
    module _ (f g : ℕ → E) (ok : Lawful R f) (step : Step R l P f g) where
      abbrev v : ℕ
      v = step.level

      abbrev m : ℕ
      m = step.degree

      abbrev taken : ℕ → Element L
      taken = plus (lifted L) (Bridge.lift L f) ((lifted L).⊖◌ (Bridge.leads_to L n e S wide v m f ok step.leads).top.unit) (shiftˡ (lifted L) (m - l v) (Q v))

      step_is : (j : ℕ) → Is L (g j) (taken j)
      step_is j =
          Bridge.scaled_is L (Bridge.lift_is L f ok j) (unit_is L S n e (f m) step.leads.unit (Bridge.lift L f m) v (Bridge.lift_is L f ok m) step.leads.top)
          (Bridge.shift_is L (m - l v) (P v) (Q v) (Bridge.lift_is L (P v) (lawful v step.leads.within)) j) (step.taken j)

      step_lawful : Lawful R g
      step_lawful j = Lifts.ok L (step_is j)

      step_same : Bridge.lift L g ≡ taken
      step_same = fun_ext (λ j. Lifts.held L (step_is j))

      step_within : (N : ℕ) → Within R N f → Within R N g
      step_within N within j h =
          Bridge.from_zero L (step_is j)
          (Runs.step_below C chain l Q monic N v m (Bridge.lift L f) _ step.leads.within step.far
          (Bridge.degree_within L m N f (Bridge.degree_of L v m f step.leads) within)
          (Bridge.below_to L n e S wide N f (Bridge.lift L f) (Bridge.lift_is L f ok) within) j h)

    pub rest_to : (N : ℕ) (r f : ℕ → E) → Lawful R f → Within R N f → Rest R l P r f → Lawful R r × Reduces C l Q (Bridge.lift L r) (Bridge.lift L f)
    rest_to N r f ok within (done irreducible same) = (lawful_r, subst (Reduces C l Q (Bridge.lift L r)) lifts (by (Bridge.zero_or_degree L N f ok within)))
      where
        lawful_r : Lawful R r
        lawful_r j = subst (λ z. T (R.lawful z)) (sym (same j)) (ok j)

        lifts : Bridge.lift L r ≡ Bridge.lift L f
        lifts = fun_ext (λ j. ap (hold L) (same j))

        by : Zero R f ⊎ ((m : ℕ) × (m < N) × Degree R m f) → Reduces C l Q (Bridge.lift L r) (Bridge.lift L r)
        by (inl z) = none_left (λ j. Bridge.to_zero L (Bridge.lift_is L r lawful_r j) (same j ∙ z j))
        by (inr d) =
            let lead = Bridge.leads_of L d.0 f ok d.2 in
            small_left (subst (Small C l) (sym lifts) (record {
              level = lead.0;
              degree = d.0;
              level_within = lead.1.within;
              leads = Bridge.leads_to L n e S wide lead.0 d.0 f ok lead.1;
              small = irreducible lead.0 d.0 lead.1;
            }))
    rest_to N r f ok within (more {g = g} step rest) =
        let ih = rest_to N r g (step_lawful f g ok step) (step_within f g ok step N within) rest in (
          ih.0,
          reduce step.level step.degree step.leads.within (Bridge.leads_to L n e S wide step.level step.degree f ok step.leads) step.far
              (subst (Reduces C l Q (Bridge.lift L r)) (step_same f g ok step) ih.1),
        )

    pub rest_from : (r f : ℕ → Element L) → Reduces C l Q r f → Rest R l P (Bridge.raw L r) (Bridge.raw L f)
    rest_from r f (none_left z) = done (zero_irreducible l P (Bridge.raw L r) (λ j. Bridge.from_zero L (Bridge.raw_is L (r j)) (z j))) (λ j. refl)
    rest_from r f (small_left s) =
        done (small_irreducible l P (Bridge.raw L r) s.level s.degree (λ j. (r j).1)
        (Bridge.leads_from L n e S wide s.level s.degree r s.level_within s.leads) s.small) (λ j. refl)
    rest_from r f (reduce i m hi lead far rest) =
        more (record {
          level = i;
          degree = m;
          leads = Bridge.leads_from L n e S wide i m f hi lead;
          far = far;
          taken = λ j. sym (Bridge.scaled_is L (Bridge.raw_is L (f j)) (Bridge.raw_is L lead.top.unit)
              (Bridge.shift_is L (m - l i) (P i) (Q i) (Bridge.lift_is L (P i) (lawful i hi)) j) refl).eq;
        }) (rest_from r _ rest)

    -- every polynomial has a rest
    pub rest_exists : (f : ℕ → E) (N : ℕ) → Lawful R f → Within R N f → (r : ℕ → E) × Lawful R r × Within R N r × Rest R l P r f
    rest_exists f N ok within =
        let below = Bridge.below_to L n e S wide N f (Bridge.lift L f) (Bridge.lift_is L f ok) within in
        let r = Runs.all_reduce C chain l Q monic N (Bridge.lift L f) below in (
          Bridge.raw L r.0,
          (λ j. (r.0 j).1),
          Bridge.within_from L n e S wide N r.0 (Runs.rest_below C chain l Q monic N r.0 (Bridge.lift L f) r.1 below),
          subst (Rest R l P (Bridge.raw L r.0)) (fun_ext (λ j. sym (Bridge.lift_is L f ok j).eq)) (rest_from r.0 (Bridge.lift L f) r.1),
        )
