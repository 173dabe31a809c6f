-- What a finding tells of its capture and its run.
use mathlib.Core.Path.{◌≡◌, sym, ap, ◌∙◌, subst}
use mathlib.Core.Logic.{◌⊎◌, inl, inr, ◌↔◌}
use mathlib.Core.List.{List}
use Prim.Native.Nat.{ℕ, suc, ◌+◌, ◌*◌, ◌<◌, ◌≤◌}
use native.Mathlib.Omega.{arith}
use Rattle.ring.specs.Ring.{Ring, Laws, Split}
use Rattle.ring.specs.Lawful.{Lawful as Element, Is, lifted, hold}
use Rattle.ring.proofs.Lifts as Lifts
use Rattle.recurrence.specs.declared.shape.Level.{Level}
use Rattle.recurrence.specs.Polynomials.{Lawful, Zero, Within, Degree, Leads, value, Obeys}
use Rattle.recurrence.specs.Words.{LawfulWords, Length, Shortest, run, CancelsRun}
use Rattle.recurrence.specs.Findings.{long, extent, row}
use Rattle.recurrence.specs.Reductions.{Rest}
use Rattle.recurrence.specs.Theorems.{RecurrenceSettles, RunContinues, LengthsFall, Stands, RowsShortest, RowsCancelRun, RestTells, RestExists, RunForetells}
use Rattle.recurrence.proofs.Polynomials.{act, Obeys as Obeysˡ}
use Rattle.recurrence.proofs.Captures.{Capture, Chain}
use Rattle.recurrence.proofs.Reductions.{Answer, Answers, channel}
use Rattle.recurrence.proofs.Recurrences as Rec
use Rattle.recurrence.proofs.Runs as Runs
use Rattle.recurrence.proofs.Lift.{capture, chain_of}
use Rattle.recurrence.proofs.Bridge as Bridge
use Rattle.recurrence.proofs.Continuations as Continuations
use Rattle.recurrence.proofs.Rows as Rows
use Rattle.recurrence.proofs.Rests as Rests
use Rattle.recurrence.proofs.Elements as Elements

module _ {E : Type 0} {R : Ring E} (L : Laws R) where
  pub obeys_to : (D : ℕ) (q w : ℕ → E) → Lawful R w → Obeys R D q w → Obeysˡ (lifted L) D (Bridge.lift L q) (Bridge.lift L w)
  obeys_to D q w lw ob = record {
    monic = Lifts.held L (Lifts.one_is L ob.monic.top);
    cancels = λ t. Bridge.to_zero L (Bridge.value_is L D q w t _ _ (λ j _. Bridge.lift_is L q ob.lawful j) (λ j _. Bridge.lift_is L w lw (t + j))) (ob.cancels t);
  }

  pub recurrence_settles : RecurrenceSettles R
  recurrence_settles D q w ob lw m p lp begin t =
      Bridge.from_zero L (is t)
      (Rec.cancels_on (lifted L) D (Bridge.lift L q) (Bridge.lift L w) (obeys_to D q w lw ob) (suc m) (Bridge.lift L p) (λ t h. Bridge.to_zero L (is t) (begin t h)) t)
    where
      is : (t : ℕ) → Is L (value R m p w t) (act (lifted L) (suc m) (Bridge.lift L p) (Bridge.lift L w) t)
      is t = Bridge.value_is L m p w t _ _ (λ j _. Bridge.lift_is L p lp j) (λ j _. Bridge.lift_is L w lw (t + j))

  module _ (n e : ℕ) (S : ℕ → ℕ → E) (wide : 0 < n) (ok : LawfulWords R n e S) where
    abbrev C : Capture (Element L)
    C = capture L S n e

    abbrev chain : Chain C
    chain = chain_of L S n e wide

    pub lengths_fall : (i j k l : ℕ) → i ≤ j → j < R.depth → Length R n e S i k → Length R n e S j l → (l ≤ k) × (k ≤ e)
    lengths_fall i j k l hi hj at_i at_j =
        let p = at_i.polynomial in
        let deeper = Runs.deeper C chain i j k (Bridge.lift L p) hi (omega arith) (Bridge.leads_to L n e S wide i k p at_i.lawful at_i.leads)
        (Bridge.cancels_to L n e S wide ok k p at_i.lawful (Bridge.degree_of L i k p at_i.leads) at_i.cancels) in
        let bounded = Runs.bounded C chain i (omega arith) in (
          Bridge.least_to L n e S wide ok j l hj at_j.least k deeper.0 deeper.1 deeper.2,
          Bridge.least_to L n e S wide ok i k (omega arith) at_i.least e bounded.0 bounded.1 bounded.2,
        )

    -- a shortest polynomial is an answer
    pub answer : (i l : ℕ) (p : ℕ → E) → i < R.depth → Shortest R n e S i l p → Answer C i l (Bridge.lift L p)
    answer i l p hi s = record {
      monic = Bridge.monic_to L n e S wide i l p s.lawful s.above s.top;
      cancels = Bridge.cancels_to L n e S wide ok l p s.lawful (Bridge.normal_degree L i l p hi s.above s.top) s.cancels;
      least = Bridge.least_to L n e S wide ok i l hi s.least;
    }

    -- a shortest polynomial tells the length
    pub length_of : (i l : ℕ) (p : ℕ → E) → i < R.depth → Shortest R n e S i l p → Length R n e S i l
    length_of i l p hi s = record {
      polynomial = p;
      lawful = s.lawful;
      cancels = s.cancels;
      least = s.least;
      leads = by (Bridge.leads_from L n e S wide i l (Bridge.lift L p) hi (record { below = (answer i l p hi s).monic.below; top = Runs.one_valued C chain i _ (omega arith) (answer i l p hi s).monic.top }));
    }
      where
        by : Leads R i l (Bridge.raw L (Bridge.lift L p)) → Leads R i l p
        by lead = record {
          within = hi;
          above = s.above;
          unit = lead.unit;
          top = subst (λ z. Split R z i lead.unit) (sym (Bridge.lift_is L p s.lawful l).eq) lead.top;
        }

    -- cancelling the run of a monic polynomial, the two ways
    module _ (l : ℕ) (q : ℕ → E) (lq : Lawful R q) (small : l ≤ e) where
      abbrev ZeroOnRun : (ℕ → E) → ℕ → Type 0
      ZeroOnRun f N = (c t : ℕ) → c < n → act (lifted L) N (Bridge.lift L f) (channel C l (Bridge.lift L q) c) t ≡ (lifted L).𝟘

      run_value : (f : ℕ → E) → Lawful R f → (m k c : ℕ) → c < n
          → Is L (value R m f (run R e S l q c) k) (act (lifted L) (suc m) (Bridge.lift L f) (channel C l (Bridge.lift L q) c) k)
      run_value f lf m k c hc =
          Bridge.value_is L m f (run R e S l q c) k _ _ (λ j _. Bridge.lift_is L f lf j) (λ j _. Continuations.run_is L n e S ok l q lq small c hc (k + j))

      pub on_run_from : (f : ℕ → E) (N : ℕ) → Lawful R f → Within R N f → ZeroOnRun f N → CancelsRun R e S l q n f
      on_run_from f N lf within h m deg k c hc =
          Bridge.from_zero L (run_value f lf m k c hc)
          (sym (Rec.act_stretch (lifted L) (suc m) N (Bridge.lift L f) (channel C l (Bridge.lift L q) c) k (Bridge.degree_within L m N f deg within)
          (Bridge.below_to L n e S wide (suc m) f (Bridge.lift L f) (Bridge.lift_is L f lf) deg.above)) ∙ h c k hc)

      pub on_run_to : (f : ℕ → E) (N : ℕ) → Lawful R f → Within R N f → CancelsRun R e S l q n f → ZeroOnRun f N
      on_run_to f N lf within h c t hc = by (Bridge.zero_or_degree L N f lf within)
        where
          by : Zero R f ⊎ ((m : ℕ) × (m < N) × Degree R m f) → act (lifted L) N (Bridge.lift L f) (channel C l (Bridge.lift L q) c) t ≡ (lifted L).𝟘
          by (inl z) = Rec.act_none (lifted L) N (Bridge.lift L f) (channel C l (Bridge.lift L q) c) t (λ j _. Bridge.to_zero L (Bridge.lift_is L f lf j) (z j))
          by (inr d) =
              Rec.act_stretch (lifted L) (suc d.0) N (Bridge.lift L f) (channel C l (Bridge.lift L q) c) t d.1
              (Bridge.below_to L n e S wide (suc d.0) f (Bridge.lift L f) (Bridge.lift_is L f lf) d.2.above)
              ∙ Bridge.to_zero L (run_value f lf d.0 t c hc) (h d.0 d.2 t c hc)

    -- polynomials of all levels, shortest and settled
    module _ (l : ℕ → ℕ) (P : ℕ → ℕ → E) (shortest : (i : ℕ) → i < R.depth → Shortest R n e S i (l i) (P i)) where
      zero_level : 0 < R.depth
      zero_level = omega (arith, L.depth_low)

      first_short : l 0 ≤ e
      first_short = let len = length_of 0 (l 0) (P 0) zero_level (shortest 0 zero_level) in (lengths_fall 0 0 (l 0) (l 0) (omega arith) zero_level len len).1

      answers : 2 * l 0 ≤ e → Answers C l (λ i. Bridge.lift L (P i))
      answers half = record { answer = λ i hi. answer i (l i) (P i) hi (shortest i hi); half = omega arith }

      pub rows_cancel : 2 * l 0 ≤ e → (i : ℕ) → i < R.depth → CancelsRun R e S (l 0) (P 0) n (P i)
      rows_cancel half i hi =
          on_run_from (l 0) (P 0) (shortest 0 zero_level).lawful first_short (P i) (suc (l i)) (shortest i hi).lawful (shortest i hi).above
          (λ c t hc. Runs.answer_cancels C chain l (λ i. Bridge.lift L (P i)) (answers half) i hi c t hc)

      pub rest_tells : 2 * l 0 ≤ e → (f r : ℕ → E) (N : ℕ) → Lawful R f → Within R N f → Rest R l P r f → Zero R r ↔ CancelsRun R e S (l 0) (P 0) n f
      rest_tells half f r N lf within rest =
          let both = Rests.rest_to L n e S wide l P (λ i hi. (shortest i hi).lawful) (λ i hi. (shortest i hi).above) (λ i hi. (shortest i hi).top) N r f lf within rest in
          let core = Runs.tells C chain l (λ i. Bridge.lift L (P i)) (answers half) N (Bridge.lift L r) (Bridge.lift L f) both.1
          (Bridge.below_to L n e S wide N f (Bridge.lift L f) (Bridge.lift_is L f lf) within) in
          let lq = (shortest 0 zero_level).lawful in (
            (λ z. on_run_from (l 0) (P 0) lq first_short f N lf within (core.0 (λ j. Bridge.to_zero L (Bridge.lift_is L r both.0 j) (z j)))),
            (λ h j. Bridge.from_zero L (Bridge.lift_is L r both.0 j) (core.1 (on_run_to (l 0) (P 0) lq first_short f N lf within h) j)),
          )

      pub run_foretells : (w : ℕ → ℕ → E) (D : ℕ) (q : ℕ → E) → 2 * D ≤ e → ((c : ℕ) → c < n → Lawful R (w c) × Obeys R D q (w c))
          → ((k c : ℕ) → k < e → c < n → S c k ≡ w c k) → (c k : ℕ) → c < n → run R e S (l 0) (P 0) c k ≡ w c k
      run_foretells w D q half obeys words c k hc =
          (Lifts.is_at L
          (Runs.run_is_true C chain (l 0) (Bridge.lift L (P 0)) (answer 0 (l 0) (P 0) zero_level (shortest 0 zero_level)) (λ c. Bridge.lift L (w c)) D (Bridge.lift L q) (omega arith)
          (Bridge.below_to L n e S wide (suc D) q (Bridge.lift L q) (Bridge.lift_is L q (obeys c hc).1.lawful) (obeys c hc).1.monic.above)
          (λ b hb. obeys_to D q (w b) (obeys b hb).0 (obeys b hb).1) (λ i b hi hb. ap (hold L) (words i b hi hb)) c k hc)
          (Continuations.run_is L n e S ok (l 0) (P 0) (shortest 0 zero_level).lawful first_short c hc k)).eq
          ∙ sym (Bridge.lift_is L (w c) (obeys c hc).0 k).eq

module _ {E : Type 0} {R : Ring E} (L : Laws R) where
  abbrev rows : (n e : ℕ) (S : ℕ → ℕ → E) (levels : List Level) (fm : List E) → Stands R n e S levels fm
      → (i : ℕ) → i < R.depth → Shortest R n e S i (long levels i) (row R e levels fm i)
  rows n e S levels fm stands = Rows.row_shortest R e levels fm L n S stands.finding

  pub all_lengths_fall : LengthsFall R
  all_lengths_fall n e S wide ok = lengths_fall L n e S wide ok

  pub rows_shortest : RowsShortest R
  rows_shortest n e S levels fm stands i hi =
      let s = rows n e S levels fm stands i hi in (s, length_of L n e S stands.wide stands.words i (long levels i) (row R e levels fm i) hi s)

  pub rows_cancel_run : RowsCancelRun R
  rows_cancel_run n e S levels fm stands = rows_cancel L n e S stands.wide stands.words (long levels) (row R e levels fm) (rows n e S levels fm stands)

  pub finding_rest_tells : RestTells R
  finding_rest_tells n e S levels fm stands = rest_tells L n e S stands.wide stands.words (long levels) (row R e levels fm) (rows n e S levels fm stands)

  pub finding_rest_exists : RestExists R
  finding_rest_exists e levels fm formed none =
      Rests.rest_exists L 1 e (λ _ _. R.zero) (omega arith) (long levels) (row R e levels fm)
      (Rows.row_lawful R e levels fm formed L (Elements.lawful_below R fm (extent R e) none)) (λ i _. Rows.row_past R e levels fm i) (Rows.row_top R e levels fm formed)

  pub finding_foretells : RunForetells R
  finding_foretells n e S levels fm stands = run_foretells L n e S stands.wide stands.words (long levels) (row R e levels fm) (rows n e S levels fm stands)

pub run_continues : {E : Type 0} (R : Ring E) → RunContinues R
run_continues R e S l p small c = (
  record { begins = Continuations.run_begins R e S l p c; goes_on = Continuations.run_next R e S l p small c },
  λ w continues. Continuations.run_only R e S l p small c w continues.begins continues.goes_on,
)
