-- What is kept, over raw elements and among the lawful ones.
use mathlib.Core.Path.{◌≡◌, refl, sym, ◌∙◌, subst}
use mathlib.Core.Logic.{◌⊎◌, inl, inr}
use Prim.Native.Nat.{ℕ, suc, ◌/◌, ◌%◌, ◌<◌, ◌≤◌}
use native.Mathlib.Nat.{mod-lt}
use native.Mathlib.Decide.{dec_lt}
use native.Mathlib.Omega.{arith}
use Rattle.ring.specs.Ring.{Ring, Laws, Split}
use Rattle.ring.specs.Lawful.{Lawful as Element, Is, lifted, hold}
use Rattle.ring.proofs.Lifts as Lifts
use Rattle.recurrence.specs.Polynomials.{Lawful, Zero, Within, Degree, Leads}
use Rattle.recurrence.specs.Words.{LawfulWords, Cancels}
use Rattle.recurrence.specs.Store.{Multiple, Normal, value_at, Counts, Zeros, Complete, Stuck, Best, Keeps}
use Rattle.recurrence.specs.Theorems.{StoreStands}
use Rattle.recurrence.proofs.Captures.{Capture, Chain, Valued, Monic, value, First, Multiple as Multipleˡ, Zeros as Zerosˡ, Best as Bestˡ, Cancels as Cancelsˡ}
use Rattle.recurrence.proofs.Complete.{Complete as Completeˡ, Stuck as Stuckˡ}
use Rattle.recurrence.proofs.Recurrences as Rec
use Rattle.recurrence.proofs.Valuations as Valuations
use Rattle.recurrence.proofs.Completes as Completes
use Rattle.recurrence.proofs.Runs as Runs
use Rattle.recurrence.proofs.Lift.{capture, chain_of, valued_of}
use Rattle.recurrence.proofs.Bridge as Bridge

module _ {E : Type 0} {R : Ring E} (L : Laws R) (n e : ℕ) (S : ℕ → ℕ → E) (wide : 0 < n) (ok : LawfulWords R n e S) where
  abbrev C : Capture (Element L)
  C = capture L S n e

  abbrev chain : Chain C
  chain = chain_of L S n e wide

  -- the value at a place that counts
  pub place_is : (m : ℕ) (p : ℕ → E) (f : ℕ → Element L) → ((j : ℕ) → Is L (p j) (f j)) → Within R (suc m) p → (q : ℕ) → Counts R n e S m q
      → Is L (value_at R n e S m p q) (value C f q)
  unfolding value
  place_is m p f is above q counts =
      Lifts.is_at L (sym (Rec.act_stretch (lifted L) (suc m) (suc e) f (λ k. hold L (S (q % n) k)) (q / n) (omega arith) (Bridge.below_to L n e S wide (suc m) p f is above)))
      (Bridge.words_is L n e S wide ok m p f (q / n) (q % n) is counts (mod-lt q wide))

  counted : (m q r : ℕ) → Counts R n e S m q → r < q → Counts R n e S m r
  counted m q r counts h = omega (arith, Valuations.div_mono n r q wide (omega arith))

  zeros_to : (m q : ℕ) (p : ℕ → E) (f : ℕ → Element L) → ((j : ℕ) → Is L (p j) (f j)) → Within R (suc m) p → Zeros R n e S m q p → Zerosˡ C m q f
  zeros_to m q p f is above zeros r h counts = Bridge.to_zero L (place_is m p f is above r counts) (zeros r h counts)

  zeros_from : (m q : ℕ) (p : ℕ → E) (f : ℕ → Element L) → ((j : ℕ) → Is L (p j) (f j)) → Within R (suc m) p → Zerosˡ C m q f → Zeros R n e S m q p
  zeros_from m q p f is above zeros r h counts = Bridge.from_zero L (place_is m p f is above r counts) (zeros r h counts)

  multiple_to : (v : ℕ) {a : E} {x : Element L} → Is L a x → Multiple R v a → Multipleˡ C v x
  multiple_to v is m = record {
    part = hold L m.part;
    is = Lifts.one_value L is (Lifts.is_same L m.is (Lifts.mul_is L (Lifts.power_is L v) (Lifts.hold_is L m.part m.lawful) (λ _ _. refl)));
  }

  multiple_from : (v : ℕ) {a : E} {x : Element L} → Is L a x → Multipleˡ C v x → Multiple R v a
  multiple_from v is m = record {
    part = m.part.0;
    lawful = m.part.1;
    is = (Lifts.is_at L m.is is).eq ∙ sym (Lifts.mul_is L (Lifts.power_is L v) (Bridge.raw_is L m.part) (λ _ _. refl)).eq;
  }

  pub complete_to : (s : ℕ) (v : ℕ → ℕ) → Complete R n e S s v → Completeˡ C s v
  complete_to s v complete m f hm below q counts zeros = by (Bridge.zero_or_degree L m (Bridge.raw L f) (λ j. (f j).1) (Bridge.within_from L n e S wide m f below))
    where
      is : (j : ℕ) → Is L (f j).0 (f j)
      is j = Bridge.raw_is L (f j)

      by : Zero R (Bridge.raw L f) ⊎ ((k : ℕ) × (k < m) × Degree R k (Bridge.raw L f)) → Multipleˡ C (v q) (value C f q)
      by (inl z) = Valuations.multiple_zero C chain (v q) (value C f q) (Valuations.value_none C chain f q (λ j _. Bridge.to_zero L (is j) (z j)))
      by (inr d) =
          let here : Counts R n e S d.0 q = omega (arith, d.1) in
          multiple_to (v q) (place_is d.0 (Bridge.raw L f) f is d.2.above q here)
          (complete d.0 (Bridge.raw L f) (omega (arith, d.1)) (λ j. (f j).1) d.2 q here
          (zeros_from d.0 q (Bridge.raw L f) f is d.2.above (λ r h _. zeros r h)))

  pub complete_from : (s : ℕ) (v : ℕ → ℕ) → Completeˡ C s v → Complete R n e S s v
  complete_from s v complete m f hm lf deg q counts zeros =
      let is = Bridge.lift_is L f lf in
      let zeros' = zeros_to m q f (Bridge.lift L f) is deg.above zeros in
      multiple_from (v q) (place_is m f (Bridge.lift L f) is deg.above q counts)
      (complete (suc m) (Bridge.lift L f) hm (Bridge.below_to L n e S wide (suc m) f (Bridge.lift L f) is deg.above) q (omega arith)
      (λ r h. zeros' r h (counted m q r counts h)))

  normal_to : (i m : ℕ) (p : ℕ → E) → Normal R i m p → Monic C i m (Bridge.lift L p)
  normal_to i m p normal = Bridge.monic_to L n e S wide i m p normal.lawful normal.above normal.top

  normal_degree : (i m : ℕ) (p : ℕ → E) → i < R.depth → Normal R i m p → Degree R m p
  normal_degree i m p hi normal = Bridge.normal_degree L i m p hi normal.above normal.top

  stuck_to : (i s : ℕ) (v : ℕ → ℕ) (p : ℕ → E) → i < R.depth → ((q : ℕ) → v q ≤ R.depth) → Normal R i s p → Stuck R n e S s v p → Stuckˡ C s v (Bridge.lift L p)
  stuck_to i s v p hi bound normal (inl cancels) = inl (Bridge.cancels_to L n e S wide ok s p normal.lawful (normal_degree i s p hi normal) cancels)
  stuck_to i s v p hi bound normal (inr (q, w, u, counts, zeros, split, less)) = inr (q, w, first, valued, less)
    where
      is : (j : ℕ) → Is L (p j) (Bridge.lift L p j)
      is = Bridge.lift_is L p normal.lawful

      valued : Valued C w (value C (Bridge.lift L p) q)
      valued = valued_of L S n e (value_at R n e S s p q) u _ w (place_is s p (Bridge.lift L p) is normal.above q counts) split

      first : First C s q (Bridge.lift L p)
      first = record {
        counts = counts;
        zeros = zeros_to s q p (Bridge.lift L p) is normal.above zeros;
        here = Valuations.valued_nonzero C chain w _ valued (omega (arith, bound q));
      }

  best_from : (i s : ℕ) (p : ℕ → E) → i < R.depth → Normal R i s p → Bestˡ C i s (Bridge.lift L p) → Best R n e S i s p
  best_from i s p hi normal best = record { zeros = more; cancels = all }
    where
      is : (j : ℕ) → Is L (p j) (Bridge.lift L p j)
      is = Bridge.lift_is L p normal.lawful

      more : (f : ℕ → E) → Lawful R f → Leads R i s f → (q : ℕ) → Zeros R n e S s q f → Zeros R n e S s q p
      more f lf lead q zeros =
          zeros_from s q p (Bridge.lift L p) is normal.above
          (best (Bridge.lift L f) (Bridge.leads_to L n e S wide i s f lf lead) q (zeros_to s q f (Bridge.lift L f) (Bridge.lift_is L f lf) lead.above zeros))

      all : (f : ℕ → E) → Lawful R f → Leads R i s f → Cancels R n e S f → Cancels R n e S p
      all f lf lead cancels m deg k c hk hc =
          let same_degree : m ≡ s = Bridge.degree_once L m s p deg (normal_degree i s p hi normal) in
          let whole : Cancelsˡ C s (Bridge.lift L f) = Bridge.cancels_to L n e S wide ok s f lf (Bridge.degree_of L i s f lead) cancels in
          let best_whole : Cancelsˡ C s (Bridge.lift L p) = λ r counts. best (Bridge.lift L f) (Bridge.leads_to L n e S wide i s f lf lead) (suc r) (λ r' _ c. whole r' c) r (omega arith) counts in
          Bridge.from_zero L (Bridge.words_is L n e S wide ok m p (Bridge.lift L p) k c is hk hc)
          (rw same_degree (Runs.cancels_to C chain s (Bridge.lift L p) (normal_to i s p normal).below best_whole k c hc (omega arith)))

  pub store_stands : (s : ℕ) (v : ℕ → ℕ) → ((q : ℕ) → v q ≤ R.depth) → Complete R n e S s v
      → (p : ℕ → ℕ → E) → ((i : ℕ) → i < R.depth → Normal R i s (p i) × Stuck R n e S s v (p i))
      → ((i : ℕ) → i < R.depth → Best R n e S i s (p i)) × ((v' : ℕ → ℕ) → Keeps R n e S s v p v' → Complete R n e S (suc s) v')
  store_stands s v bound complete p stuck = (best, next)
    where
      inside : Completeˡ C s v
      inside = complete_to s v complete

      best : (i : ℕ) → i < R.depth → Best R n e S i s (p i)
      best i hi =
          best_from i s (p i) hi (stuck i hi).0
          (Completes.best_stuck C chain s v bound inside i (Bridge.lift L (p i)) (normal_to i s (p i) (stuck i hi).0) (stuck_to i s v (p i) hi bound (stuck i hi).0 (stuck i hi).1))

      next : (v' : ℕ → ℕ) → Keeps R n e S s v p v' → Complete R n e S (suc s) v'
      next v' keeps = complete_from (suc s) v' (Completes.complete_next C chain s v bound inside (λ i. Bridge.lift L (p i)) v' (record {
        monic = λ i hi. normal_to i s (p i) (stuck i hi).0;
        stuck = λ i hi. stuck_to i s v (p i) hi bound (stuck i hi).0 (stuck i hi).1;
        smaller = keeps.smaller;
        kept = λ i q w hi first valued. kept i q w hi first valued (dec_lt w R.depth);
      }))
        where
          kept : (i q w : ℕ) → i < R.depth → First C s q (Bridge.lift L (p i)) → Valued C w (value C (Bridge.lift L (p i)) q) → Dec (w < R.depth) → v' q ≤ w
          kept i q w hi first valued (no h) = absurd (first.here (Valuations.valued_zero C chain w _ valued h))
          kept i q w hi first valued (yes h) =
              let normal = (stuck i hi).0 in
              let is = Bridge.lift_is L (p i) normal.lawful in
              keeps.kept i q w _ hi first.counts (zeros_from s q (p i) (Bridge.lift L (p i)) is normal.above first.zeros) h
              (subst (λ z. Split R z w valued.unit.0) (sym (place_is s (p i) (Bridge.lift L (p i)) is normal.above q first.counts).eq)
              (Bridge.split_from L n e S wide w (value C (Bridge.lift L (p i)) q) h valued))

pub store_stands_everywhere : {E : Type 0} {R : Ring E} (L : Laws R) → StoreStands R
store_stands_everywhere L n e S wide ok = store_stands L n e S wide ok
