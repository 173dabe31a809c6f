-- One test of an entry, and that the definitions yield the entry if it passes.
use Rattle.std.proofs.Common.{◌≡◌, ℕ, zero, suc, ◌+◌, ◌-◌, ◌*◌, ◌<◌, ◌≤◌, Bool, true, false, cond, not, ◌&&◌, ◌||◌, T, eqb, ltb, leb, ◌↔◌, List, [], ◌∷◌, length, get_or, sym, ap, ◌∙◌, subst, arith, eqb→eq, ltb→lt, leb→le, T_not}
use native.Mathlib.Decide.{dec_lt}
use lib.Dec.{not_T}
use lib.ListN.{get_or-eq_default}
use Rattle.std.specs.List.{AllByRecursion}
use Rattle.ring.specs.Ring.{Ring, Laws, UnitOf, power}
use Rattle.ring.proofs.Lifts as Lifts
use Rattle.inverses.proofs.Bases.{both_left, both_right, either}
use Rattle.inverses.proofs.Rule.{each_below, below_at}
use Rattle.recurrence.specs.declared.shape.Level.{Level}
use Rattle.recurrence.specs.Memory.{at}
use Rattle.recurrence.specs.Polynomials.{Lawful, Zero, Within, Degree, value, Obeys}
use Rattle.recurrence.specs.Words.{LawfulWords, Cancels, Least, Length}
use Rattle.recurrence.specs.Findings.{blank, long, Settled, extent, row, Formed, run_of}
use Rattle.recurrence.specs.Reductions.{Step, Rest, done, more, Coefficients}
use Rattle.recurrence.specs.Theorems.{Stands}
use Rattle.recurrence.proofs.Bridge as Bridge
use Rattle.recurrence.proofs.Continuations.{sum_same, run_begins, run_is}
use Rattle.recurrence.proofs.Rows as Rows
use Rattle.recurrence.proofs.Findings as Findings
use Rattle.known.specs.Entries.{Entry, channel, count, Finds, Yields}
use Rattle.known.proofs.Tests.{join, below_from, every, every_at, all, each_of, Finite}

-- a polynomial of which no step is possible is its only rest
rest_same : {E : Type 0} {R : Ring E} {l : ℕ → ℕ} {p : ℕ → ℕ → E} (r f : ℕ → E) → ((g : ℕ → E) → Step R l p f g → ⊥) → Rest R l p r f → (j : ℕ) → r j ≡ f j
rest_same r f none (done irreducible same) = same
rest_same r f none (more {g = g} step rest) = absurd (none g step)

module _ {E : Type 0} {R : Ring E} (F : Finite R) where
  abbrev none : E → Bool
  none a = F.same a R.zero

  same_from : {a b : E} → a ≡ b → T (F.same a b)
  same_from {a} e = subst (λ z. T (F.same a z)) e (F.same_is a)

  -- some element is the inverse of u
  abbrev unit : E → Bool
  unit u = not (F.each (λ w. not (F.same (R.mul u w) R.one)))

  unit_is : (u w : E) → UnitOf R u w → T (unit u)
  unit_is u w h = not_T (F.each test) (λ t. T_not (F.same (R.mul u w) R.one) (F.complete test t w h.right) (same_from h.product))
    where
      test : E → Bool
      test w = not (F.same (R.mul u w) R.one)

  module _ (n e : ℕ) (S : ℕ → ℕ → E) where
    -- the value of p, of degree m, is zero at every place
    abbrev pub cancels : ℕ → (ℕ → E) → Bool
    cancels m p = each_below (e - m) (λ k. each_below n (λ c. none (value R m p (S c) k)))

    -- no polynomial of degree m cancels that has the coefficients ps from j on, whatever it has before
    abbrev pub fails : ℕ → ℕ → List E → Bool
    fails m zero ps = not (cancels m (at R ps))
    fails m (suc j) ps = F.each (λ a. fails m j (a ∷ ps))

    -- u is no unit, or no polynomial of degree m with leading coefficient step^i u cancels
    abbrev pub fails_with : ℕ → ℕ → E → Bool
    fails_with i m u = not (unit u) || fails m m (R.mul (power R R.step i) u ∷ [])

    -- no polynomial of level i and of a degree below l cancels
    abbrev pub least : ℕ → ℕ → Bool
    least i l = each_below l (λ m. F.each (fails_with i m))

    -- the list p 0, .., p (j - 1), and then ps
    abbrev front : ℕ → (ℕ → E) → List E → List E
    front zero p ps = ps
    front (suc j) p ps = front j p (p j ∷ ps)

    front_at : (m j : ℕ) (p : ℕ → E) (ps : List E) → ((i : ℕ) → j + i ≤ m → at R ps i ≡ p (j + i)) → (k : ℕ) → k ≤ m → at R (front j p ps) k ≡ p k
    front_at m zero p ps h k b = h k (omega arith) ∙ ap p (omega arith)
    front_at m (suc j) p ps h k b = front_at m j p (p j ∷ ps) from k b
      where
        from : (i : ℕ) → j + i ≤ m → at R (p j ∷ ps) i ≡ p (j + i)
        from zero b = ap p (omega arith)
        from (suc i) b = h i (omega arith) ∙ ap p (omega arith)

    fails_at : (m j : ℕ) (p : ℕ → E) → Lawful R p → (ps : List E) → T (fails m j ps) → T (not (cancels m (at R (front j p ps))))
    fails_at m zero p lp ps t = t
    fails_at m (suc j) p lp ps t = fails_at m j p lp (p j ∷ ps) (F.complete (λ a. fails m j (a ∷ ps)) t (p j) (lp j))

    -- what cancels passes the test, by its coefficients up to its degree
    cancels_from : (m : ℕ) (p q : ℕ → E) → Degree R m p → Cancels R n e S p → ((j : ℕ) → j ≤ m → q j ≡ p j) → T (cancels m q)
    cancels_from m p q deg cancelled same =
        below_from (e - m) (λ k. each_below n (λ c. none (value R m q (S c) k)))
        (λ k hk. below_from n (λ c. none (value R m q (S c) k)) (λ c hc. same_from (at_place k c ∙ cancelled m deg k c (omega arith) hc)))
      where
        at_place : (k c : ℕ) → value R m q (S c) k ≡ value R m p (S c) k
        at_place k c = sum_same R (suc m) _ _ (λ j b. ap (λ z. R.mul z (S c (k + j))) (same j (omega arith)))

    -- the first m coefficients of a polynomial that would cancel are among those gone through
    least_is : Laws R → (i l : ℕ) → T (least i l) → Least R n e S i l
    least_is L i l t m p lp lead cancelled = by (dec_lt m l)
      where
        begins : m < l → T (fails m m (p m ∷ []))
        begins h =
            either (not (unit lead.unit)) (fails m m (R.mul (power R R.step i) lead.unit ∷ [])) (T (fails m m (p m ∷ [])))
            (λ t. absurd (T_not (unit lead.unit) t (unit_is lead.unit lead.top.unit.0 lead.top.unit.1)))
            (subst (λ z. T (fails m m (z ∷ []))) (sym lead.top.whole))
            (F.complete (fails_with i m) (below_at l (λ m. F.each (fails_with i m)) t m h) lead.unit lead.top.unit.1.left)

        same : (k : ℕ) → k ≤ m → at R (front m p (p m ∷ [])) k ≡ p k
        same = front_at m m p (p m ∷ []) last
          where
            last : (i : ℕ) → m + i ≤ m → at R (p m ∷ []) i ≡ p (m + i)
            last zero b = ap p (omega arith)
            last (suc i) b = absurd (omega arith)

        by : Dec (m < l) → l ≤ m
        by (no h) = omega arith
        by (yes h) =
            absurd (T_not (cancels m (at R (front m p (p m ∷ [])))) (fails_at m m p lp (p m ∷ []) (begins h))
            (cancels_from m p (at R (front m p (p m ∷ []))) (Bridge.degree_of L i m p lead) cancelled same))

  module _ (x : Entry E) where
    abbrev n : ℕ
    n = x.channels

    abbrev e : ℕ
    e = count R x

    abbrev S : ℕ → ℕ → E
    S = channel R x.words

    -- the length of level i, and its row
    abbrev l : ℕ → ℕ
    l i = long x.levels i

    abbrev p : ℕ → ℕ → E
    p i = row R e x.levels x.memory i

    abbrev cell : ℕ → ℕ → E
    cell i j = at R x.memory (i * (e + 1) + j)

    abbrev level : ℕ → List Bool
    level i =
        leb (l i) e
        ∷ (get_or x.levels i blank).found
        ∷ F.same (cell i (l i)) (power R R.step i)
        ∷ each_below (suc e) (λ j. leb j (l i) || none (cell i j))
        ∷ cancels n e S (l i) (p i)
        ∷ least n e S i (l i)
        ∷ []

    -- the entry's finding is one
    abbrev finds : List Bool
    finds =
        ltb 0 n
        ∷ each_below e (λ k. each_below n (λ c. R.lawful (S c k)))
        ∷ eqb (length x.levels) R.depth
        ∷ each_below (extent R e) (λ j. R.lawful (at R x.memory j))
        ∷ each_below R.depth (λ i. all (level i))
        ∷ []

    -- the run of the entry's finding
    abbrev known : ℕ → ℕ → E
    known = run_of R e x.levels x.memory S

    -- f, of degree m, cancels the run: it is zero at as many places as level 0 is long
    abbrev vanishes : ℕ → (ℕ → E) → Bool
    vanishes m f = each_below (l 0) (λ t. each_below n (λ c. none (value R m f (known c) t)))

    -- a is not step^v times a unit
    abbrev not_level : ℕ → E → E → Bool
    not_level v a u = not (unit u && F.same a (R.mul (power R R.step v) u))

    -- f, of degree m and leading coefficient a, is irreducible
    abbrev stays : ℕ → E → Bool
    stays m a = each_below R.depth (λ v. ltb m (l v) || F.each (not_level v a))

    -- the polynomial leaves k coefficients: none since it cancels the run, or all that it has
    abbrev leaves : List E × ℕ → List Bool
    leaves f =
        ltb 0 (length f.0)
        ∷ each_below (length f.0) (λ j. R.lawful (at R f.0 j))
        ∷ not (none (at R f.0 (length f.0 - 1)))
        ∷ ((eqb f.1 0 && vanishes (length f.0 - 1) (at R f.0)) || (eqb f.1 (length f.0) && stays (length f.0 - 1) (at R f.0 (length f.0 - 1))))
        ∷ []

    -- the entry is right; words that come next and polynomials tried are given only if it is settled
    abbrev pub right : List Bool
    right =
        all finds
        ∷ cond x.settled (leb (2 * l 0) e) (ltb e (2 * l 0))
        ∷ (leb (2 * l 0) e || eqb (length x.next + length x.tried) 0)
        ∷ each_below (length x.next) (λ t. each_below n (λ c. F.same (known c (e + t)) (channel R x.next c t)))
        ∷ every (λ f. all (leaves f)) x.tried
        ∷ []

    module _ (L : Laws R) (t : AllByRecursion T finds) where
      wide : 0 < n
      wide = ltb→lt 0 n t.0

      words : LawfulWords R n e S
      words k c hk hc = below_at n _ (below_at e (λ k. each_below n (λ c. R.lawful (S c k))) t.1.0 k hk) c hc

      at_level : (i : ℕ) → i < R.depth → AllByRecursion T (level i)
      at_level i hi = each_of (level i) (below_at R.depth (λ i. all (level i)) t.1.1.1.1.0 i hi)

      formed : Formed R e x.levels x.memory
      formed = record {
        short = λ i hi. leb→le (l i) e (at_level i hi).0;
        marked = λ i hi. (at_level i hi).1.0;
        leads = λ i hi. F.is_same _ _ (at_level i hi).1.1.0;
      }

      cancelled : (i : ℕ) → i < R.depth → Cancels R n e S (p i)
      cancelled i hi m deg k c hk hc = here (Bridge.degree_once L m (l i) (p i) deg (Rows.row_degree R e x.levels x.memory formed L i hi))
        where
          here : m ≡ l i → value R m (p i) (S c) k ≡ R.zero
          here same =
              let zero_there = below_at n _ (below_at (e - l i) (λ k. each_below n (λ c. none (value R (l i) (p i) (S c) k))) (at_level i hi).1.1.1.1.0 k (omega arith)) c hc in
              rw same (F.is_same _ _ zero_there)

      pub found : Finds R x x.levels x.memory
      found = record {
        formed = formed;
        rest = λ i past _. get_or-eq_default x.levels blank (omega (arith, eqb→eq (length x.levels) R.depth t.1.1.0));
        lawful = below_at (extent R e) _ t.1.1.1.0;
        above = λ i j hi past within.
            either (leb j (l i)) (none (cell i j)) (cell i j ≡ R.zero) (λ le. absurd (omega (arith, leb→le j (l i) le))) (F.is_same _ _)
            (below_at (suc e) (λ j. leb j (l i) || none (cell i j)) (at_level i hi).1.1.1.0 j (omega arith));
        cancels = cancelled;
        least = λ i hi. least_is n e S L i (l i) (at_level i hi).1.1.1.1.1.0;
      }

      abbrev stands : Stands R n e S x.levels x.memory
      stands = record { wide = wide; words = words; finding = found }

      pub lengths : (i : ℕ) → i < R.depth → Length R n e S i (l i)
      lengths i hi = (Findings.rows_shortest L n e S x.levels x.memory stands i hi).1

      -- any other finding of the words
      module _ (levels : List Level) (fm : List E) (other : Finds R x levels fm) where
        abbrev others : Stands R n e S levels fm
        others = record { wide = wide; words = words; finding = other }

        same_length : (i : ℕ) → i < R.depth → long levels i ≡ l i
        same_length i hi =
            let there = (Findings.rows_shortest L n e S levels fm others i hi).1 in
            let down = (Findings.all_lengths_fall L n e S wide words i i (l i) (long levels i) (omega arith) hi (lengths i hi) there).0 in
            let up = (Findings.all_lengths_fall L n e S wide words i i (long levels i) (l i) (omega arith) hi there (lengths i hi)).0 in
            omega arith

      deep : 0 < R.depth
      deep = L.depth_low

      -- from here on the entry is settled
      module _ (half : 2 * l 0 ≤ e) where
        lowest : Lawful R (p 0)
        lowest = Rows.row_lawful R e x.levels x.memory formed L found.lawful 0 deep

        known_lawful : (c : ℕ) → c < n → Lawful R (known c)
        known_lawful c hc k = Lifts.ok L (run_is L n e S words (l 0) (p 0) lowest (formed.short 0 deep) c hc k)

        known_obeys : (c : ℕ) → c < n → Obeys R (l 0) (p 0) (known c)
        unfolding power
        known_obeys c hc = record {
          lawful = lowest;
          monic = record { above = Rows.row_past R e x.levels x.memory 0; top = Rows.row_top R e x.levels x.memory formed 0 deep };
          cancels = λ t. Findings.rows_cancel_run L n e S x.levels x.memory stands half 0 deep (l 0) (Rows.row_degree R e x.levels x.memory formed L 0 deep) t c hc;
        }

        module _ (levels : List Level) (fm : List E) (other : Finds R x levels fm) where
          same_run : (c k : ℕ) → c < n → run_of R e levels fm S c k ≡ known c k
          same_run =
              Findings.finding_foretells L n e S levels fm (others levels fm other) known (l 0) (p 0) half (λ c hc. (known_lawful c hc, known_obeys c hc))
              (λ k c hk hc. sym (run_begins R e S (l 0) (p 0) c k hk))

          still_settled : Settled e levels
          still_settled = omega (arith, same_length levels fm other 0 deep)

          -- a polynomial that passes its test
          module _ (f : List E) (some : 0 < length f) (lf : T (each_below (length f) (λ j. R.lawful (at R f j)))) (top : T (not (none (at R f (length f - 1))))) where
            abbrev m : ℕ
            m = length f - 1

            past : Within R (length f) (at R f)
            past j h = get_or-eq_default f R.zero h

            lawful_f : Lawful R (at R f)
            lawful_f j = by (dec_lt j (length f))
              where
                by : Dec (j < length f) → T (R.lawful (at R f j))
                by (yes h) = below_at (length f) _ lf j h
                by (no h) = Bridge.zero_lawful L (past j (omega arith))

            degree : Degree R m (at R f)
            degree = record { above = λ j h. past j (omega arith); top = λ z. T_not (none (at R f m)) top (same_from z) }

            module _ (r : ℕ → E) (rest : Rest R (long levels) (row R e levels fm) r (at R f)) where
              vanished : T (vanishes m (at R f)) → Coefficients R 0 r
              vanished v = record { past = λ j _. zero_rest j; last = λ j h. absurd (omega arith) }
                where
                  begins : (c : ℕ) → c < n → (t : ℕ) → t < l 0 → value R m (at R f) (known c) t ≡ R.zero
                  begins c hc t ht = F.is_same _ _ (below_at n _ (below_at (l 0) (λ t. each_below n (λ c. none (value R m (at R f) (known c) t))) v t ht) c hc)

                  on_run : (k c : ℕ) → c < n → value R m (at R f) (run_of R e levels fm S c) k ≡ R.zero
                  on_run k c hc =
                      sum_same R (suc m) _ _ (λ j _. ap (R.mul (at R f j)) (same_run c (k + j) hc))
                      ∙ Findings.recurrence_settles L (l 0) (p 0) (known c) (known_obeys c hc) (known_lawful c hc) m (at R f) lawful_f (begins c hc) k

                  zero_rest : Zero R r
                  zero_rest =
                      (Findings.finding_rest_tells L n e S levels fm (others levels fm other) still_settled (at R f) r (length f) lawful_f past rest).1
                      (λ m' deg k c hc. rw (Bridge.degree_once L m' m (at R f) deg degree) (on_run k c hc))

              stayed : T (stays m (at R f m)) → Coefficients R (length f) r
              stayed s = record {
                past = λ j h. kept j ∙ past j h;
                last = λ j h z. degree.top (ap (at R f) (let e : m ≡ j = omega arith in e) ∙ sym (kept j) ∙ z);
              }
                where
                  no_step : (g : ℕ → E) → Step R (long levels) (row R e levels fm) (at R f) g → ⊥
                  no_step g step = by
                      (Bridge.degree_once L step.degree m (at R f) (Bridge.degree_of L step.level step.degree (at R f) step.leads) degree)
                      (same_length levels fm other step.level step.leads.within)
                    where
                      v : ℕ
                      v = step.level

                      u : E
                      u = step.leads.unit

                      by : step.degree ≡ m → long levels v ≡ l v → ⊥
                      by at_top as_long =
                          either (ltb m (l v)) (F.each (not_level v (at R f m))) ⊥ (λ h. omega (arith, ltb→lt m (l v) h, step.far))
                          (λ h. T_not (unit u && F.same (at R f m) (R.mul (power R R.step v) u)) (F.complete (not_level v (at R f m)) h u step.leads.top.unit.1.left)
                          (join (unit u) _ (unit_is u step.leads.top.unit.0 step.leads.top.unit.1) (same_from (ap (at R f) (sym at_top) ∙ step.leads.top.whole))))
                          (below_at R.depth (λ v. ltb m (l v) || F.each (not_level v (at R f m))) s v step.leads.within)

                  kept : (j : ℕ) → r j ≡ at R f j
                  kept = rest_same r (at R f) no_step rest

          left : (f : List E × ℕ) → T (all (leaves f)) → (r : ℕ → E) → Rest R (long levels) (row R e levels fm) r (at R f.0) → Coefficients R f.1 r
          left f t r rest =
              let parts = each_of (leaves f) t in
              let some = ltb→lt 0 (length f.0) parts.0 in
              let none_left = vanishes (length f.0 - 1) (at R f.0) in
              let all_left = stays (length f.0 - 1) (at R f.0 (length f.0 - 1)) in
              either (eqb f.1 0 && none_left) (eqb f.1 (length f.0) && all_left) (Coefficients R f.1 r)
              (λ h. subst (λ k. Coefficients R k r) (sym (eqb→eq f.1 0 (both_left _ none_left h)))
              (vanished f.0 some parts.1.0 parts.1.1.0 r rest (both_right (eqb f.1 0) none_left h)))
              (λ h. subst (λ k. Coefficients R k r) (sym (eqb→eq f.1 (length f.0) (both_left _ all_left h)))
              (stayed f.0 some parts.1.0 parts.1.1.0 r rest (both_right (eqb f.1 (length f.0)) all_left h)))
              parts.1.1.1.0

    says : (b : Bool) (k : ℕ) → T (cond b (leb k e) (ltb e k)) → (k ≤ e) ↔ T b
    says true k t = ((λ _. tt), (λ _. leb→le k e t))
    says false k t = ((λ h. omega (arith, ltb→lt e k t)), (λ z. absurd z))

    -- The lemma: the definitions yield an entry that passes the test.
    pub yields : Laws R → T (all right) → Yields R x
    yields L t = record {
      finding = found L finding;
      lengths = lengths L finding;
      settled = λ levels fm other. subst (λ k. (2 * k ≤ e) ↔ T x.settled) (sym (same_length L finding levels fm other 0 L.depth_low)) (says x.settled (2 * l 0) parts.1.0);
      next = λ levels fm other t c ht hc.
          same_run L finding (half (omega arith)) levels fm other c (e + t) hc
          ∙ F.is_same _ _ (below_at n _ (below_at (length x.next) (λ t. each_below n (λ c. F.same (known c (e + t)) (channel R x.next c t))) parts.1.1.1.0 t ht) c hc);
      left = λ levels fm other j hj.
          left L finding (half (omega arith)) levels fm other (get_or x.tried j ([], 0)) (every_at (λ f. all (leaves f)) x.tried parts.1.1.1.1.0 j ([], 0) hj);
    }
      where
        parts : AllByRecursion T right
        parts = each_of right t

        finding : AllByRecursion T finds
        finding = each_of finds parts.0

        half : 0 < length x.next + length x.tried → 2 * l 0 ≤ e
        half some =
            either (leb (2 * l 0) e) (eqb (length x.next + length x.tried) 0) (2 * l 0 ≤ e) (leb→le (2 * l 0) e)
            (λ h. absurd (omega (arith, eqb→eq (length x.next + length x.tried) 0 h))) parts.1.1.0
