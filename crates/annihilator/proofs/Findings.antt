-- From the levels as the search leaves them to a finding of the words.
use Rattle.std.proofs.Common.{◌≡◌, ℕ, ◌+◌, ◌*◌, ◌/◌, ◌%◌, ◌<◌, ◌≤◌, Bool, true, false, T, ◌⊎◌, List, ◌++◌, length, get_or, drop, sym, refl, ap, ◌∙◌, subst, inl, inr, mod-lt, div-lt_iff_lt-mul, mul-le-mul, arith, get_or-drop, get_or-take}
use mathlib.Core.Path.{fun_ext}
use native.Mathlib.Nat.{mod-add-div'}
use native.Mathlib.Decide.{dec_lt}
use lib.Seq.{take-append-le}
use Rattle.std.proofs.lemmas.Slice.{between_is}
use Rattle.ring.specs.Ring.{Ring, Laws, power}
use Rattle.ring.specs.Lawful.{Lawful as Element, cells}
use Rattle.ring.proofs.Lifts as Lifts
use Rattle.recurrence.specs.declared.shape.Shape.{Shape}
use Rattle.recurrence.specs.declared.shape.Level.{Level}
use Rattle.recurrence.specs.Memory.{at}
use Rattle.recurrence.specs.Polynomials.{Degree}
use Rattle.recurrence.specs.Words.{words, LawfulWords, Cancels, Least}
use Rattle.recurrence.specs.Findings.{blank, long, extent, row, Finding}
use Rattle.recurrence.proofs.Captures.{Capture, Monic}
use Rattle.recurrence.proofs.Bridge as Bridge
use Rattle.recurrence.proofs.Rows.{row_at, row_past}
use Rattle.places.specs.Places.{capture_of}
use Rattle.places.proofs.Places.{wide, row_within}
use Rattle.elimination.proofs.Parts.{part_none}
use Rattle.recurrence.specs.Lent.{ShortWords, ShortFinding}
use Rattle.annihilator.specs.Calls.{work_size}
use Rattle.levels.specs.Levels.{row_of, Found}
use Rattle.levels.specs.Rounds.{Ready, Solved}
use Rattle.levels.proofs.Turns.{part_row}

module _ {E : Type 0} (R : Ring E) (shape : Shape) (ws fm work : List E) (fits : extent R shape.count.words ≤ length fm) (room : work_size R shape ≤ length work) where
  -- no memory is short
  pub enough : ¬ ShortWords shape ws → ¬ (ShortWords shape ws ⊎ (ShortFinding R shape fm ⊎ (length work < work_size R shape)))
  enough held (inl s) = held s
  enough held (inr (inl s)) = omega arith
  enough held (inr (inr s)) = omega arith

-- the store lies within work memory
pub store_within : (shape : Shape) (d : ℕ) → shape.count.words * shape.channels * (shape.count.words + 2) ≤ (shape.count.words * shape.channels + 2 * d + 12) * (shape.count.words + shape.channels + 1)
store_within shape d =
    mul-le-mul {n₁ = shape.count.words * shape.channels} {m₁ = shape.count.words + 2} {n₂ = shape.count.words * shape.channels + 2 * d + 12} {m₂ = shape.count.words + shape.channels + 1}
    (omega arith) (omega (arith, wide shape))

module _ {E : Type 0} {R : Ring E} (L : Laws R) (shape : Shape) (ws : List E) where
  abbrev C : Capture (Element L)
  C = capture_of L shape ws

  abbrev n : ℕ
  n = shape.channels

  abbrev e : ℕ
  e = shape.count.words

  abbrev S : ℕ → ℕ → E
  S = words R shape ws

  -- no row has a coefficient past its end
  top_within : (i m : ℕ) (fm : List E) → i < R.depth → Monic C i m (cells L (row_of shape fm i)) → m < e + 1
  top_within i m fm h monic = by (dec_lt m (e + 1))
    where
      by : Dec (m < e + 1) → m < e + 1
      by (yes k) = k
      by (no k) = absurd (L.power_not i h ((Lifts.power_is L i).eq ∙ ap (λ z. z.0) (sym monic.top ∙ part_none L fm (i * (e + 1)) (e + 1) m (omega arith)) ∙ sym (Lifts.zero_is L refl).eq))

  -- after the last degree every level is found
  pub solved : (s : ℕ) (fm store : List E) (levels : List Level) (places : List ℕ) → Ready L shape ws fm levels places s store → e < s → Solved L shape ws fm levels
  solved s fm store levels places ready past = record {
    marked = λ i h. is i h (get_or levels i blank).found refl;
    found = λ i h. let f = (ready.before i h).done (is i h (get_or levels i blank).found refl) in
        record { lawful = f.lawful; answer = f.answer; small = omega (arith, top_within i (get_or levels i blank).length fm h f.answer.monic) };
    rest = ready.tables.rest;
  }
    where
      is : (i : ℕ) → i < R.depth → (b : Bool) → (get_or levels i blank).found ≡ b → (get_or levels i blank).found ≡ true
      is i h true k = k
      is i h false k = absurd (omega (arith, past, top_within i s fm h ((ready.before i h).going k).monic))

  -- in larger memory
  pub solved_in : (new rest : List E) (levels : List Level) → R.depth * (e + 1) ≡ length new → Solved L shape ws new levels → Solved L shape ws (new ++ rest) levels
  solved_in new rest levels size s = record {
    marked = s.marked;
    found = λ i h. subst (λ r. Found L shape ws e i r (get_or levels i blank).length) (sym (same i h)) (s.found i h);
    rest = s.rest;
  }
    where
      same : (i : ℕ) → i < R.depth → row_of shape (new ++ rest) i ≡ row_of shape new i
      same i h =
          let end : i * (e + 1) + (e + 1) ≤ length new = row_within i (e + 1) R.depth (length new) h size in
          let b = i * (e + 1) + (e + 1) in
          sym (part_row shape (new ++ rest) (i * (e + 1)) i refl) ∙ between_is (new ++ rest) (i * (e + 1)) b
          ∙ ap (drop (i * (e + 1))) (take-append-le b new rest end) ∙ sym (between_is new (i * (e + 1)) b) ∙ part_row shape new (i * (e + 1)) i refl

  module _ (lawful : LawfulWords R n e S) (fm : List E) (levels : List Level) (s : Solved L shape ws fm levels) where
    f : ℕ → ℕ → Element L
    f i = cells L (row_of shape fm i)

    row_is : (i j : ℕ) → j < e + 1 → at R (row_of shape fm i) j ≡ at R fm (i * (e + 1) + j)
    row_is i j h = get_or-take (e + 1) (drop (i * (e + 1)) fm) j R.zero h ∙ get_or-drop (i * (e + 1)) fm j R.zero

    cell_at : (i j : ℕ) → i < R.depth → j < e + 1 → at R fm (i * (e + 1) + j) ≡ (f i j).0
    unfolding f
    cell_at i j h b = sym (row_is i j b) ∙ (Lifts.cell_is L (row_of shape fm i) j (s.found i h).lawful).eq

    above : (i j : ℕ) → i < R.depth → long levels i < j → (f i j).0 ≡ R.zero
    unfolding f
    above i j h b = Bridge.from_zero L (Bridge.raw_is L (f i j)) ((s.found i h).answer.monic.below j b)

    top : (i : ℕ) → i < R.depth → (f i (long levels i)).0 ≡ power R R.step i
    unfolding f
    top i h = ap (λ z. z.0) (s.found i h).answer.monic.top ∙ sym (Lifts.power_is L i).eq

    -- the row of the finding has the same coefficients
    row_raw : (i : ℕ) → i < R.depth → row R e levels fm i ≡ Bridge.raw L (f i)
    row_raw i h = fun_ext (λ j. by j (dec_lt (long levels i) j))
      where
        by : (j : ℕ) → Dec (long levels i < j) → row R e levels fm i j ≡ (f i j).0
        by j (yes b) = row_past R e levels fm i j b ∙ sym (above i j h b)
        by j (no b) = row_at R e levels fm i j (omega arith) ∙ cell_at i j h (omega (arith, (s.found i h).small))

    degree : (i : ℕ) → i < R.depth → Degree R (long levels i) (Bridge.raw L (f i))
    degree i h = record { above = λ j b. above i j h (omega arith); top = λ z. L.power_not i h (sym (top i h) ∙ z) }

    cancels : (i : ℕ) → i < R.depth → Cancels R n e S (row R e levels fm i)
    unfolding f
    cancels i h = subst (Cancels R n e S) (sym (row_raw i h))
        (Bridge.cancels_from L n e S (wide shape) lawful (long levels i) (f i) (degree i h) (s.found i h).answer.monic.below (s.found i h).answer.cancels)

    least : (i : ℕ) → i < R.depth → Least R n e S i (long levels i)
    least i h m p lp lead cancel =
        (s.found i h).answer.least m (Bridge.lift L p) (Bridge.leads_to L n e S (wide shape) i m p lp lead)
        (Bridge.cancels_to L n e S (wide shape) lawful m p lp (Bridge.degree_of L i m p lead) cancel)

    element : (j : ℕ) → j < extent R e → T (R.lawful (at R fm j))
    element j h =
        let i = j / (e + 1) in
        let within : i < R.depth = (div-lt_iff_lt-mul {k = e + 1} {x = j} {y = R.depth} (omega arith)).1 h in
        let where_is : i * (e + 1) + j % (e + 1) ≡ j = omega (arith, mod-add-div' j (e + 1)) in
        let short : j % (e + 1) < e + 1 = mod-lt j (omega arith) in
        subst (λ z. T (R.lawful z)) (row_is i (j % (e + 1)) short ∙ ap (at R fm) where_is) ((s.found i within).lawful (j % (e + 1)))

    pub finding_of : Finding R e levels fm n S
    finding_of = record {
      formed = record {
        short = λ i h. (s.found i h).small;
        marked = λ i h. subst T (sym (s.marked i h)) tt;
        leads = λ i h. cell_at i (long levels i) h (omega (arith, (s.found i h).small)) ∙ top i h;
      };
      rest = λ i h _. s.rest i h;
      lawful = element;
      above = λ i j h b c. cell_at i j h (omega arith) ∙ above i j h b;
      cancels = cancels;
      least = least;
    }
