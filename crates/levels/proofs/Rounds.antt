-- The store stays complete over a whole round.
use Rattle.std.proofs.Common.{◌≡◌, ℕ, suc, ◌+◌, ◌-◌, ◌*◌, ◌<◌, ◌≤◌, Bool, true, false, not, Option, is_some, unwrap_or, List, length, get_or, take, drop, set, replicate, sym, refl, ◌∙◌, subst, inl, inr, arith, get_or-set_same}
use native.Mathlib.Decide.{dec_lt}
use borrow.Rule.Slice.PartMut.{put_mid}
use Rattle.std.proofs.lemmas.List.{get_or-replicate, length-replicate, get_or_past}
use Rattle.ring.specs.Ring.{Ring, Laws}
use Rattle.ring.specs.Lawful.{Lawful, lifted, cells, level_of}
use Rattle.recurrence.specs.declared.shape.Shape.{Shape}
use Rattle.recurrence.specs.declared.shape.Level.{Level}
use Rattle.recurrence.specs.Findings.{blank}
use Rattle.recurrence.proofs.Polynomials.{shift}
use Rattle.recurrence.proofs.Captures.{Capture, Monic, Valued, value, First, Cancels}
use Rattle.recurrence.proofs.Complete.{Stuck}
use Rattle.recurrence.proofs.Completes as Completes
use Rattle.recurrence.proofs.Valuations as Val
use Rattle.places.specs.Places.{capture_of}
use Rattle.rows.specs.Rows.{Clear}
use Rattle.elimination.specs.Stores.{Store, kept_level, kept_row, Grown, Eliminated}
use Rattle.places.proofs.Places.{counts_place}
use Rattle.places.proofs.Values.{chain, valued_level}
use Rattle.rows.proofs.Scalings.{clear_lawful, clear_cell}
use Rattle.elimination.proofs.Parts.{part_cell, part_none}
use Rattle.levels.specs.Levels.{row_of, Found, Open, Stopped, Before, After, Less, Served}
use Rattle.levels.specs.Rounds.{Whole, Tables, AllAfter}
use Rattle.levels.proofs.Levels.{level_bound, ended, reduced, reduced_less}
use Rattle.levels.proofs.Shifts as Shifts
use Rattle.levels.proofs.Turns.{Turn, part_row, put_here, turn_put, turn_done, turn_rest, turned}

pub get_or_same : {A : Type 0} (n i : ℕ) (a : A) → get_or (replicate n a) i a ≡ a
get_or_same n i a = at (dec_lt i n)
  where
    at : Dec (i < n) → get_or (replicate n a) i a ≡ a
    at (yes h) = get_or-replicate n i a a h
    at (no h) = get_or_past (replicate n a) i a (omega (arith, length-replicate n a))

abbrev choice : {A : Type 0} → Bool → A → A → A
choice true a b = a
choice false a b = b

module _ {E : Type 0} {R : Ring E} (L : Laws R) (shape : Shape) (ws : List E) where
  abbrev C : Capture (Lawful L)
  C = capture_of L shape ws

  abbrev e : ℕ
  e = shape.count.words

  -- the level's polynomial of degree s: what was found, times a power of y, or its row
  abbrev current : ℕ → Level → List E → Bool → ℕ → Lawful L
  current s l row b = choice b (shift (lifted L) (s - l.length) (cells L row)) (cells L row)

  module _ (s : ℕ) (small : s ≤ e) where
    found_monic : (i : ℕ) (row : List E) (m : ℕ) → Found L shape ws s i row m → Monic C i s (shift (lifted L) (s - m) (cells L row))
    found_monic i row m f =
        let e' : s - m + m ≡ s = omega (arith, f.small) in
        subst (λ z. Monic C i z (shift (lifted L) (s - m) (cells L row))) e' (Shifts.shift_monic C (chain L shape ws) (s - m) i m (cells L row) f.answer.monic)

    found_cancels : (i : ℕ) (row : List E) (m : ℕ) → Found L shape ws s i row m → Cancels C s (shift (lifted L) (s - m) (cells L row))
    found_cancels i row m f =
        let e' : s - m + m ≡ s = omega (arith, f.small) in
        subst (λ z. Cancels C z (shift (lifted L) (s - m) (cells L row))) e' (Shifts.cancels_shift C (chain L shape ws) (s - m) m (cells L row) f.answer.monic.below (omega (arith, f.small)) f.answer.cancels)

    stopped_first : (i : ℕ) (row : List E) (q : ℕ) → Stopped L shape ws s i row q → First C s q (cells L row)
    stopped_first i row q st = record { counts = counts_place shape q s small st.within; zeros = st.zeros; here = st.here }

    first_once : (q q' : ℕ) (p : ℕ → Lawful L) → First C s q p → First C s q' p → q ≡ q'
    first_once q q' p x y = at (dec_lt q q') (dec_lt q' q)
      where
        at : Dec (q < q') → Dec (q' < q) → q ≡ q'
        at (yes h) _ = absurd (x.here (y.zeros q h x.counts))
        at (no h) (yes k) = absurd (y.here (x.zeros q' k y.counts))
        at (no h) (no k) = omega arith

    module _ (i : ℕ) (row : List E) (l : Level) (place : ℕ) (after : After L shape ws s i row l place) where
      current_monic : (b : Bool) → l.found ≡ b → Monic C i s (current s l row b)
      current_monic true h = found_monic i row l.length (after.done h)
      current_monic false h = (after.stopped h).monic

      current_stuck : (store : List E) → Less L shape ws row l place store → (b : Bool) → l.found ≡ b → Stuck C s (kept_level L shape store) (current s l row b)
      current_stuck store less true h = inl (found_cancels i row l.length (after.done h))
      current_stuck store less false h = inr (place, _, stopped_first i row place (after.stopped h), valued_level L shape ws (value C (cells L row) place), less h)

      current_kept : (new : List E) → Served L shape ws row l place new → (q w : ℕ) (b : Bool) → l.found ≡ b
          → First C s q (current s l row b) → Valued C w (value C (current s l row b) q) → kept_level L shape new q ≤ w
      current_kept new served q w true h first valued = absurd (first.here (found_cancels i row l.length (after.done h) q first.counts))
      current_kept new served q w false h first valued =
          let there : q ≡ place = first_once q place (cells L row) first (stopped_first i row place (after.stopped h)) in
          subst (λ z. kept_level L shape new z ≤ w) (sym there)
          (let valued' : Valued C w (value C (cells L row) place) = subst (λ z. Valued C w (value C (cells L row) z)) there valued in
          omega (arith, served h, Val.valued_once C (chain L shape ws) (level_of L (value C (cells L row) place)) w (value C (cells L row) place) (valued_level L shape ws (value C (cells L row) place)) valued'))

    pub whole_next : (rows : ℕ → List E) (l : ℕ → Level) (p : ℕ → ℕ) (store new : List E) → Whole L shape ws s store
        → ((i : ℕ) → i < R.depth → After L shape ws s i (rows i) (l i) (p i)) → ((i : ℕ) → i < R.depth → Less L shape ws (rows i) (l i) (p i) store)
        → ((i : ℕ) → i < R.depth → Served L shape ws (rows i) (l i) (p i) new) → Grown L shape ws (suc s) store new → Whole L shape ws (suc s) new
    whole_next rows l p store new whole after less served grown =
        Completes.complete_next C (chain L shape ws) s (kept_level L shape store) (level_bound L shape ws store) whole (λ i. current s (l i) (rows i) (l i).found) (kept_level L shape new) (record {
          monic = λ i h. current_monic i (rows i) (l i) (p i) (after i h) (l i).found refl;
          stuck = λ i h. current_stuck i (rows i) (l i) (p i) (after i h) store (less i h) (l i).found refl;
          smaller = grown.smaller;
          kept = λ i q w h. current_kept i (rows i) (l i) (p i) (after i h) new (served i h) q w (l i).found refl;
        })

  pub grown_start : (s : ℕ) (store : List E) → Store L shape ws s store → Grown L shape ws (suc s) store store
  grown_start s store kept = record {
    store = record { lawful = kept.lawful; size = kept.size; kept = λ q. let k = kept.kept q in record { below = λ j h. k.below j (omega arith); zeros = k.zeros; is = k.is } };
    smaller = λ q. omega arith;
  }

  pub grown_on : (s : ℕ) (store mid new : List E) → Grown L shape ws s store mid → Grown L shape ws s mid new → Grown L shape ws s store new
  grown_on s store mid new x y = record { store = y.store; smaller = λ q. omega (arith, x.smaller q, y.smaller q) }

  pub grown_same : (s : ℕ) (store mid : List E) → Grown L shape ws s store mid → Grown L shape ws s mid mid
  grown_same s store mid g = record { store = g.store; smaller = λ q. omega arith }

  -- what serves the levels before i goes on to do so, and so i + 1 are served
  pub served_next : (s i : ℕ) (rows : ℕ → List E) (l : ℕ → Level) (p : ℕ → ℕ) (store new : List E) → Grown L shape ws s store new
      → ((j : ℕ) → j < i → Served L shape ws (rows j) (l j) (p j) store) → Served L shape ws (rows i) (l i) (p i) new → (j : ℕ) → j < i + 1 → Served L shape ws (rows j) (l j) (p j) new
  served_next s i rows l p store new grown before here j h = at (dec_lt j i)
    where
      at : Dec (j < i) → Served L shape ws (rows j) (l j) (p j) new
      at (yes b) = λ o. omega (arith, before j b o, grown.smaller (p j))
      at (no b) = let e' : i ≡ j = omega arith in subst (λ z. Served L shape ws (rows z) (l z) (p z) new) e' here

  -- while the levels at degree s are reduced: those before i are, and the others are as before
  pub record Reducing (s i : ℕ) (fm : List E) (levels : List Level) (places : List ℕ) (store : List E) : Type 0 where
    pub tables : Tables L shape ws fm levels places
    pub before : (j : ℕ) → j < R.depth → i ≤ j → Before L shape ws s j (row_of shape fm j) (get_or levels j blank) (get_or places j 0)
    pub after : (j : ℕ) → j < i → After L shape ws s j (row_of shape fm j) (get_or levels j blank) (get_or places j 0)
    pub less : (j : ℕ) → j < i → Less L shape ws (row_of shape fm j) (get_or levels j blank) (get_or places j 0) store

  -- while they are kept: those before i are, and the others are as before
  pub record Keeping (s i : ℕ) (fm fm' : List E) (levels : List Level) (places places' : List ℕ) (store store' : List E) : Type 0 where
    pub tables : Tables L shape ws fm' levels places'
    pub grown : Grown L shape ws (suc s) store store'
    pub row : (j : ℕ) → j < R.depth → i ≤ j → row_of shape fm' j ≡ row_of shape fm j
    pub place : (j : ℕ) → j < R.depth → i ≤ j → get_or places' j 0 ≡ get_or places j 0
    pub before : (j : ℕ) → j < i → Before L shape ws (suc s) j (row_of shape fm' j) (get_or levels j blank) (get_or places' j 0)
    pub served : (j : ℕ) → j < i → Served L shape ws (row_of shape fm j) (get_or levels j blank) (get_or places j 0) store'

  module _ (i : ℕ) (fm fm' : List E) (levels levels' : List Level) (places places' : List ℕ) (turn : Turn shape i fm fm' levels levels' places places') (below : i < R.depth) where
    tables_turn : Tables L shape ws fm levels places → Tables L shape ws fm' levels' places'
    tables_turn t = record {
      size = t.size ∙ sym turn.size;
      room = turn.room ∙ t.room;
      place_room = turn.place_room ∙ t.place_room;
      rest = λ j b. turn.level j (omega arith) ∙ t.rest j b;
    }

    -- one more level is reduced
    pub reducing_next : (s : ℕ) (store : List E) → Reducing s i fm levels places store
        → After L shape ws s i (row_of shape fm' i) (get_or levels' i blank) (get_or places' i 0)
        → Less L shape ws (row_of shape fm' i) (get_or levels' i blank) (get_or places' i 0) store
        → Reducing s (i + 1) fm' levels' places' store
    reducing_next s store r after less = record {
      tables = tables_turn r.tables;
      before = turn_rest shape (λ j row l p. Before L shape ws s j row l p) i fm fm' levels levels' places places' turn R.depth r.before;
      after = turn_done shape (λ j row l p. After L shape ws s j row l p) i fm fm' levels levels' places places' turn r.after after;
      less = turn_done shape (λ j row l p. Less L shape ws row l p store) i fm fm' levels levels' places places' turn r.less less;
    }

  -- one more row is reduced until it is stuck at a place, or cancels the words; then its place is the end
  pub reduced_next : (s i a : ℕ) (fm new : List E) (levels : List Level) (places : List ℕ) (store : List E) (place : Option ℕ) (found : Bool) (end q : ℕ)
      → a ≡ i * (e + 1) → a + (e + 1) ≤ length fm → length new ≡ e + 1 → i < R.depth → s ≤ e → Whole L shape ws s store → Reducing s i fm levels places store → (get_or levels i blank).found ≡ false
      → Eliminated L shape ws s (take (a + (e + 1) - a) (drop a fm)) new store place → is_some place ≡ not found → q ≡ unwrap_or place end
      → Reducing s (i + 1) (put_mid a (a + (e + 1) - a) fm new) (set levels i (ended L shape ws s found)) (set places i q) store
  reduced_next s i a fm new levels places store place found end q ea room len below small whole inv going done is at =
      let op = subst (λ r. Open L shape ws s i r (get_or places i 0)) (sym (part_row shape fm a i ea)) ((inv.before i below (omega arith)).going going) in
      let er = put_here shape i a fm new ea room len in
      let el = get_or-set_same levels i (ended L shape ws s found) blank (omega (arith, inv.tables.room, L.depth_high)) in
      let ep = get_or-set_same places i q 0 (omega (arith, inv.tables.place_room, L.depth_high)) in
      reducing_next i fm _ levels _ places _ (turn_put shape i a fm new levels (ended L shape ws s found) places q ea room len) below s store inv
      (turned shape (λ r l p. After L shape ws s i r l p) er el ep (reduced L shape ws s i (get_or places i 0) _ new store small whole op done.row done.top place found end q is at done.ends))
      (turned shape (λ r l p. Less L shape ws r l p store) er el ep (reduced_less L shape ws s i (get_or places i 0) _ new store small whole op done.row done.top place found end q is at done.ends))

  -- the level i, which is not kept yet, as it was reduced
  pub keeping_after : (s i : ℕ) (fm fm' : List E) (levels : List Level) (places places' : List ℕ) (store store' : List E) → i < R.depth
      → Keeping s i fm fm' levels places places' store store' → AllAfter L shape ws fm levels places s
      → After L shape ws s i (row_of shape fm' i) (get_or levels i blank) (get_or places' i 0)
  keeping_after s i fm fm' levels places places' store store' below k after =
      turned shape (λ r l p. After L shape ws s i r l p) (k.row i below (omega arith)) refl (k.place i below (omega arith)) (after i below)

  -- one more level is kept
  pub keeping_next : (s i : ℕ) (fm fm' new : List E) (levels : List Level) (places places' other : List ℕ) (store store' now : List E) → i < R.depth
      → Turn shape i fm' new levels levels places' other → Keeping s i fm fm' levels places places' store store' → Grown L shape ws (suc s) store' now
      → Before L shape ws (suc s) i (row_of shape new i) (get_or levels i blank) (get_or other i 0)
      → Served L shape ws (row_of shape fm i) (get_or levels i blank) (get_or places i 0) now
      → Keeping s (i + 1) fm new levels places other store now
  keeping_next s i fm fm' new levels places places' other store store' now below turn k grown before served = record {
    tables = tables_turn i fm' new levels levels places' other turn below k.tables;
    grown = grown_on (suc s) store store' now k.grown grown;
    row = λ j h b. turn.row j (omega arith) ∙ k.row j h (omega arith);
    place = λ j h b. turn.place j (omega arith) ∙ k.place j h (omega arith);
    before = turn_done shape (λ j r l p. Before L shape ws (suc s) j r l p) i fm' new levels levels places' other turn k.before before;
    served = served_next (suc s) i (row_of shape fm) (λ j. get_or levels j blank) (λ j. get_or places j 0) store' now grown k.served served;
  }

  -- nothing is kept in cleared memory, and before degree 0 that is enough
  pub store_start : (store : List E) → Clear R store → e * shape.channels * (e + 2) ≡ length store → Store L shape ws 0 store
  store_start store clear size = record {
    lawful = clear_lawful L store clear;
    size = size;
    kept = λ q. record {
      below = λ j _. none q j;
      zeros = λ r _. Val.value_none C (chain L shape ws) _ r (λ j _. none q j);
      is = clear_cell L store clear _ ∙ sym (Val.value_none C (chain L shape ws) _ q (λ j _. none q j));
    };
  }
    where
      none : (q j : ℕ) → cells L (kept_row L shape store q) j ≡ (lifted L).𝟘
      none q j = at (dec_lt j (e + 1))
        where
          at : Dec (j < e + 1) → cells L (kept_row L shape store q) j ≡ (lifted L).𝟘
          at (yes h) = part_cell L store (q * (e + 2)) (e + 1) j h ∙ clear_cell L store clear _
          at (no h) = part_none L store (q * (e + 2)) (e + 1) j (omega arith)

  pub whole_start : (store : List E) → Whole L shape ws 0 store
  whole_start store = Completes.complete_start C (chain L shape ws) (kept_level L shape store)
