-- One level written; the others as they were.
use Rattle.std.proofs.Common.{◌≡◌, ℕ, ◌+◌, ◌-◌, ◌*◌, ◌<◌, ◌≤◌, ◌≢◌, List, length, get_or, take, drop, set, sym, refl, ap, ◌∙◌, subst, ap₂, arith, length-set, get_or-set_other}
use native.Mathlib.Decide.{dec_lt, ℕ_discrete}
use borrow.Rule.Slice.PartMut.{put_mid, same_len_mid}
use Rattle.std.proofs.lemmas.List.Edits.{length-between}
use Rattle.std.proofs.lemmas.Slice.{between_is, take-put_mid_below, drop-put_mid, between-put_mid}
use Rattle.recurrence.specs.declared.shape.Shape.{Shape}
use Rattle.recurrence.specs.declared.shape.Level.{Level}
use Rattle.recurrence.specs.Findings.{blank}
use Rattle.places.proofs.Places.{apart}
use Rattle.levels.specs.Levels.{row_of}

module _ {E : Type 0} (shape : Shape) where
  -- the part that is lent is the row
  pub part_row : (fm : List E) (a i : ℕ) → a ≡ i * (shape.count.words + 1) → take (a + (shape.count.words + 1) - a) (drop a fm) ≡ row_of shape fm i
  part_row fm a i ea = ap₂ (λ m k. take m (drop k fm)) {x = a + (shape.count.words + 1) - a} {y = shape.count.words + 1} {u = a} {v = i * (shape.count.words + 1)} (omega arith) ea

  pub part_long : (fm : List E) (a : ℕ) → a + (shape.count.words + 1) ≤ length fm → length (take (a + (shape.count.words + 1) - a) (drop a fm)) ≡ shape.count.words + 1
  part_long fm a room = omega (arith, length-between fm a (a + (shape.count.words + 1)) room)

  -- a row written
  module _ (i a : ℕ) (fm new : List E) (ea : a ≡ i * (shape.count.words + 1)) (room : a + (shape.count.words + 1) ≤ length fm) (len : length new ≡ shape.count.words + 1) where
    abbrev after : List E
    after = put_mid a (a + (shape.count.words + 1) - a) fm new

    pub put_here : row_of shape after i ≡ new
    put_here = sym (part_row after a i ea) ∙ between-put_mid a (a + (shape.count.words + 1) - a) fm new (a + (shape.count.words + 1)) (omega arith) (omega arith)

    pub put_size : length after ≡ length fm
    put_size = same_len_mid a (a + (shape.count.words + 1) - a) fm new (omega (arith, length-between fm a (a + (shape.count.words + 1)) room))

    pub put_others : (j : ℕ) → j ≢ i → row_of shape after j ≡ row_of shape fm j
    put_others j ne = at (dec_lt j i)
      where
        b : ℕ
        b = j * (shape.count.words + 1)

        at : Dec (j < i) → row_of shape after j ≡ row_of shape fm j
        at (yes c) =
            sym (part_row after b j refl) ∙ between_is after b (b + (shape.count.words + 1))
            ∙ ap (drop b) (take-put_mid_below a (a + (shape.count.words + 1) - a) fm new (b + (shape.count.words + 1)) (omega (arith, apart j i (shape.count.words + 1) c)) (omega arith))
            ∙ sym (between_is fm b (b + (shape.count.words + 1))) ∙ part_row fm b j refl
        at (no c) = ap (take (shape.count.words + 1)) (drop-put_mid a (a + (shape.count.words + 1) - a) fm new b (omega (arith, apart i j (shape.count.words + 1) (omega arith))) (omega arith) (omega arith))

  -- the levels but i are as they were, and the memories as long
  pub record Turn (i : ℕ) (fm fm' : List E) (levels levels' : List Level) (places places' : List ℕ) : Type 0 where
    pub size : length fm' ≡ length fm
    pub room : length levels' ≡ length levels
    pub place_room : length places' ≡ length places
    pub row : (j : ℕ) → j ≢ i → row_of shape fm' j ≡ row_of shape fm j
    pub level : (j : ℕ) → j ≢ i → get_or levels' j blank ≡ get_or levels j blank
    pub place : (j : ℕ) → j ≢ i → get_or places' j 0 ≡ get_or places j 0

  pub turn_none : (i : ℕ) (fm : List E) (levels : List Level) (places : List ℕ) → Turn i fm fm levels levels places places
  turn_none i fm levels places = record { size = refl; room = refl; place_room = refl; row = λ j _. refl; level = λ j _. refl; place = λ j _. refl }

  -- a row, its level and its place written
  pub turn_put : (i a : ℕ) (fm new : List E) (levels : List Level) (level : Level) (places : List ℕ) (p : ℕ)
      → a ≡ i * (shape.count.words + 1) → a + (shape.count.words + 1) ≤ length fm → length new ≡ shape.count.words + 1
      → Turn i fm (put_mid a (a + (shape.count.words + 1) - a) fm new) levels (set levels i level) places (set places i p)
  turn_put i a fm new levels level places p ea room len = record {
    size = put_size i a fm new ea room len;
    room = length-set levels i level;
    place_room = length-set places i p;
    row = put_others i a fm new ea room len;
    level = λ j ne. get_or-set_other levels i j level blank ne;
    place = λ j ne. get_or-set_other places i j p 0 ne;
  }

  -- a row and its place written
  pub turn_place : (i a : ℕ) (fm new : List E) (levels : List Level) (places : List ℕ) (p : ℕ)
      → a ≡ i * (shape.count.words + 1) → a + (shape.count.words + 1) ≤ length fm → length new ≡ shape.count.words + 1
      → Turn i fm (put_mid a (a + (shape.count.words + 1) - a) fm new) levels levels places (set places i p)
  turn_place i a fm new levels places p ea room len = record {
    size = put_size i a fm new ea room len;
    room = refl;
    place_room = length-set places i p;
    row = put_others i a fm new ea room len;
    level = λ j ne. refl;
    place = λ j ne. get_or-set_other places i j p 0 ne;
  }

  module _ (Q : ℕ → List E → Level → ℕ → Type 0) (i : ℕ) (fm fm' : List E) (levels levels' : List Level) (places places' : List ℕ)
      (turn : Turn i fm fm' levels levels' places places') where
    turn_at : (j : ℕ) → j ≢ i → Q j (row_of shape fm j) (get_or levels j blank) (get_or places j 0) → Q j (row_of shape fm' j) (get_or levels' j blank) (get_or places' j 0)
    turn_at j ne h =
        subst (λ z. Q j (row_of shape fm' j) (get_or levels' j blank) z) (sym (turn.place j ne))
        (subst (λ z. Q j (row_of shape fm' j) z (get_or places j 0)) (sym (turn.level j ne))
        (subst (λ z. Q j z (get_or levels j blank) (get_or places j 0)) (sym (turn.row j ne)) h))

    -- what holds of the levels before i, and of i, holds of those before i + 1
    pub turn_done : ((j : ℕ) → j < i → Q j (row_of shape fm j) (get_or levels j blank) (get_or places j 0))
        → Q i (row_of shape fm' i) (get_or levels' i blank) (get_or places' i 0)
        → (j : ℕ) → j < i + 1 → Q j (row_of shape fm' j) (get_or levels' j blank) (get_or places' j 0)
    turn_done before here j h = at (ℕ_discrete j i)
      where
        at : Dec (j ≡ i) → Q j (row_of shape fm' j) (get_or levels' j blank) (get_or places' j 0)
        at (yes eq) = subst (λ z. Q z (row_of shape fm' z) (get_or levels' z blank) (get_or places' z 0)) (sym eq) here
        at (no ne) = turn_at j ne (before j (omega arith))

    -- what holds of the levels from i on holds of those from i + 1 on
    pub turn_rest : (d : ℕ) → ((j : ℕ) → j < d → i ≤ j → Q j (row_of shape fm j) (get_or levels j blank) (get_or places j 0))
        → (j : ℕ) → j < d → i + 1 ≤ j → Q j (row_of shape fm' j) (get_or levels' j blank) (get_or places' j 0)
    turn_rest d rest j h k = turn_at j (omega arith) (rest j h (omega arith))

  -- what holds of the parts that were written holds of the level
  pub turned : (Q : List E → Level → ℕ → Type 0) {row row' : List E} {level level' : Level} {place place' : ℕ} → row' ≡ row → level' ≡ level → place' ≡ place → Q row level place → Q row' level' place'
  turned Q {row = row} {row' = row'} {level = level} {level' = level'} {place = place} er el ep h =
      subst (λ z. Q row' level' z) (sym ep) (subst (λ z. Q row' z place) (sym el) (subst (λ z. Q z level place) (sym er) h))
