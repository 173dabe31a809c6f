-- What a round does to one level.
use Rattle.std.proofs.Common.{◌≡◌, ℕ, zero, suc, ◌+◌, ◌-◌, ◌*◌, ◌<◌, ◌≤◌, Bool, true, false, not, T, Option, None, Some, is_some, unwrap_or, MatchOption, List, length, sym, refl, ap, ◌∙◌, subst, arith}
use mathlib.Core.Path.{fun_ext}
use native.Mathlib.Decide.{dec_lt}
use Rattle.ring.specs.Ring.{Ring, Laws}
use Rattle.ring.specs.Lawful.{Lawful, lifted, cells}
use Rattle.recurrence.specs.declared.shape.Shape.{Shape}
use Rattle.recurrence.specs.declared.shape.Level.{Level}
use Rattle.recurrence.specs.Findings.{blank}
use Rattle.recurrence.proofs.Polynomials.{shift}
use Rattle.recurrence.proofs.Captures.{Capture, Monic, value, Counts, Zeros}
use Rattle.recurrence.proofs.Completes as Completes
use Rattle.places.specs.Places.{places, capture_of, Row}
use Rattle.rows.specs.Rows.{Holds, constant}
use Rattle.elimination.specs.Stores.{Store, kept_level, kept_value, StuckAt, ToEliminate}
use Rattle.places.proofs.Places.{row_next, counts_place, place_counts}
use Rattle.places.proofs.Values.{chain, valued_level}
use Rattle.rows.proofs.Scalings.{holds_cells, holds_lawful}
use Rattle.levels.specs.Levels.{Found, Open, Stopped, Before, After, Less}
use Rattle.levels.specs.Rounds.{Whole}
use Rattle.levels.proofs.Shifts as Shifts

pub not_both : {b : Bool} → b ≡ true → b ≡ false → ⊥
not_both t f = subst T (sym t ∙ f) tt

module _ {E : Type 0} {R : Ring E} (L : Laws R) (shape : Shape) (ws : List E) where
  abbrev C : Capture (Lawful L)
  C = capture_of L shape ws

  abbrev n : ℕ
  n = shape.channels

  abbrev e : ℕ
  e = shape.count.words

  pub level_bound : (store : List E) (q : ℕ) → kept_level L shape store q ≤ R.depth
  level_bound store q = (L.splits (kept_value L shape store q).0 (kept_value L shape store q).1).2.low

  -- a level after degree s
  abbrev pub ended : ℕ → Bool → Level
  ended s found = record { length = s; found = found }

  -- what an open level gives to the elimination
  pub to_eliminate : (s i place : ℕ) (row store : List E) → s ≤ e → length row ≡ e + 1 → Store L shape ws s store → Open L shape ws s i row place → ToEliminate L shape ws s place row store
  to_eliminate s i place row store small long kept op = record {
    row = record { lawful = op.lawful; long = long; small = small; below = op.monic.below };
    kept = kept;
    start = op.within;
    zeros = op.zeros;
  }

  module _ (s i place : ℕ) (row new store : List E) (small : s ≤ e) (whole : Whole L shape ws s store) (op : Open L shape ws s i row place)
      (fit : Row L shape ws s new) (top : cells L new s ≡ cells L row s) where
    monic : Monic C i s (cells L new)
    monic = record { below = fit.below; top = top ∙ op.monic.top }

    -- it cancels the words
    pub reduced_found : (level : Level) (q : ℕ) → level ≡ record { length = s; found = true } → Zeros C s (places shape s) (cells L new) → After L shape ws s i new level q
    reduced_found level q is zeros = record {
      done = λ _. subst (Found L shape ws s i new) (sym (ap (λ l. l.length) is)) (record {
        lawful = fit.lawful;
        answer = Completes.answered C (chain L shape ws) i s (cells L new) monic (λ r counts. zeros r (place_counts shape r s small counts) counts) op.none;
        small = omega arith;
      });
      stopped = λ h. absurd (not_both (ap (λ l. l.found) is) h);
    }

    -- it is stuck
    pub reduced_stuck : (level : Level) (q : ℕ) → level.found ≡ false → StuckAt L shape ws s new store q → After L shape ws s i new level q
    reduced_stuck level q going stuck = record {
      done = λ h. absurd (not_both h going);
      stopped = λ _. record {
        lawful = fit.lawful;
        monic = monic;
        within = stuck.within;
        zeros = stuck.zeros;
        here = stuck.here;
        none = Completes.none_here C (chain L shape ws) s (kept_level L shape store) (level_bound store) whole i (cells L new) monic q _
            (record { counts = counts_place shape q s small stuck.within; zeros = stuck.zeros; here = stuck.here })
            (valued_level L shape ws (value C (cells L new) q)) stuck.less op.none;
      };
    }

    -- the level after degree s: it is found if there is no place where it is stuck, and then its place is the end
    pub reduced : (place : Option ℕ) (found : Bool) (end q : ℕ) → is_some place ≡ not found → q ≡ unwrap_or place end
        → MatchOption place (Zeros C s (places shape s) (cells L new)) (λ p. StuckAt L shape ws s new store p) → After L shape ws s i new (ended s found) q
    reduced None true end q is at zeros = reduced_found (ended s true) q refl zeros
    reduced None false end q is at zeros = absurd (not_both is refl)
    reduced (Some p) true end q is at stuck = absurd (not_both refl is)
    reduced (Some p) false end q is at stuck = reduced_stuck (ended s false) q refl (subst (StuckAt L shape ws s new store) (sym at) stuck)

    pub reduced_less : (place : Option ℕ) (found : Bool) (end q : ℕ) → is_some place ≡ not found → q ≡ unwrap_or place end
        → MatchOption place (Zeros C s (places shape s) (cells L new)) (λ p. StuckAt L shape ws s new store p) → Less L shape ws new (ended s found) q store
    reduced_less place true end q is at ends h = absurd (not_both refl h)
    reduced_less None false end q is at zeros h = absurd (not_both is refl)
    reduced_less (Some p) false end q is at stuck h = (subst (StuckAt L shape ws s new store) (sym at) stuck).less

  -- a level found stays as it is
  pub found_after : (s i place : ℕ) (row : List E) (level : Level) → level.found ≡ true → Before L shape ws s i row level place → After L shape ws s i row level place
  found_after s i place row level found before = record { done = before.done; stopped = λ h. absurd (not_both found h) }

  pub found_before : (s i place : ℕ) (row : List E) (level : Level) → level.found ≡ true → After L shape ws s i row level place → Before L shape ws (suc s) i row level place
  found_before s i place row level found after = record {
    done = λ h. let f = after.done h in record { lawful = f.lawful; answer = f.answer; small = omega (arith, f.small) };
    going = λ h. absurd (not_both found h);
  }

  -- there is room for the next degree
  pub room_above : (s i place : ℕ) (row : List E) → Stopped L shape ws s i row place → s < e
  room_above s i place row st = at (dec_lt s e)
    where
      at : Dec (s < e) → s < e
      at (yes h) = h
      at (no h) = let none : e - s ≡ 0 = omega arith in absurd (omega (arith, ap (λ z. z * n) none, st.within))

  -- the polynomial of the next degree
  pub raised : (s i place : ℕ) (row new : List E) (level : Level) → level.found ≡ false → Stopped L shape ws s i row place
      → Holds L new (shift (lifted L) 1 (cells L row)) → Before L shape ws (suc s) i new level (place - n)
  raised s i place row new level found st holds = record {
    done = λ h. absurd (not_both h found);
    going = λ _. record {
      lawful = holds_lawful L new _ holds;
      monic = subst (λ p. Monic C i (suc s) p) same (subst (λ m. Monic C i m (shift (lifted L) 1 (cells L row))) one_more (Shifts.shift_monic C (chain L shape ws) 1 i s (cells L row) st.monic));
      within = room;
      zeros = subst (Zeros C (suc s) (place - n)) same
          (λ r b counts. Shifts.zeros_shift C (chain L shape ws) 1 s place (cells L row) st.monic.below (omega (arith, below_e)) st.zeros r (omega arith) (subst (λ m. Counts C m r) (sym one_more) counts));
      none = st.none;
    };
  }
    where
      same : shift (lifted L) 1 (cells L row) ≡ cells L new
      same = sym (fun_ext (holds_cells L new _ holds))

      one_more : 1 + s ≡ suc s
      one_more = omega arith

      below_e : s < e
      below_e = room_above s i place row st

      room : place - n ≤ places shape (suc s)
      room = let more : e - s ≡ e - suc s + 1 = omega (arith, below_e) in omega (arith, ap (λ z. z * n) more, row_next (e - suc s) n, st.within)

  -- the beginning
  constant_monic : (i : ℕ) → Monic C i 0 (constant L i)
  unfolding constant
  constant_monic i = record { below = λ j h. at j h; top = refl }
    where
      at : (j : ℕ) → 1 ≤ j → constant L i j ≡ (lifted L).𝟘
      at zero h = absurd (omega arith)
      at (suc j) h = refl

  pub started : (i : ℕ) (row : List E) (level : Level) (place : ℕ) → level ≡ blank → place ≡ 0 → Holds L row (constant L i) → Before L shape ws 0 i row level place
  started i row level place fresh start holds = record {
    done = λ h. absurd (not_both h (ap (λ l. l.found) fresh));
    going = λ _. record {
      lawful = holds_lawful L row _ holds;
      monic = subst (Monic C i 0) (sym (fun_ext (holds_cells L row _ holds))) (constant_monic i);
      within = omega arith;
      zeros = λ r h. absurd (omega arith);
      none = λ m f h. absurd (omega arith);
    };
  }
