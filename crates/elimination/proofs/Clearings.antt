-- A polynomial less the multiple of what is kept for its first place that is not zero.
use Rattle.std.proofs.Common.{◌≡◌, ℕ, suc, ◌+◌, ◌-◌, ◌*◌, ◌<◌, ◌≤◌, List, length, get_or, take, drop, sym, ap, ◌∙◌, subst, ap₂, arith}
use mathlib.Core.Path.{fun_ext}
use native.Mathlib.Decide.{dec_lt}
use Rattle.ring.specs.Ring.{Ring, Laws}
use Rattle.ring.specs.Lawful.{Lawful, Is, lifted, hold, cells, AllLawful, level_of}
use Rattle.ring.proofs.Sums as Sums
use Rattle.ring.proofs.Lifts as Lifts
use Rattle.recurrence.specs.declared.shape.Shape.{Shape}
use Rattle.recurrence.proofs.Polynomials.{plus}
use Rattle.recurrence.proofs.Captures.{Capture, value, Counts, Zeros}
use Rattle.recurrence.proofs.Valuations as Val
use Rattle.places.specs.Places.{capture_of, Row, Scanned}
use Rattle.rows.specs.Rows.{Holds, Quotient, Lower}
use Rattle.elimination.specs.Stores.{kept_row, kept_value, kept_level, Kept, Store, StuckAt}
use Rattle.places.proofs.Values.{chain}
use Rattle.rows.proofs.Scalings.{holds_lawful, holds_cells, scaled}

-- the part of the store that is lent is the row kept
pub part_is : {X : Type 0} (xs : List X) (a b q e : ℕ) → a ≡ q * (e + 2) → b ≡ a + (e + 1) → take (b - a) (drop a xs) ≡ take (e + 1) (drop (q * (e + 2)) xs)
part_is xs a b q e ea eb = ap₂ (λ m k. take m (drop k xs)) {x = b - a} {y = e + 1} {u = a} {v = q * (e + 2)} (omega arith) ea

module _ {E : Type 0} {R : Ring E} (L : Laws R) (shape : Shape) (ws : List E) where
  abbrev C : Capture (Lawful L)
  C = capture_of L shape ws

  abbrev e : ℕ
  e = shape.count.words

  -- what the code reads beside the polynomial that is kept
  pub kept_read : (store : List E) (q a : ℕ) (x : E) → AllLawful L store → a ≡ q * (e + 2) → a + (e + 2) ≤ length store → x ≡ get_or store (a + (e + 1)) x → Is L x (kept_value L shape store q)
  kept_read store q a x all ea room ex = Lifts.is_at L (ap (λ z. cells L store (z + (e + 1))) ea) (Lifts.read_is L store (a + (e + 1)) x (omega arith) ex all)

  -- what is left after a step
  pub record Cleared (m q : ℕ) (row new : List E) : Type 0 where
    pub row_is : Row L shape ws m new
    pub top : cells L new m ≡ cells L row m
    pub zeros : Zeros C m (q + 1) (cells L new)

  pub cleared : (m q : ℕ) (row store other new : List E) (a k c : E) → Row L shape ws m row → Store L shape ws m store
      → Is L a (value C (cells L row) q) → Is L k (kept_value L shape store q) → other ≡ kept_row L shape store q
      → Zeros C m q (cells L row) → Quotient L a k c → length new ≡ length row → Holds L new (scaled L c row other)
      → Cleared m q row new
  cleared m q row store other new a k c fit kept_all ia ik eo zeros quot len holds = record {
    row_is = record {
      lawful = holds_lawful L new _ holds;
      long = len ∙ fit.long;
      small = fit.small;
      below = λ j h. holds_cells L new _ holds j ∙ Val.plus_below C (chain L shape ws) (suc m) p g ((lifted L).⊖◌ x) fit.below (λ j h. kept.below j (omega arith)) j h;
    };
    top =
        holds_cells L new _ holds m ∙ ap (λ z. (lifted L).◌⊕◌ (p m) ((lifted L).◌⊗◌ ((lifted L).⊖◌ x) z)) (kept.below m (omega arith))
        ∙ ap ((lifted L).◌⊕◌ (p m)) (Sums.mul_zero (lifted L) ((lifted L).⊖◌ x)) ∙ (lifted L).add_zero (p m);
    zeros = λ r h counts. ap (λ f. value C f r) (fun_ext (holds_cells L new _ holds)) ∙ at r h counts (dec_lt r q);
  }
    where
      p : ℕ → Lawful L
      p = cells L row

      g : ℕ → Lawful L
      g = cells L other

      x : Lawful L
      x = hold L c

      kept : Kept L shape ws m q g (kept_value L shape store q)
      kept = subst (λ z. Kept L shape ws m q (cells L z) (kept_value L shape store q)) (sym eo) (kept_all.kept q)

      whole : value C p q ≡ (lifted L).◌⊗◌ (value C g q) x
      whole = sym (Lifts.held L ia) ∙ quot.product ∙ ap (λ z. (lifted L).◌⊗◌ z x) (Lifts.held L ik ∙ kept.is)

      at : (r : ℕ) → r < q + 1 → Counts C m r → Dec (r < q) → value C (plus (lifted L) p ((lifted L).⊖◌ x) g) r ≡ (lifted L).𝟘
      at r h counts (yes b) = Val.value_plus_zero C (chain L shape ws) p g ((lifted L).⊖◌ x) r (zeros r b counts) (kept.zeros r b)
      at r h counts (no b) =
          let e' : r ≡ q = omega arith in
          ap (value C (plus (lifted L) p ((lifted L).⊖◌ x) g)) e' ∙ Val.value_plus C (chain L shape ws) p g ((lifted L).⊖◌ x) q ∙ Val.cancel_top (lifted L) (value C p q) (value C g q) x whole

  -- stuck: what is kept does not divide the value
  pub stuck_there : (m q : ℕ) (row store : List E) (start : ℕ) (a k : E) → Scanned L shape ws m row start q a → Is L k (kept_value L shape store q) → Lower L a k → StuckAt L shape ws m row store q
  stuck_there m q row store start a k scanned ik less = record {
    within = scanned.within;
    zeros = scanned.zeros;
    here = scanned.here;
    less = subst (λ z. level_of L z < kept_level L shape store q) (Lifts.held L scanned.is) (subst (λ z. level_of L (hold L a) < level_of L z) (Lifts.held L ik) less);
  }
