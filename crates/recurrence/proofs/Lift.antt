-- Words of raw elements as a capture over the lawful ones, and what the laws of a kind say there.
use mathlib.Core.Path.{refl, sym, ap, ◌∙◌}
use Prim.Native.Nat.{ℕ, ◌<◌}
use native.Mathlib.Omega.{arith}
use Rattle.ring.specs.Ring.{Ring, Laws, Split}
use Rattle.ring.specs.Lawful.{Lawful, Is, same, lifted, step_of, hold, level_of}
use Rattle.ring.proofs.Lifts as Lifts
use Rattle.recurrence.proofs.Captures.{Capture, Chain, Valued}

module _ {E : Type 0} {R : Ring E} (L : Laws R) where
  -- e words of n channels, where S c k is channel c of word k
  abbrev pub capture : (ℕ → ℕ → E) → ℕ → ℕ → Capture (Lawful L)
  capture S n e = record { ring = lifted L; step = step_of L; depth = R.depth; words = e; channels = n; at = λ k c. hold L (S c k) }

  module _ (S : ℕ → ℕ → E) (n e : ℕ) where
    abbrev C : Capture (Lawful L)
    C = capture S n e

    -- a split is a valuation
    pub valued_of : (a u : E) (x : Lawful L) (v : ℕ) → Is L a x → Split R a v u → Valued C v x
    unfolding lifted
    valued_of a u x v ea s = record {
      within = s.low;
      unit = (u, s.unit.1.left);
      inverse = (s.unit.0, s.unit.1.right);
      inverts = same L s.unit.1.product;
      is = same L (sym ea.eq ∙ s.whole ∙ ap (λ z. R.mul z u) (Lifts.power_is L v).eq);
    }

    pub unit_is : (a u : E) (x : Lawful L) (v : ℕ) (ea : Is L a x) (s : Split R a v u) → Is L u (valued_of a u x v ea s).unit
    unfolding valued_of lifted
    unit_is a u x v ea s = record { eq = refl }

    pub inverse_is : (a u : E) (x : Lawful L) (v : ℕ) (ea : Is L a x) (s : Split R a v u) → Is L s.unit.0 (valued_of a u x v ea s).inverse
    unfolding valued_of lifted
    inverse_is a u x v ea s = record { eq = refl }

    -- the lawful elements are a chain ring
    pub chain_of : 0 < n → Chain C
    chain_of wide = record {
      wide = wide;
      deep = omega (arith, L.depth_low);
      ends = same L (sym (Lifts.power_is L R.depth).eq ∙ L.power_end ∙ (Lifts.zero_is L refl).eq);
      lasts = λ v h z. L.power_not v h ((Lifts.power_is L v).eq ∙ ap (λ x. x.0) z ∙ sym (Lifts.zero_is L refl).eq);
      level = level_of L;
      split = λ x. valued_of x.0 _ x (level_of L x) (record { eq = refl }) (L.splits x.0 x.1).2;
    }
