-- Memory with a part written.
use Rattle.std.proofs.Common.{◌≡◌, ℕ, ◌+◌, ◌-◌, ◌<◌, ◌≤◌, List, ◌++◌, length, get_or, take, drop, ap, ◌∙◌, arith, length-append, length-take-le, length-drop, get_or-drop, get_or-take}
use borrow.Rule.Slice.PartMut.{put_mid}
use Rattle.std.proofs.lemmas.List.{get_or_append_left, get_or-append_right}
use Rattle.recurrence.specs.Memory.{Written}

pub written_part : {E : Type 0} (old part : List E) (from k m : ℕ) (f : ℕ → E) → k ≡ m → from + m ≤ length old → length part ≡ m
    → ((i : ℕ) → i < m → (d : E) → get_or part i d ≡ f i) → Written old (put_mid from k old part) from m f
written_part {E = E} old part from k m f same room size each = record {
  size = simp (length-append, length-drop) (omega (arith, front));
  there = λ i h d. after_front (from + i) d (omega arith) ∙ ap (λ j. get_or (part ++ rest) j d) {x = from + i - from} {y = i} (omega arith) ∙ get_or_append_left part rest d i (omega arith) ∙ each i h d;
  before = λ p h d. get_or_append_left (take from old) (part ++ rest) d p (omega (arith, front)) ∙ get_or-take from old p d h;
  after = λ p h d.
      after_front p d (omega arith)
      ∙ get_or-append_right part rest k (p - from) d (omega arith) (omega arith)
      ∙ get_or-drop k (drop from old) (p - from - k) d ∙ get_or-drop from old (k + (p - from - k)) d
      ∙ ap (λ j. get_or old j d) {x = from + (k + (p - from - k))} {y = p} (omega arith);
}
  where
    rest : List E
    rest = drop k (drop from old)

    front : length (take from old) ≡ from
    front = length-take-le from old (omega arith)

    after_front : (p : ℕ) (d : E) → from ≤ p → get_or (put_mid from k old part) p d ≡ get_or (part ++ rest) (p - from) d
    after_front p d h = get_or-append_right (take from old) (part ++ rest) from p d front h
