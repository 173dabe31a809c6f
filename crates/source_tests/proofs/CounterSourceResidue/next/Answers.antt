use Rattle.std.proofs.Common.{◌≡◌, ℕ, ◌+◌, ◌%◌, ◌^◌, ◌<◌, sym, refl, ap, ◌∙◌, add-zero, mod-lt, arith, lt-ltb}
use native.Mathlib.Nat.{mod-add-mod}
use Rattle.source_tests.proofs.CounterSourceResidue.next.Goals as goal

pub returns : goal.returns
returns c =
    let s = c.args.self.now in
    let n : ℕ = s.kind.size in
    let size : n ≡ s.kind.base.value ^ s.kind.depth = s.kind.ok.2 in
    let some : 0 < n = omega (arith, s.kind.ok.3) in
    let below : s.count % n < s.kind.base.value ^ s.kind.depth = rw (sym size) (mod-lt s.count some) in
    record {
      first = ap (λ (k : ℕ). k % n) (sym (add-zero s.count));
      lawful = rw (lt-ltb (s.count % n) (s.kind.base.value ^ s.kind.depth) below) tt;
      later = λ t. ap (λ (k : ℕ). k % n) (omega arith) ∙ mod-add-mod s.count n (t + 1);
      same = refl;
    }
