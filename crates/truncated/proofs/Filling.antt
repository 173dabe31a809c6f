-- Eight places made one by one.
use Rattle.std.proofs.Common.{◌≡◌, ℕ, zero, suc, ◌+◌, ◌<◌, ◌≤◌, List, get_or, refl, ◌∙◌, subst, arith}
use native.Mathlib.Decide.{ℕ_discrete}
use denote.Param.Members.{Mut}
use Rattle.std.specs.Fn.{Called}
use Rattle.std.specs.Array.{IsFromFnResult, IsFromFnResultFrom}

made : {F : Type 0} (g : Mut F (ℕ × Unit {0}) ℕ) (h : ℕ → ℕ) (n : ℕ) (f : F) → ((i y : ℕ) (q : F) → i < n → Called g f (i, tt) y q → (q ≡ f) × (y ≡ h i))
    → (from : F) → from ≡ f → (ys : List ℕ) (i m : ℕ) → i + m ≡ n → IsFromFnResultFrom g from ys i m → (k : ℕ) → i ≤ k → k < n → get_or ys k 0 ≡ h k
made g h n f one from e ys i zero s r k low high = absurd (omega arith)
made g h n f one from e ys i (suc m) s (q, y, here, called, rest) k low high =
    let turn = one i y q (omega arith) (subst (λ v. Called g v (i, tt) y q) e called) in
    at turn.1 (λ later. made g h n f one q turn.0 ys (i + 1) m (omega arith) rest k later high) (ℕ_discrete i k)
  where
    at : y ≡ h i → (i + 1 ≤ k → get_or ys k 0 ≡ h k) → Dec (i ≡ k) → get_or ys k 0 ≡ h k
    at value later (yes same) = subst (λ v. get_or ys v 0 ≡ h v) same (here.1 0 ∙ value)
    at value later (no other) = later (omega arith)

-- where each call leaves what is called as it is and gives h, place k holds h k
pub made_at : {F : Type 0} {g : Mut F (ℕ × Unit {0}) ℕ} {f : F} {n : ℕ} (h : ℕ → ℕ) (ys : List ℕ) → IsFromFnResult g f ys n
    → ((i y : ℕ) (q : F) → i < n → Called g f (i, tt) y q → (q ≡ f) × (y ≡ h i)) → (k : ℕ) → k < n → get_or ys k 0 ≡ h k
made_at {g = g} {f = f} {n = n} h ys r one k lt = made g h n f one f refl ys 0 n (omega arith) r.each k (omega arith) lt
