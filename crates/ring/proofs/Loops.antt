-- A loop that adds up: what it holds after j turns, and one turn more, from what the calls of a kind ensure.
use Rattle.std.proofs.Common.{◌≡◌, ℕ, suc, ◌+◌, ◌*◌, ◌<◌, ◌≤◌, T, sym, ◌∙◌, subst, ap₂, mul-le-mul_right, suc-mul, add-one, arith}
use Rattle.ring.specs.Ring.{Ring, Laws, sum}

-- channel c of word k lies within e words of n channels
pub place_inside : (e n k c : ℕ) → k < e → c < n → k * n + c < e * n
place_inside e n k c hk hc = let h : suc k * n ≤ e * n = mul-le-mul_right n hk in omega (arith, h, suc-mul k n)

module _ {E : Type 0} {R : Ring E} (L : Laws R) where
  pub lawful_at : {a b : E} → a ≡ b → T (R.lawful b) → T (R.lawful a)
  lawful_at e h = subst (λ v. T (R.lawful v)) (sym e) h

  -- total is the lawful sum of f 0 to f (j - 1)
  abbrev pub Added : (ℕ → E) → ℕ → E → Type 0
  Added f j total = T (R.lawful total) × (total ≡ sum R j f)

  pub added_none : (f : ℕ → E) (r : E) → r ≡ R.zero → Added f 0 r
  unfolding sum
  added_none f r e = (lawful_at e L.ring_laws.zero_lawful, e)

  pub added_more : (f : ℕ → E) (j : ℕ) (a b p total r : E) → T (R.lawful a) → T (R.lawful b) → R.mul a b ≡ f j
      → (T (R.lawful a) → T (R.lawful b) → p ≡ R.mul a b)
      → (T (R.lawful total) → T (R.lawful p) → r ≡ R.add total p)
      → Added f j total → Added f (j + 1) r
  unfolding sum
  added_more f j a b p total r ha hb is product added before =
      let p_is : p ≡ R.mul a b = product ha hb in
      let hp : T (R.lawful p) = lawful_at p_is (L.ring_laws.mul_lawful a b ha hb) in
      let r_is : r ≡ R.add total p = added before.0 hp in (
        lawful_at r_is (L.ring_laws.add_lawful total p before.0 hp),
        subst (λ m. r ≡ sum R m f) (sym (add-one j)) (r_is ∙ ap₂ R.add before.1 (p_is ∙ is)),
      )
