-- The lists of sums and scalings: lawful, and as the makers say.
use Rattle.std.proofs.Common.{◌≡◌, ℕ, Bool, true, false, T, sym, refl, ap, ◌∙◌, subst, ⊎_elim}
use Rattle.ring.specs.Ring.{Ring, Laws}
use Rattle.ring.specs.Lawful.{Lawful, Is, lifted, hold_at, hold}
use Rattle.ring.proofs.Lifts.{hold_is, mul_is, zero_is}
use Rattle.ring.proofs.Sums as Sums
use Rattle.recurrence.proofs.Elements.{stable}
use Rattle.sources.specs.Makers.{Makes, sum_rows, scaling_rows, summed, scaled}

module _ {E : Type 0} {R : Ring E} (L : Laws R) where
  hold_at_zero : (a : E) (b : Bool) (e : R.lawful a ≡ b) → b ≡ false → (hold_at L a b e).0 ≡ R.zero
  unfolding hold_at
  hold_at_zero a true e f = absurd (subst T f tt)
  hold_at_zero a false e f = refl

  pub hold_zero : (a : E) → R.lawful a ≡ false → (hold L a).0 ≡ R.zero
  unfolding hold
  hold_zero a f = hold_at_zero a (R.lawful a) refl f

  pub summed_lawful : (alike : Bool) (v w : ℕ → E) → ((t : ℕ) → T (R.lawful (v t))) → (t : ℕ) → T (R.lawful (summed L alike v w t))
  summed_lawful true v w h t = L.ring_laws.add_lawful (v t) (hold L (w t)).0 (h t) (hold L (w t)).1
  summed_lawful false v w h t = L.ring_laws.zero_lawful

  pub scaled_lawful : (c : E) (w : ℕ → E) → ((t : ℕ) → T (R.lawful (w t))) → (t : ℕ) → T (R.lawful (scaled L c w t))
  scaled_lawful c w h t = L.ring_laws.mul_lawful (hold L c).0 (w t) (hold L c).1 (h t)

  zero_times : (x : E) → T (R.lawful x) → R.mul R.zero x ≡ R.zero
  zero_times x h =
      let x_is : Is L x (hold L x) = hold_is L x h in
      (mul_is L (zero_is L refl) x_is (λ _ _. refl)).eq ∙ ap (λ (y : Lawful L). y.0) (Sums.zero_mul (lifted L) (hold L x)) ∙ sym (zero_is L refl).eq

  twice : (c : E) → (hold L (hold L c).0).0 ≡ (hold L c).0
  twice c = sym (hold_is L (hold L c).0 (hold L c).1).eq

  -- a scaling by what is kept of c
  pub scaling_makes : (c by : E) → by ≡ (hold L c).0 → (w : ℕ → E) → ((t : ℕ) → T (R.lawful (w t))) → Makes (scaling_rows R c) R (λ t. R.mul c (w t)) (scaled L by w)
  scaling_makes c by e w h = record {
    accepted = λ pass t. ap (λ (b : E). R.mul b (w t)) (kept ∙ sym (hold_is L c (stable (R.lawful c) pass.0)).eq);
    refused = λ r n t. ap (λ (b : E). R.mul b (w t)) (kept ∙ hold_zero c (⊎_elim (λ n'. unlawful (R.lawful c) n'.0) (λ n'. absurd n'.1) n)) ∙ zero_times (w t) (h t);
  }
    where
      kept : (hold L by).0 ≡ (hold L c).0
      kept = ap (λ (b : E). (hold L b).0) e ∙ twice c

      unlawful : (b : Bool) → ¬ T b → b ≡ false
      unlawful true n = absurd (n tt)
      unlawful false n = refl

-- the first element of a sum and of a scaling, made in a kind that is known to be this one
module _ {K E : Type 0} (ring : K → Ring E) (laws : (k : K) → Laws (ring k)) (j k : K) (e : j ≡ k) where
  pub sum_first : (alike : Bool) → alike ≡ true → (v w : ℕ → E) → T ((ring k).lawful (v 0)) → (x y z r : E)
      → x ≡ v 0 → y ≡ w 0 → z ≡ (hold (laws j) y).0 → (T ((ring j).lawful x) → T ((ring j).lawful z) → r ≡ (ring j).add x z) → r ≡ summed (laws k) alike v w 0
  sum_first alike a v w h x y z r ex ey ez add =
      let ez' : z ≡ (hold (laws k) (w 0)).0 = ez ∙ ap (λ (i : K). (hold (laws i) y).0) e ∙ ap (λ (b : E). (hold (laws k) b).0) ey in
      let hx : T ((ring j).lawful x) = rw (e, ex) h in
      let hz : T ((ring j).lawful z) = rw (e, ez') (hold (laws k) (w 0)).1 in
      let er : r ≡ (ring j).add x z = add hx hz in
      er ∙ rw (e, ex, ez', a)

  pub scaling_first : (c : E) (w : ℕ → E) → T ((ring k).lawful (w 0)) → (x z r : E)
      → x ≡ w 0 → z ≡ (hold (laws j) c).0 → (T ((ring j).lawful z) → T ((ring j).lawful x) → r ≡ (ring j).mul z x) → r ≡ scaled (laws k) c w 0
  scaling_first c w h x z r ex ez mul =
      let ez' : z ≡ (hold (laws k) c).0 = ez ∙ ap (λ (i : K). (hold (laws i) c).0) e in
      let hx : T ((ring j).lawful x) = rw (e, ex) h in
      let hz : T ((ring j).lawful z) = rw (e, ez') (hold (laws k) c).1 in
      let er : r ≡ (ring j).mul z x = mul hz hx in
      er ∙ rw (e, ex, ez')

-- where the test for one kind answered alike, a sum is as it should be
pub sum_makes : {K E : Type 0} (ring : K → Ring E) (laws : (k : K) → Laws (ring k)) (j k : K) (alike : Bool) → (T alike → j ≡ k) → (j ≡ k → T alike)
    → (v w : ℕ → E) → ((t : ℕ) → T ((ring k).lawful (w t))) → Makes (sum_rows j k) (ring j) (λ t. (ring j).add (v t) (w t)) (summed (laws j) alike v w)
sum_makes ring laws j k true is only v w h = record {
  accepted = λ _ t. ap ((ring j).add (v t)) (let l = h t in sym (hold_is (laws j) (w t) (rw (is tt) l)).eq);
  refused = λ e no t. absurd (⊎_elim (λ n. n.0 (is tt)) (λ n. n.1) no);
}
sum_makes ring laws j k false is only v w h = record {
  accepted = λ pass t. absurd (pass.0 only);
  refused = λ e no t. refl;
}
