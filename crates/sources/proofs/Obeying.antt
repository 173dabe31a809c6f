-- What sums and scalings of lists obey.
use Rattle.std.proofs.Common.{◌≡◌, ℕ, suc, ◌+◌, Bool, true, false, T, sym, refl, ap, ◌∙◌, subst}
use Rattle.ring.specs.Ring.{Ring, Laws}
use Rattle.ring.specs.Lawful.{Lawful as Element, Is, lifted, hold}
use Rattle.ring.proofs.Lifts as Lifts
use Rattle.ring.proofs.Sums as Sums
use Rattle.recurrence.specs.Polynomials.{Lawful, Obeys, value}
use Rattle.recurrence.proofs.Polynomials.{act, plus}
use Rattle.recurrence.proofs.Recurrences as Rec
use Rattle.recurrence.proofs.Bridge.{lift, lift_is, value_is, to_zero, from_zero}
use Rattle.sources.specs.Makers.{summed, scaled}

module _ {E : Type 0} {R : Ring E} where
  -- only the elements of a list count
  pub obeys_same : (D : ℕ) (q v w : ℕ → E) → ((t : ℕ) → v t ≡ w t) → Obeys R D q v → Obeys R D q w
  obeys_same D q v w h ob = subst (Obeys R D q) (λ i t. h t i) ob

module _ {E : Type 0} {R : Ring E} (L : Laws R) (D : ℕ) (q : ℕ → E) where
  -- the polynomial on a list that is known among the lawful elements
  cancelled : (w : ℕ → E) (W : ℕ → Element L) → Lawful R q → ((t : ℕ) → Is L (w t) (W t)) → (t : ℕ) → Is L (value R D q w t) (act (lifted L) (suc D) (lift L q) W t)
  cancelled w W ok h t = value_is L D q w t (lift L q) W (λ j _. lift_is L q ok j) (λ j _. h (t + j))

  -- v + c w obeys what v and w obey
  combined : (v w : ℕ → E) (V W : ℕ → Element L) → ((t : ℕ) → Is L (v t) (V t)) → ((t : ℕ) → Is L (w t) (W t)) → Obeys R D q v → Obeys R D q w
      → (c : Element L) (x : ℕ → E) → ((t : ℕ) → Is L (x t) (plus (lifted L) V c W t)) → Obeys R D q x
  combined v w V W hv hw ov ow c x hx = record {
    lawful = ov.lawful;
    monic = ov.monic;
    cancels = λ t. from_zero L (cancelled x (plus (lifted L) V c W) ov.lawful hx t)
        (Rec.act_plus_right (lifted L) (suc D) (lift L q) V W c t
        ∙ Rec.zero_plus_zero (lifted L) _ _ c (to_zero L (cancelled v V ov.lawful hv t) (ov.cancels t)) (to_zero L (cancelled w W ov.lawful hw t) (ow.cancels t)));
  }

  zeros_obey : (v : ℕ → E) → Obeys R D q v → Obeys R D q (λ _. R.zero)
  zeros_obey v ov = record {
    lawful = ov.lawful;
    monic = ov.monic;
    cancels = λ t. from_zero L (cancelled (λ _. R.zero) (λ _. (lifted L).𝟘) ov.lawful (λ _. Lifts.zero_is L refl) t) (Rec.act_zero (lifted L) (suc D) (lift L q) (λ _. (lifted L).𝟘) t (λ _ _. refl));
  }

  pub scaled_obeys : (c : E) (w : ℕ → E) → Lawful R w → Obeys R D q w → Obeys R D q (scaled L c w)
  scaled_obeys c w ok ow =
      combined (λ _. R.zero) w (λ _. (lifted L).𝟘) (lift L w) (λ _. Lifts.zero_is L refl) (lift_is L w ok) (zeros_obey w ow) ow (hold L c) (scaled L c w)
      (λ t. Lifts.is_at L (sym (Sums.zero_add (lifted L) _)) (Lifts.mul_is L (record { eq = refl }) (lift_is L w ok t) (λ _ _. refl)))

  pub summed_obeys : (alike : Bool) (v w : ℕ → E) → Lawful R v → (T alike → Lawful R w) → Obeys R D q v → Obeys R D q w → Obeys R D q (summed L alike v w)
  summed_obeys true v w okv okw ov ow =
      combined v w (lift L v) (lift L w) (lift_is L v okv) (lift_is L w (okw tt)) ov ow (lifted L).𝟙 (summed L true v w)
      (λ t. Lifts.is_at L (ap ((lifted L).◌⊕◌ (lift L v t)) (sym (Sums.one_mul (lifted L) (lift L w t)))) (Lifts.add_is L (lift_is L v okv t) (record { eq = refl }) (λ _ _. refl)))
  summed_obeys false v w okv okw ov ow = zeros_obey v ov
