-- When two lawful elements are equal, by their difference.
use Rattle.std.proofs.Common.{◌≡◌, Bool, T, ◌↔◌, sym, refl, ap, ◌∙◌}
use Rattle.ring.specs.Ring.{Ring, Laws}
use Rattle.ring.specs.Lawful.{lifted}
use Rattle.ring.proofs.Lifts as Lifts
use Rattle.ring.proofs.Loops.{lawful_at}

module _ {E : Type 0} {R : Ring E} (L : Laws R) where
  pub sub_self : (x : E) → T (R.lawful x) → R.sub x x ≡ R.zero
  sub_self x h =
      let X = Lifts.hold_is L x h in
      (Lifts.sub_is L X X (λ _ _. refl)).eq ∙ ap (λ z. z.0) ((lifted L).add_neg _) ∙ sym (Lifts.zero_is L refl).eq

  sub_zero_eq : (a b : E) → T (R.lawful a) → T (R.lawful b) → R.sub a b ≡ R.zero → a ≡ b
  sub_zero_eq a b ha hb e =
      let K = L.ring_laws in
      sym (K.sub_add a b ha hb) ∙ ap (λ z. R.add z b) e ∙ K.add_comm R.zero b K.zero_lawful hb ∙ K.add_zero b hb

  -- two elements are one exactly if their difference x is zero
  pub equal_is : (a b x : E) (told : Bool) → (T (R.lawful a) → T (R.lawful b) → x ≡ R.sub a b) → (T (R.lawful x) → T told ↔ (x ≡ R.zero))
      → T (R.lawful a) → T (R.lawful b) → T told ↔ (a ≡ b)
  equal_is a b x told difference test ha hb =
      let x_is : x ≡ R.sub a b = difference ha hb in
      let both = test (lawful_at L x_is (L.ring_laws.sub_lawful a b ha hb)) in
      ((λ t. sub_zero_eq a b ha hb (sym x_is ∙ both.0 t)), λ e. both.1 (x_is ∙ ap (λ y. R.sub y b) e ∙ sub_self b hb))
