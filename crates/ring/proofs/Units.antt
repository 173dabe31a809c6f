-- Units: what is inverted modulo the step has a whole inverse, and Newton's turn finds it.
use Rattle.std.proofs.Common.{◌≡◌, ℕ, zero, suc, ◌+◌, ◌-◌, ◌≤◌, T, sym, refl, ap, ◌∙◌, subst, ap₂, arith}
use Rattle.ring.specs.Commutative.{CommRing, power as powerˡ}
use Rattle.ring.specs.Ring.{Ring, RingLaws, power, UnitOf}
use Rattle.ring.specs.Lawful.{same_element, lawful_ring}
use Rattle.ring.proofs.Sums as Sums

-- over any commutative ring
module _ {A : Type 0} (R : CommRing A) where
  infixl 60 ◌⊕◌
  infixl 70 ◌⊗◌
  infix 80 ⊖◌
  open R use {𝟘, 𝟙, ◌⊕◌, ◌⊗◌, ⊖◌, add_assoc, add_comm, add_zero, add_neg, mul_assoc, mul_comm, mul_one, distrib}

  pub inverse_unique : (u v w : A) → u ⊗ v ≡ 𝟙 → u ⊗ w ≡ 𝟙 → v ≡ w
  inverse_unique u v w ev ew =
      sym (mul_one v) ∙ ap (λ x. v ⊗ x) (sym ew) ∙ Sums.mul_left_comm R v u w ∙ sym (mul_assoc u v w) ∙ ap (λ x. x ⊗ w) ev ∙ Sums.one_mul R w

  -- w inverts u as far as p: u w + p t = 1
  pub record Near (u w p : A) : Type 0 where
    pub rest : A
    pub eq : u ⊗ w ⊕ p ⊗ rest ≡ 𝟙

  -- Newton's turn: w (2 - u w) inverts as far as the square
  pub newton : (u w p c : A) → Near u w p → c ⊕ u ⊗ w ≡ 𝟙 ⊕ 𝟙 → Near u (w ⊗ c) (p ⊗ p)
  newton u w p c near k = record { rest = near.rest ⊗ near.rest; eq = whole }
    where
      e : A
      e = p ⊗ near.rest

      h : u ⊗ w ⊕ e ≡ 𝟙
      h = near.eq

      c_is : c ≡ 𝟙 ⊕ e
      c_is =
          let both : c ⊕ u ⊗ w ≡ (𝟙 ⊕ e) ⊕ u ⊗ w
          = k ∙ ap (λ x. 𝟙 ⊕ x) (sym h) ∙ simp (add_assoc, add_comm) in
          sym (Sums.from_sum R (sym both)) ∙ Sums.from_sum R refl

      expand : u ⊗ (w ⊗ (𝟙 ⊕ e)) ⊕ e ⊗ e ≡ u ⊗ (w ⊗ 𝟙) ⊕ (u ⊗ w ⊕ e) ⊗ e
      expand = simp (distrib, Sums.distrib_right R, mul_assoc, Sums.mul_left_comm R, add_assoc, add_comm)

      square : p ⊗ p ⊗ (near.rest ⊗ near.rest) ≡ e ⊗ e
      square = simp (mul_assoc, Sums.mul_left_comm R)

      whole : u ⊗ (w ⊗ c) ⊕ p ⊗ p ⊗ (near.rest ⊗ near.rest) ≡ 𝟙
      whole =
          ap₂ (λ x y. u ⊗ (w ⊗ x) ⊕ y) c_is square ∙ expand
          ∙ ap₂ (λ x y. u ⊗ x ⊕ y) (mul_one w) (ap (λ x. x ⊗ e) h ∙ Sums.one_mul R e) ∙ h

  -- from p to p times s, if w inverts as far as s
  pub near_more : (u w v s p : A) → Near u w s → Near u v p → (x : A) × Near u x (p ⊗ s)
  near_more u w v s p one more = (v ⊕ p ⊗ (more.rest ⊗ w), record { rest = more.rest ⊗ one.rest; eq = whole })
    where
      expand : u ⊗ (v ⊕ p ⊗ (more.rest ⊗ w)) ⊕ p ⊗ s ⊗ (more.rest ⊗ one.rest) ≡ u ⊗ v ⊕ p ⊗ more.rest ⊗ (u ⊗ w ⊕ s ⊗ one.rest)
      expand = simp (distrib, mul_assoc, mul_comm, Sums.mul_left_comm R, add_assoc)

      whole : u ⊗ (v ⊕ p ⊗ (more.rest ⊗ w)) ⊕ p ⊗ s ⊗ (more.rest ⊗ one.rest) ≡ 𝟙
      whole = expand ∙ ap (λ x. u ⊗ v ⊕ p ⊗ more.rest ⊗ x) one.eq ∙ ap (λ x. u ⊗ v ⊕ x) (mul_one (p ⊗ more.rest)) ∙ more.eq

  -- where p is zero, that is the inverse
  pub near_whole : (u w p : A) → p ≡ 𝟘 → Near u w p → u ⊗ w ≡ 𝟙
  near_whole u w p h near =
      sym (add_zero (u ⊗ w)) ∙ ap (λ x. u ⊗ w ⊕ x) (sym (ap (λ x. x ⊗ near.rest) h ∙ Sums.zero_mul R near.rest)) ∙ near.eq

  -- an inverse modulo s is lifted to one modulo each power of s
  pub near_power : (u w s : A) → Near u w s → (n : ℕ) → (x : A) × Near u x (powerˡ R s n)
  unfolding powerˡ
  near_power u w s near zero = (𝟘, record { rest = 𝟙; eq = ap₂ ◌⊕◌ (Sums.mul_zero R u) (mul_one 𝟙) ∙ Sums.zero_add R 𝟙 })
  near_power u w s near (suc n) = let r = near_power u w s near n in near_more u w r.0 s (powerˡ R s n) near r.1

  -- a unit plus a multiple of s is a unit modulo s
  pub near_add : (u w s t : A) → u ⊗ w ≡ 𝟙 → Near (u ⊕ s ⊗ t) w s
  near_add u w s t e = record { rest = ⊖ (t ⊗ w); eq = whole }
    where
      cancel : (u ⊕ s ⊗ t) ⊗ w ⊕ s ⊗ (⊖ (t ⊗ w)) ≡ u ⊗ w
      cancel =
          ap (λ x. (u ⊕ s ⊗ t) ⊗ w ⊕ x) (Sums.mul_neg R s (t ⊗ w))
          ∙ Sums.from_sum R (Sums.distrib_right R u (s ⊗ t) w ∙ ap (λ x. u ⊗ w ⊕ x) (mul_assoc s t w))

      whole : (u ⊕ s ⊗ t) ⊗ w ⊕ s ⊗ (⊖ (t ⊗ w)) ≡ 𝟙
      whole = cancel ∙ e

  -- the powers of s from one that is zero on are zero
  pub power_past : (s : A) (d n : ℕ) → powerˡ R s d ≡ 𝟘 → d ≤ n → powerˡ R s n ≡ 𝟘
  power_past s d n h le =
      let e : d + (n - d) ≡ n = omega arith in
      ap (powerˡ R s) (sym e) ∙ Sums.power_add R s d (n - d) ∙ ap (λ x. x ⊗ powerˡ R s (n - d)) h ∙ Sums.zero_mul R (powerˡ R s (n - d))

-- over the lawful elements of a kind, from its ring laws and the end of its step's powers
module _ {E : Type 0} (R : Ring E) (L : RingLaws R) (ends : power R R.step R.depth ≡ R.zero) where
  abbrev Lawful : Type 0
  Lawful = (a : E) × T (R.lawful a)

  abbrev ring : CommRing Lawful
  ring = lawful_ring R L

  abbrev step : Lawful
  step = (R.step, L.step_lawful)

  pub power_same : (n : ℕ) → (powerˡ ring step n).0 ≡ power R R.step n
  unfolding power powerˡ
  power_same zero = refl
  power_same (suc n) = ap (λ x. R.mul x R.step) (power_same n)

  power_ends : (n : ℕ) → R.depth ≤ n → powerˡ ring step n ≡ ring.𝟘
  power_ends n le = power_past ring step R.depth n (same_element R (power_same R.depth ∙ ends)) le

  -- w inverts u as far as the n-th power of the step
  pub record Inverts (u w : E) (n : ℕ) : Type 0 where
    pub lawful : T (R.lawful w)
    pub rest : E
    pub rest_lawful : T (R.lawful rest)
    pub eq : R.add (R.mul u w) (R.mul (power R R.step n) rest) ≡ R.one

  near : (u w : E) (n : ℕ) (hu : T (R.lawful u)) (h : Inverts u w n) → Near ring (u, hu) (w, h.lawful) (powerˡ ring step n)
  near u w n hu h = record {
    rest = (h.rest, h.rest_lawful);
    eq = same_element R (ap (λ y. R.add (R.mul u w) (R.mul y h.rest)) (power_same n) ∙ h.eq);
  }

  moved : {a b : E} → a ≡ b → T (R.lawful b) → T (R.lawful a)
  moved e h = subst (λ v. T (R.lawful v)) (sym e) h

  -- a turn of the loop that inverts, from what the calls of a kind ensure: r = w (2 - u w)
  pub inverts_twice : (u w two x c r : E) (n : ℕ) → T (R.lawful u)
      → (T (R.lawful R.one) → T (R.lawful R.one) → two ≡ R.add R.one R.one)
      → (T (R.lawful u) → T (R.lawful w) → x ≡ R.mul u w)
      → (T (R.lawful two) → T (R.lawful x) → c ≡ R.sub two x)
      → (T (R.lawful w) → T (R.lawful c) → r ≡ R.mul w c)
      → Inverts u w n → Inverts u r (n + n)
  inverts_twice u w two x c r n hu two_is x_is c_is r_is h =
      record { lawful = lawful_r; rest = next.rest.0; rest_lawful = next.rest.1; eq = whole }
    where
      W : Lawful
      W = (w, h.lawful)

      e_two : two ≡ R.add R.one R.one
      e_two = two_is L.one_lawful L.one_lawful

      e_x : x ≡ R.mul u w
      e_x = x_is hu h.lawful

      ok_two : T (R.lawful two)
      ok_two = moved e_two (L.add_lawful _ _ L.one_lawful L.one_lawful)

      ok_x : T (R.lawful x)
      ok_x = moved e_x (L.mul_lawful u w hu h.lawful)

      e_c : c ≡ R.sub two x
      e_c = c_is ok_two ok_x

      ok_c : T (R.lawful c)
      ok_c = moved e_c (L.sub_lawful two x ok_two ok_x)

      e_r : r ≡ R.mul w c
      e_r = r_is h.lawful ok_c

      lawful_r : T (R.lawful r)
      lawful_r = moved e_r (L.mul_lawful w c h.lawful ok_c)

      left : R.add c (R.mul u w) ≡ R.add R.one R.one
      left = ap₂ R.add e_c (sym e_x) ∙ L.sub_add two x ok_two ok_x ∙ e_two

      next : Near ring (u, hu) (R.mul w c, L.mul_lawful w c h.lawful ok_c) (ring.◌⊗◌ (powerˡ ring step n) (powerˡ ring step n))
      next = newton ring (u, hu) W (powerˡ ring step n) (c, ok_c) (near u w n hu h) (same_element R left)

      both : (ring.◌⊗◌ (powerˡ ring step n) (powerˡ ring step n)).0 ≡ power R R.step (n + n)
      both = ap (λ z. z.0) (sym (Sums.power_add ring step n n)) ∙ power_same (n + n)

      whole : R.add (R.mul u r) (R.mul (power R R.step (n + n)) next.rest.0) ≡ R.one
      whole = ap₂ (λ y z. R.add (R.mul u y) (R.mul z next.rest.0)) e_r (sym both) ∙ ap (λ z. z.0) next.eq

  -- from the depth on, what inverts is the inverse
  pub inverts_whole : (u w v : E) (n : ℕ) → T (R.lawful u) → R.depth ≤ n → Inverts u w n → T (R.lawful v) → R.mul u v ≡ R.one → w ≡ v
  inverts_whole u w v n hu le h hv e =
      ap (λ x. x.0) (inverse_unique ring (u, hu) (w, h.lawful) (v, hv)
      (near_whole ring (u, hu) (w, h.lawful) (powerˡ ring step n) (power_ends n le) (near u w n hu h)) (same_element R e))

  -- what has an inverse modulo the step is a unit
  pub unit_modulo : (u w t : E) → T (R.lawful u) → T (R.lawful w) → T (R.lawful t)
      → R.add (R.mul u w) (R.mul R.step t) ≡ R.one → (v : E) × UnitOf R u v
  unit_modulo u w t hu hw ht e =
      let first : Near ring (u, hu) (w, hw) step = record { rest = (t, ht); eq = same_element R e } in
      let r = near_power ring (u, hu) (w, hw) step first R.depth in
      let k = near_whole ring (u, hu) r.0 (powerˡ ring step R.depth) (power_ends R.depth (omega arith)) r.1 in
      (r.0.0, record { left = hu; right = r.0.1; product = ap (λ x. x.0) k })

  -- a unit plus a multiple of the step is a unit
  pub unit_plus : (u w t : E) → UnitOf R u w → T (R.lawful t) → (v : E) × UnitOf R (R.add u (R.mul R.step t)) v
  unit_plus u w t h ht =
      let s = near_add ring (u, h.left) (w, h.right) step (t, ht) (same_element R h.product) in
      unit_modulo (R.add u (R.mul R.step t)) w s.rest.0 (L.add_lawful _ _ h.left (L.mul_lawful _ _ L.step_lawful ht)) h.right s.rest.1
      (ap (λ x. x.0) s.eq)
