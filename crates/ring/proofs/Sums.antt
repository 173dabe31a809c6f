-- Laws of commutative rings and of finite sums.
use Rattle.std.proofs.Common.{◌≡◌, ℕ, zero, suc, ◌+◌, ◌<◌, ◌≤◌, sym, refl, ap, ◌∙◌, ap₂, arith}
use Rattle.ring.specs.Commutative.{CommRing, sum, power}

module _ {A : Type 0} (R : CommRing A) where
  infixl 60 ◌⊕◌
  infixl 70 ◌⊗◌
  infix 80 ⊖◌
  open R use {𝟘, 𝟙, ◌⊕◌, ◌⊗◌, ⊖◌, add_assoc, add_comm, add_zero, add_neg, mul_assoc, mul_comm, mul_one, distrib}

  pub add_left_comm : (x y z : A) → x ⊕ (y ⊕ z) ≡ y ⊕ (x ⊕ z)
  add_left_comm x y z = sym (add_assoc x y z) ∙ ap (λ w. w ⊕ z) (add_comm x y) ∙ add_assoc y x z

  pub mul_left_comm : (x y z : A) → x ⊗ (y ⊗ z) ≡ y ⊗ (x ⊗ z)
  mul_left_comm x y z = sym (mul_assoc x y z) ∙ ap (λ w. w ⊗ z) (mul_comm x y) ∙ mul_assoc y x z

  pub zero_add : (x : A) → 𝟘 ⊕ x ≡ x
  zero_add x = add_comm 𝟘 x ∙ add_zero x

  pub neg_add : (x : A) → (⊖ x) ⊕ x ≡ 𝟘
  neg_add x = add_comm (⊖ x) x ∙ add_neg x

  pub one_mul : (x : A) → 𝟙 ⊗ x ≡ x
  one_mul x = mul_comm 𝟙 x ∙ mul_one x

  pub distrib_right : (x y z : A) → (x ⊕ y) ⊗ z ≡ (x ⊗ z) ⊕ (y ⊗ z)
  distrib_right x y z = mul_comm (x ⊕ y) z ∙ distrib z x y ∙ ap₂ ◌⊕◌ (mul_comm z x) (mul_comm z y)

  -- x + y = x gives y = 0
  pub add_cancel : (x y : A) → x ⊕ y ≡ x → y ≡ 𝟘
  add_cancel x y e = sym (zero_add y) ∙ ap (λ w. w ⊕ y) (sym (neg_add x)) ∙ add_assoc (⊖ x) x y ∙ ap (λ w. (⊖ x) ⊕ w) e ∙ neg_add x

  pub mul_zero : (x : A) → x ⊗ 𝟘 ≡ 𝟘
  mul_zero x = add_cancel (x ⊗ 𝟘) (x ⊗ 𝟘) (sym (distrib x 𝟘 𝟘) ∙ ap (λ w. x ⊗ w) (add_zero 𝟘))

  pub zero_mul : (x : A) → 𝟘 ⊗ x ≡ 𝟘
  zero_mul x = mul_comm 𝟘 x ∙ mul_zero x

  pub regroup : (a b c d : A) → (a ⊕ b) ⊕ (c ⊕ d) ≡ (a ⊕ c) ⊕ (b ⊕ d)
  regroup a b c d = simp (add_assoc, add_left_comm)

  pub sum_ext : (n : ℕ) (f g : ℕ → A) → ((j : ℕ) → j < n → f j ≡ g j) → sum R n f ≡ sum R n g
  unfolding sum
  sum_ext zero f g h = refl
  sum_ext (suc n) f g h = ap₂ ◌⊕◌ (sum_ext n f g (λ j below. h j (omega arith))) (h n (omega arith))

  pub sum_suc : (n : ℕ) (f : ℕ → A) → sum R (suc n) f ≡ sum R n f ⊕ f n
  unfolding sum
  sum_suc n f = refl

  pub sum_add : (n : ℕ) (f g : ℕ → A) → sum R n (λ j. f j ⊕ g j) ≡ sum R n f ⊕ sum R n g
  unfolding sum
  sum_add zero f g = sym (add_zero 𝟘)
  sum_add (suc n) f g = ap (λ w. w ⊕ (f n ⊕ g n)) (sum_add n f g) ∙ regroup (sum R n f) (sum R n g) (f n) (g n)

  pub sum_scale : (n : ℕ) (x : A) (f : ℕ → A) → sum R n (λ j. x ⊗ f j) ≡ x ⊗ sum R n f
  unfolding sum
  sum_scale zero x f = sym (mul_zero x)
  sum_scale (suc n) x f = ap (λ w. w ⊕ x ⊗ f n) (sum_scale n x f) ∙ sym (distrib x (sum R n f) (f n))

  pub sum_zero : (n : ℕ) → sum R n (λ _. 𝟘) ≡ 𝟘
  unfolding sum
  sum_zero zero = refl
  sum_zero (suc n) = add_zero (sum R n (λ _. 𝟘)) ∙ sum_zero n

  pub sum_none : (n : ℕ) (f : ℕ → A) → ((j : ℕ) → j < n → f j ≡ 𝟘) → sum R n f ≡ 𝟘
  sum_none n f h = sum_ext n f (λ _. 𝟘) h ∙ sum_zero n

  pub sum_swap : (m n : ℕ) (f : ℕ → ℕ → A) → sum R m (λ i. sum R n (λ j. f i j)) ≡ sum R n (λ j. sum R m (λ i. f i j))
  unfolding sum
  sum_swap zero n f = sym (sum_zero n)
  sum_swap (suc m) n f = ap (λ w. w ⊕ sum R n (λ j. f m j)) (sum_swap m n f) ∙ sym (sum_add n (λ j. sum R m (λ i. f i j)) (λ j. f m j))

  -- the tail of zeros adds nothing
  pub sum_stretch : (m k : ℕ) (f : ℕ → A) → ((j : ℕ) → m ≤ j → f j ≡ 𝟘) → sum R (k + m) f ≡ sum R m f
  sum_stretch m zero f h = ap (λ w. sum R w f) (omega arith)
  sum_stretch m (suc k) f h =
      let more : suc k + m ≡ suc (k + m) = omega arith in
      rw (more, sum_suc, h (k + m) (omega arith)) (add_zero (sum R (k + m) f) ∙ sum_stretch m k f h)

  pub sum_split : (k n : ℕ) (f : ℕ → A) → sum R (k + n) f ≡ sum R k f ⊕ sum R n (λ j. f (k + j))
  unfolding sum
  sum_split k zero f = ap (λ w. sum R w f) (omega arith) ∙ sym (add_zero (sum R k f))
  sum_split k (suc n) f =
      let e : k + suc n ≡ suc (k + n) = omega arith in
      rw (e, sum_suc) (ap (λ w. w ⊕ f (k + n)) (sum_split k n f) ∙ add_assoc _ _ _ ∙ ap (λ w. sum R k f ⊕ w) (sym (sum_suc n (λ j. f (k + j)))))

  pub neg_of : (x y : A) → x ⊕ y ≡ 𝟘 → x ≡ ⊖ y
  neg_of x y e =
      sym (add_zero x) ∙ ap (λ w. x ⊕ w) (sym (add_neg y)) ∙ sym (add_assoc x y (⊖ y)) ∙ ap (λ w. w ⊕ (⊖ y)) e ∙ zero_add (⊖ y)

  pub neg_mul : (x y : A) → (⊖ x) ⊗ y ≡ ⊖ (x ⊗ y)
  neg_mul x y = neg_of (⊖ x ⊗ y) (x ⊗ y) (sym (distrib_right (⊖ x) x y) ∙ ap (λ w. w ⊗ y) (neg_add x) ∙ zero_mul y)

  pub sub_zero_eq : (x y : A) → x ⊕ (⊖ y) ≡ 𝟘 → x ≡ y
  sub_zero_eq x y e = sym (add_zero x) ∙ ap (λ w. x ⊕ w) (sym (neg_add y)) ∙ sym (add_assoc x (⊖ y) y) ∙ ap (λ w. w ⊕ y) e ∙ zero_add y

  neg_unique : (x y : A) → x ⊕ y ≡ 𝟘 → y ≡ ⊖ x
  neg_unique x y e = neg_of y x (add_comm y x ∙ e)

  pub neg_zero : ⊖ 𝟘 ≡ 𝟘
  neg_zero = sym (neg_unique 𝟘 𝟘 (add_zero 𝟘))

  pub mul_neg : (x y : A) → x ⊗ (⊖ y) ≡ ⊖ (x ⊗ y)
  mul_neg x y = mul_comm x (⊖ y) ∙ neg_mul y x ∙ ap ⊖◌ (mul_comm y x)

  pub from_sum : {a b c : A} → a ≡ c ⊕ b → a ⊕ (⊖ b) ≡ c
  from_sum {b = b} {c = c} e = ap (λ z. z ⊕ (⊖ b)) e ∙ add_assoc c b (⊖ b) ∙ ap (λ z. c ⊕ z) (add_neg b) ∙ add_zero c

  -- the sum from its first term
  pub sum_front : (n : ℕ) (f : ℕ → A) → sum R (suc n) f ≡ f 0 ⊕ sum R n (λ j. f (suc j))
  unfolding sum
  sum_front zero f = add_comm 𝟘 (f 0)
  sum_front (suc n) f = ap (λ z. z ⊕ f (suc n)) (sum_front n f) ∙ add_assoc (f 0) (sum R n (λ j. f (suc j))) (f (suc n))

  pub power_add : (x : A) (a b : ℕ) → power R x (a + b) ≡ power R x a ⊗ power R x b
  unfolding power
  power_add x a zero = ap (power R x) (omega arith) ∙ sym (mul_one (power R x a))
  power_add x a (suc b) =
      let e : a + suc b ≡ suc (a + b) = omega arith in
      ap (power R x) e ∙ ap (λ z. z ⊗ x) (power_add x a b) ∙ mul_assoc (power R x a) (power R x b) x
