-- That eight places are the same as their first d coefficients, and so that the polynomials in them keep the laws of a kind.
use Rattle.std.specs.Prelude.{◌≡◌, ℕ, zero, suc, ◌%◌, ◌<◌, ◌≤◌, Bool, true, false, cond, ◌&&◌, T, ltb, List, length, ◌==◌, nat_lt, slice_index, refl}
use Rattle.std.proofs.Math.Path.{sym}
use Rattle.std.proofs.Common.{ap, subst, ◌∙◌, mod-eq_of_lt, arith, eqb→eq, ltb→lt, lt→ltb}
use Rattle.std.proofs.Math.Decide.{dec_lt}
use Rattle.std.proofs.lemmas.List.FromFn.{length-map-range_with_len, get_or-map-range_with_len, fill_by_all}
use Rattle.ring.specs.Ring.{Laws}
use Rattle.ring.specs.Truncated.{Packs}
use Rattle.ring.proofs.Truncated.{truncated_laws}
use Rattle.inverses.specs.Bases.{listed}
use Rattle.inverses.proofs.Bases.{both_left, both_right}
use Rattle.truncated.specs.declared.polynomial.Polynomial.{Polynomial}
use Rattle.truncated.specs.Remainders.{Remainder, same_remainder, remainder_same, remainders, remainders_distinct, remainders_field}
use Rattle.truncated.specs.Polynomials.{bound, every, fits, places, eight, polynomials}

pub both : (a b : Bool) → T a → T b → T (a && b)
both true b s t = t
both false b s t = absurd s

pub every_at : (n : ℕ) (f : ℕ → Bool) → T (every n f) → (j : ℕ) → j < n → T (f j)
unfolding every
every_at zero f t j lt = absurd (omega arith)
every_at (suc n) f t j lt = at (every_at n f (both_left (every n f) (f n) t) j) (dec_lt j n)
  where
    at : (j < n → T (f j)) → Dec (j < n) → T (f j)
    at rest (yes less) = rest less
    at rest (no not) = subst (λ (k : ℕ). T (f k)) (let e : n ≡ j = omega arith in e) (both_right (every n f) (f n) t)

pub every_of : (n : ℕ) (f : ℕ → Bool) → ((j : ℕ) → j < n → T (f j)) → T (every n f)
unfolding every
every_of zero f all = tt
every_of (suc n) f all = both (every n f) (f n) (every_of n f (λ j lt. all j (omega arith))) (all n (omega arith))

pub cond_yes : (b : Bool) (x y : ℕ) → T b → cond b x y ≡ x
cond_yes true x y t = refl
cond_yes false x y t = absurd t

pub cond_no : (b : Bool) (x y : ℕ) → (T b → ⊥) → cond b x y ≡ y
cond_no true x y t = absurd (t tt)
cond_no false x y t = refl

module _ (d : ℕ) where
  pub length_places : (f : ℕ → ℕ) → length (places d f) ≡ 8
  unfolding places
  length_places f = length-map-range_with_len (λ j. cond (nat_lt j d) (f j) 0) 0 8

  pub get_or_places : (f : ℕ → ℕ) (j : ℕ) → j < 8 → slice_index (places d f) j ≡ cond (nat_lt j d) (f j) 0
  unfolding places
  get_or_places f j lt = get_or-map-range_with_len (λ j. cond (nat_lt j d) (f j) 0) 0 8 j j 0 lt (omega arith)

  -- eight places that hold f below d, and 0 from there on
  pub places_of : (f : ℕ → ℕ) (xs : List ℕ) → length xs ≡ 8 → ((j : ℕ) → j < 8 → j < d → slice_index xs j ≡ f j)
      → ((j : ℕ) → j < 8 → d ≤ j → slice_index xs j ≡ 0) → xs ≡ places d f
  unfolding places
  places_of f xs long below from = fill_by_all (λ j. cond (nat_lt j d) (f j) 0) xs 8 0 long (λ j lt. at j lt (dec_lt j d))
    where
      at : (j : ℕ) → j < 8 → Dec (j < d) → slice_index xs j ≡ cond (nat_lt j d) (f j) 0
      at j lt (yes less) = below j lt less ∙ sym (cond_yes (nat_lt j d) (f j) 0 (lt→ltb j d less))
      at j lt (no not) = from j lt (omega arith) ∙ sym (cond_no (nat_lt j d) (f j) 0 (λ t. not (ltb→lt j d t)))

pub bound_low : (p d j : ℕ) → j < d → bound p d j ≡ p
bound_low p d j lt = cond_yes (nat_lt j d) p 1 (lt→ltb j d lt)

pub bound_high : (p d j : ℕ) → d ≤ j → bound p d j ≡ 1
bound_high p d j le = cond_no (nat_lt j d) p 1 (λ t. omega (arith, ltb→lt j d t))

module _ (p : ℕ) (h : T (listed p)) (d : ℕ) where
  -- what a lawful polynomial holds
  pub lawful_long : (a : Polynomial) → T (fits p d a.coefficients) → length a.coefficients ≡ 8
  lawful_long a t = eqb→eq (length a.coefficients) 8 (both_left _ (every 8 (λ j. ltb (slice_index a.coefficients j) (bound p d j))) t)

  pub lawful_bound : (a : Polynomial) → T (fits p d a.coefficients) → (j : ℕ) → j < 8 → slice_index a.coefficients j < bound p d j
  lawful_bound a t j lt =
      ltb→lt (slice_index a.coefficients j) (bound p d j)
      (every_at 8 (λ j. ltb (slice_index a.coefficients j) (bound p d j)) (both_right (length a.coefficients == 8) _ t) j lt)

  pub lawful_below : (a : Polynomial) → T (fits p d a.coefficients) → (j : ℕ) → j < 8 → j < d → slice_index a.coefficients j < p
  lawful_below a t j lt less = subst (λ (n : ℕ). slice_index a.coefficients j < n) (bound_low p d j less) (lawful_bound a t j lt)

  pub lawful_zero : (a : Polynomial) → T (fits p d a.coefficients) → (j : ℕ) → j < 8 → d ≤ j → slice_index a.coefficients j ≡ 0
  lawful_zero a t j lt le =
      let below = subst (λ (n : ℕ). slice_index a.coefficients j < n) (bound_high p d j le) (lawful_bound a t j lt) in
      omega arith

  pub eight_packs : d ≤ 8 → Packs (eight p h d) d
  eight_packs high = record { inside = inside; reads = reads; first = first; back = back }
    where
      inside : (f : ℕ → Remainder p) → T (fits p d (places d (λ j. (f j).0)))
      inside f = both (length (places d (λ j. (f j).0)) == 8) (every 8 (λ j. ltb (slice_index (places d (λ j. (f j).0)) j) (bound p d j)))
          (subst (λ (n : ℕ). T (n == 8)) (sym (length_places d (λ j. (f j).0))) tt)
          (every_of 8 _ (λ j lt. subst (λ (n : ℕ). T (nat_lt n (bound p d j))) (sym (get_or_places d (λ j. (f j).0) j lt)) (at (nat_lt j d) (f j))))
        where
          at : (b : Bool) (r : Remainder p) → T (nat_lt (cond b r.0 0) (cond b p 1))
          at true r = r.1
          at false r = tt

      reads : (f : ℕ → Remainder p) (j : ℕ) → j < d → (eight p h d).coefficient ((eight p h d).pack f) j ≡ f j
      reads f j lt = same_remainder p h (ap (λ (n : ℕ). n % p) (get_or_places d (λ j. (f j).0) j (omega arith) ∙ cond_yes (nat_lt j d) (f j).0 0 (lt→ltb j d lt)) ∙ remainder_same p h (f j))

      first : (f g : ℕ → Remainder p) → ((j : ℕ) → j < d → f j ≡ g j) → (eight p h d).pack f ≡ (eight p h d).pack g
      first f g e = ap (λ (xs : List ℕ). record { coefficients = xs }) (places_of d (λ j. (g j).0) (places d (λ j. (f j).0)) (length_places d (λ j. (f j).0))
          (λ j lt less. get_or_places d (λ j. (f j).0) j lt ∙ cond_yes (nat_lt j d) (f j).0 0 (lt→ltb j d less) ∙ ap (λ (r : Remainder p). r.0) (e j less))
          (λ j lt le. get_or_places d (λ j. (f j).0) j lt ∙ cond_no (nat_lt j d) (f j).0 0 (λ t. omega (arith, ltb→lt j d t))))

      back : (a : Polynomial) → T (fits p d a.coefficients) → (eight p h d).pack ((eight p h d).coefficient a) ≡ a
      back a t = ap (λ (xs : List ℕ). record { coefficients = xs }) (sym (places_of d (λ j. ((eight p h d).coefficient a j).0) a.coefficients (lawful_long a t)
          (λ j lt less. sym (mod-eq_of_lt (lawful_below a t j lt less))) (lawful_zero a t)))

  pub polynomials_laws : 1 ≤ d → d ≤ 8 → Laws (polynomials p h d)
  polynomials_laws low high =
      truncated_laws (remainders p h) (eight_packs high) (remainders_field p h) (remainders_distinct p h) low (omega arith)
