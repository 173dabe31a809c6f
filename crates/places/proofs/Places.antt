-- Places of a capture as numbers.
use Rattle.std.proofs.Common.{◌≡◌, ℕ, ◌+◌, ◌-◌, ◌*◌, ◌/◌, ◌%◌, ◌<◌, ◌≤◌, ap, mul-le-mul_right, div-lt_iff_lt-mul, add-mul, div-add-mod', arith}
use Rattle.recurrence.specs.declared.shape.Shape.{Shape}
use Rattle.recurrence.specs.Words.{place}
use Rattle.places.specs.Places.{places}

-- a row ends where the next begins
pub row_next : (i w : ℕ) → (i + 1) * w ≡ i * w + w
row_next i w = omega (arith, add-mul i 1 w)

-- two rows of w apart
pub apart : (i j w : ℕ) → i < j → i * w + w ≤ j * w
apart i j w h = omega (arith, row_next i w, mul-le-mul_right {m = i + 1} {n = j} w (omega arith))

-- the rows below d end within d * w places
pub row_within : (i w d n : ℕ) → i < d → d * w ≡ n → i * w + w ≤ n
row_within i w d n h e = omega (arith, apart i d w h)

module _ (shape : Shape) where
  abbrev n : ℕ
  n = shape.channels

  abbrev e : ℕ
  e = shape.count.words

  pub wide : 0 < n
  wide = omega (arith, shape.ok)

  -- the place q lies where it is numbered
  pub place_of : (q : ℕ) → place shape (q / n) (q % n) ≡ q
  place_of q = div-add-mod' q n

  pub held_within : e * n ≤ shape.capacity * n
  held_within = mul-le-mul_right {m = e} {n = shape.capacity} n shape.ok.0

  -- a place that counts for the degree m, j ≤ m words on
  pub place_within : (q m j : ℕ) → m ≤ e → j ≤ m → q < places shape m → q + j * n < e * n
  place_within q m j small h k =
      let e' : e ≡ e - m + m = omega arith in
      omega (arith, ap (λ z. z * n) e', add-mul (e - m) m n, mul-le-mul_right {m = j} {n = m} n h)

  pub place_counts : (q m : ℕ) → m ≤ e → q / n + m < e → q < places shape m
  place_counts q m h k = (div-lt_iff_lt-mul {k = n} {x = q} {y = e - m} wide).0 (omega arith)

  pub counts_place : (q m : ℕ) → m ≤ e → q < places shape m → q / n + m < e
  counts_place q m h k = omega (arith, (div-lt_iff_lt-mul {k = n} {x = q} {y = e - m} wide).1 k)
