-- What each call on a capture does: one relation a call, between what it is given and what it leaves.
-- The relation is of both outcomes: carried out, if no row of its refusals fits; else refused by the first that fits, and all is as before.
use Rattle.std.specs.Prelude.{◌≡◌, ℕ, ◌+◌, ◌-◌, ◌*◌, ◌/◌, ◌<◌, ◌≤◌, min, ◌≢◌, ◌⊎◌, List, [], ◌∷◌, length, Ok, Err, Result, slice_index}
use Rattle.ring.specs.Ring.{Ring}
use Rattle.ring.specs.declared.Refusal.{Refusal}
use Rattle.ring.specs.declared.Refusal.TheVariants.{Channels, Short, Full, Foreign, Back}
use Rattle.ring.specs.Refusals.{Row, Call}
use Rattle.recurrence.specs.declared.shape.Shape.{Shape}
use Rattle.recurrence.specs.declared.shape.Level.{Level}
use Rattle.recurrence.specs.Memory.{at, Unlawful, Written}
use Rattle.recurrence.specs.Polynomials.{Lawful}
use Rattle.recurrence.specs.Words.{words, Length}
use Rattle.recurrence.specs.Lent.{ShortWords, ForeignWords, ShortFinding}
use Rattle.annihilator.specs.Calls.{work_size, Sought}
use Rattle.capture.specs.declared.Open.{Open}
use Rattle.capture.specs.declared.Found.{Found}

-- the number of words that a capture holds
abbrev pub held : {K : Type 0} → Open K → ℕ
held o = o.shape.count.words

-- after is the same capture with k words
pub record Holding {K : Type 0} (before : Open K) (k : ℕ) (after : Open K) : Type 0 where
  pub kind : after.kind ≡ before.kind
  pub channels : after.shape.channels ≡ before.shape.channels
  pub capacity : after.shape.capacity ≡ before.shape.capacity
  pub count : after.shape.count.words ≡ k

abbrev pub opening : ℕ → List Row
opening n = ((n < 1) ⊎ (4 < n), Channels) ∷ []

-- a new capture of n channels, with no words; the memory says how many it may come to hold
pub record New {K : Type 0} (k : K) (n room : ℕ) (o : Open K) : Type 0 where
  pub kind : o.kind ≡ k
  pub channels : o.shape.channels ≡ n
  pub capacity : o.shape.capacity ≡ min 128 (room / n)
  pub count : o.shape.count.words ≡ 0

abbrev pub Opened : {K E : Type 0} → K → ℕ → List E → Result (Open K) Refusal → Type 0
Opened k n ws r = Call (opening n) r (λ o. New k n (length ws) o) (Unit {0})

abbrev pub taking_back : {K : Type 0} → Open K → ℕ → List Row
taking_back o m = (held o < m, Back) ∷ []

abbrev pub TookBack : {K : Type 0} → Open K → ℕ → Result Unit Refusal → Open K → Type 0
TookBack o m r o' = Call (taking_back o m) r (λ _. Holding o (held o - m) o') (o' ≡ o)

-- reopen is never refused
pub record Reopened {K : Type 0} (f : Found K) (o : Open K) : Type 0 where
  pub kind : o.kind ≡ f.kind
  pub shape : o.shape ≡ f.shape

-- at place j, for j from 0 to the number of words, lies the length at level 0 of the first j words; past that all is as it was
pub record Lengths {E : Type 0} (R : Ring E) (s : Shape) (ws : List E) (numbers numbers' : List ℕ) : Type 0 where
  pub size : length numbers' ≡ length numbers
  pub there : (j : ℕ) → j ≤ s.count.words → Length R s.channels j (words R s ws) 0 (slice_index numbers' j)
  pub after : (j : ℕ) → s.count.words < j → slice_index numbers' j ≡ slice_index numbers j

module _ {K E : Type 0} (ring : K → Ring E) where
  abbrev pub feeding : Open K → List E → List E → List Row
  feeding o ws word =
      (length word ≢ o.shape.channels, Channels)
      ∷ (ShortWords o.shape ws, Short)
      ∷ (o.shape.capacity < held o + 1, Full)
      ∷ (Unlawful (ring o.kind) word (length word), Foreign)
      ∷ []

  -- the word lies behind those held
  abbrev pub Fed : Open K → List E → List E → Result Unit Refusal → Open K → List E → Type 0
  Fed o ws word r o' ws' =
      Call (feeding o ws word) r
      (λ _. Holding o (held o + 1) o' × Written ws ws' (held o * o.shape.channels) o.shape.channels (at (ring o.kind) word))
      ((o' ≡ o) × (ws' ≡ ws))

  -- of a source s there are known its kind and its list, the elements to come
  module _ {S : Type 0} (kind_of : S → K) (list : S → ℕ → E) where
    abbrev pub drawing : Open K → List E → S → ℕ → List Row
    drawing o ws s m =
        (1 < o.shape.channels, Channels)
        ∷ (ShortWords o.shape ws, Short)
        ∷ (o.shape.capacity < held o + m, Full)
        ∷ (kind_of s ≢ o.kind, Foreign)
        ∷ []

    -- the first m elements of the list, which are lawful, lie behind the words held, and the list then begins at the next one
    abbrev pub Drew : Open K → List E → S → ℕ → Result Unit Refusal → Open K → List E → S → Type 0
    Drew o ws s m r o' ws' s' =
        Call (drawing o ws s m) r
        (λ _. Holding o (held o + m) o' × Written ws ws' (held o) m (list s) × Lawful (ring (kind_of s)) (list s)
        × ((t : ℕ) → list s' t ≡ list s (m + t)) × (kind_of s' ≡ kind_of s))
        ((o' ≡ o) × (ws' ≡ ws) × (s' ≡ s))

  -- the finding of the words held lies in the table and the memory, and the capture stands found; refused, the open capture is given back
  abbrev pub Finds : Open K → List E → List Level → List E → List E → Result (Found K) (Refusal × Open K) → List Level → List E → List E → Type 0
  Finds o ws levels fm work (Ok f) levels' fm' work' =
      Sought (ring o.kind) o.shape ws levels fm work (Ok tt) levels' fm' work' × (f.kind ≡ o.kind) × (f.shape ≡ o.shape)
  Finds o ws levels fm work (Err e) levels' fm' work' =
      Sought (ring o.kind) o.shape ws levels fm work (Err e.0) levels' fm' work' × (e.1 ≡ o)

  abbrev pub profiling : Open K → List E → List ℕ → List E → List E → List Row
  profiling o ws numbers work fm =
      ((length numbers < held o + 1) ⊎ (ShortWords o.shape ws ⊎ (ShortFinding (ring o.kind) o.shape fm ⊎ (length work < work_size (ring o.kind) o.shape))), Short)
      ∷ (ForeignWords (ring o.kind) o.shape ws, Foreign)
      ∷ []

  -- the profile is written, and the count is as it was
  abbrev pub Profiled : Open K → List E → List ℕ → List E → List E → Result Unit Refusal → Open K → List ℕ → List E → List E → Type 0
  Profiled o ws numbers work fm r o' numbers' work' fm' =
      Call (profiling o ws numbers work fm) r
      (λ _. Holding o (held o) o' × Lengths (ring o.kind) o.shape ws numbers numbers' × (length work' ≡ length work) × (length fm' ≡ length fm))
      ((o' ≡ o) × (numbers' ≡ numbers) × (work' ≡ work) × (fm' ≡ fm))
