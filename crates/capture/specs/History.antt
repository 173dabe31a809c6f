-- The lists of calls on one capture.
use Rattle.std.specs.Prelude.{◌≡◌, ℕ, zero, suc, ◌<◌, cond, List, [], ◌∷◌, ◌++◌, length, Some, None, Ok, Err, Option, Result, nat_lt}
use Rattle.ring.specs.Ring.{Ring}
use Rattle.ring.specs.declared.Refusal.{Refusal}
use Rattle.recurrence.specs.declared.shape.Shape.{Shape}
use Rattle.recurrence.specs.declared.shape.Level.{Level}
use Rattle.capture.specs.declared.Open.{Open}
use Rattle.capture.specs.declared.Found.{Found}
use Rattle.capture.specs.Calls.{held, Opened, TookBack, Reopened, Fed, Drew, Finds, Profiled}

-- how a capture stands: open, or found, with the finding's table and memory
pub data Stand (K E : Type 0) : Type 0 where
  stands_open : Open K → Stand K E
  stands_found : Found K → List Level → List E → Stand K E

module _ {K E : Type 0} where
  abbrev pub kind_of : Stand K E → K
  kind_of (stands_open o) = o.kind
  kind_of (stands_found f levels fm) = f.kind

  abbrev pub shape_of : Stand K E → Shape
  shape_of (stands_open o) = o.shape
  shape_of (stands_found f levels fm) = f.shape

  -- how find leaves the capture: found, or open if it was refused
  abbrev pub answered : Result (Found K) (Refusal × Open K) → List Level → List E → Stand K E
  answered (Ok f) levels fm = stands_found f levels fm
  answered (Err e) levels fm = stands_open e.1

-- all that is known of a source: its kind, and the elements to come
pub record Meaning (K E : Type 0) : Type 0 where
  pub kind : K
  pub list : ℕ → E

-- the calls, carried out or refused, that led to a capture as it stands and to the memory of its words
pub data History {K E : Type 0} (ring : K → Ring E) : Stand K E → List E → Type 0 where
  opened : {o : Open K} {ws : List E} (k : K) (n : ℕ) → Opened k n ws (Ok o) → History ring (stands_open o) ws
  fed : {o o' : Open K} {ws ws' : List E} → History ring (stands_open o) ws → (word : List E) (r : Result Unit Refusal)
      → Fed ring o ws word r o' ws' → History ring (stands_open o') ws'
  drew : {o o' : Open K} {ws ws' : List E} → History ring (stands_open o) ws → (s s' : Meaning K E) (m : ℕ) (r : Result Unit Refusal)
      → Drew ring (λ z. z.kind) (λ z. z.list) o ws s m r o' ws' s' → History ring (stands_open o') ws'
  took_back : {o o' : Open K} {ws : List E} → History ring (stands_open o) ws → (m : ℕ) (r : Result Unit Refusal)
      → TookBack o m r o' → History ring (stands_open o') ws
  sought : {o : Open K} {ws : List E} → History ring (stands_open o) ws → (levels levels' : List Level) (fm fm' work work' : List E) (r : Result (Found K) (Refusal × Open K))
      → Finds ring o ws levels fm work r levels' fm' work' → History ring (answered r levels' fm') ws
  reopened : {f : Found K} {o : Open K} {ws : List E} (levels : List Level) (fm : List E) → History ring (stands_found f levels fm) ws
      → Reopened f o → History ring (stands_open o) ws
  profiled : {o o' : Open K} {ws : List E} → History ring (stands_open o) ws → (numbers numbers' : List ℕ) (work work' fm fm' : List E) (r : Result Unit Refusal)
      → Profiled ring o ws numbers work fm r o' numbers' work' fm' → History ring (stands_open o') ws

module _ {K E : Type 0} (ring : K → Ring E) where
  -- the lists of the draws that were not refused, in their order
  unfoldable pub draws : {t : Stand K E} {ws : List E} → History ring t ws → List (ℕ → E)
  draws (opened k n did) = []
  draws (fed h word r did) = draws h
  draws (drew h s s' m (Ok _) did) = draws h ++ (s.list ∷ [])
  draws (drew h s s' m (Err _) did) = draws h
  draws (took_back h m r did) = draws h
  draws (sought h levels levels' fm fm' work work' r did) = draws h
  draws (reopened levels fm h did) = draws h
  draws (profiled h numbers numbers' work work' fm fm' r did) = draws h

  -- the number of the draw by which the word held at place j came, if it came by one
  unfoldable pub origin : {t : Stand K E} {ws : List E} → History ring t ws → ℕ → Option ℕ
  origin (opened k n did) j = None
  origin (fed {o = o} h word (Ok _) did) j = cond (nat_lt j (held o)) (origin h j) None
  origin (fed h word (Err _) did) j = origin h j
  origin (drew {o = o} h s s' m (Ok _) did) j = cond (nat_lt j (held o)) (origin h j) (Some (length (draws h)))
  origin (drew h s s' m (Err _) did) j = origin h j
  origin (took_back h m r did) j = origin h j
  origin (sought h levels levels' fm fm' work work' r did) j = origin h j
  origin (reopened levels fm h did) j = origin h j
  origin (profiled h numbers numbers' work work' fm fm' r did) j = origin h j

-- what stands at place i of a list, if it goes so far
abbrev pub item : {A : Type 0} → List A → ℕ → Option A
item [] i = None
item (x ∷ xs) zero = Some x
item (x ∷ xs) (suc i) = item xs i

module _ {K E : Type 0} (ring : K → Ring E) where
  -- one draw, with the list w, gave all the words held; of no words every draw that was not refused did
  pub record OneDraw {t : Stand K E} {ws : List E} (h : History ring t ws) (w : ℕ → E) : Type 0 where
    pub which : ℕ
    pub drawn : item (draws ring h) which ≡ Some w
    pub all : (j : ℕ) → j < (shape_of t).count.words → origin ring h j ≡ Some which
