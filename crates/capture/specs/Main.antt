-- What a finding promises, whatever calls led to it.
use Rattle.std.specs.Prelude.{◌≡◌, ℕ, ◌+◌, ◌*◌, ◌<◌, ◌≤◌, ◌↔◌, List, length, Ok, Result}
use Rattle.ring.specs.Ring.{Ring}
use Rattle.ring.specs.declared.Refusal.{Refusal}
use Rattle.recurrence.specs.declared.shape.Shape.{Shape}
use Rattle.recurrence.specs.declared.shape.Level.{Level}
use Rattle.recurrence.specs.Memory.{at, Unlawful}
use Rattle.recurrence.specs.Polynomials.{Zero, Obeys}
use Rattle.recurrence.specs.Words.{words, Shortest}
use Rattle.recurrence.specs.Findings.{long, row, Settled, run_of, CancelsRunOf}
use Rattle.remainder.specs.Calls.{Tried}
use Rattle.continuation.specs.Calls.{RanOn}
use Rattle.capture.specs.declared.Open.{Open}
use Rattle.capture.specs.declared.Found.{Found}
use Rattle.capture.specs.Calls.{Finds}
use Rattle.capture.specs.History.{Stand, stands_open, stands_found, answered, History, sought, OneDraw}

module _ {E : Type 0} (R : Ring E) (s : Shape) (levels : List Level) (fm ws : List E) where
  -- the polynomial of each level cancels the words held, with leading coefficient step^i, and every polynomial of that level that cancels them has at least its degree
  abbrev pub AllShortest : Type 0
  AllShortest = (i : ℕ) → i < R.depth → Shortest R s.channels s.count.words (words R s ws) i (long levels i) (row R s.count.words levels fm i)

  -- f cancels the run
  abbrev pub OnRun : List E → Type 0
  OnRun f = CancelsRunOf R s.count.words levels fm s.channels (words R s ws) (at R f)

  -- try's answer r, with f' left of f: it is not refused, and nothing is left exactly when f cancels the run
  pub record Told (f : List E) (r : Result ℕ Refusal) (f' : List E) : Type 0 where
    pub carried_out : (k : ℕ) × (r ≡ Ok k)
    pub answer : (r ≡ Ok 0) ↔ OnRun f
    pub left : Zero R (at R f') ↔ OnRun f

  -- of a settled finding, try tells which polynomials of lawful elements cancel the run
  abbrev pub Tells : List E → Result ℕ Refusal → List E → Type 0
  Tells f r f' = Settled s.count.words levels → (¬ Unlawful R f (length f)) → length f ≤ 256 → Told f r f'

module _ {K E : Type 0} (ring : K → Ring E) where
  -- w is the list of a draw that gave all the words held, and it obeys a monic polynomial of degree at most half their number
  pub record Behind {f : Found K} {levels : List Level} {fm ws : List E} (h : History ring (stands_found f levels fm) ws) (w : ℕ → E) : Type 0 where
    pub one_draw : OneDraw ring h w
    pub degree : ℕ
    pub polynomial : ℕ → E
    pub obeys : Obeys (ring f.kind) degree polynomial w
    pub half : 2 * degree ≤ f.shape.count.words

  -- run on's answer r, with out' in its buffer: it is not refused, and the buffer has the later words of w
  pub record Filled (f : Found K) (w : ℕ → E) (r : Result Unit Refusal) (out' : List E) : Type 0 where
    pub carried_out : r ≡ Ok tt
    pub there : (t : ℕ) → t < length out' → at (ring f.kind) out' t ≡ w (f.shape.count.words + t)

  -- the promises of a history that stands found
  pub record Promise {f : Found K} {levels : List Level} {fm ws : List E} (h : History ring (stands_found f levels fm) ws) : Type 0 where
    pub shortest : AllShortest (ring f.kind) f.shape levels fm ws
    pub tried : (p p' : List E) (r : Result ℕ Refusal) → Tried (ring f.kind) f.shape levels fm p r p' → Tells (ring f.kind) f.shape levels fm ws p r p'
    pub foretold : (w : ℕ → E) → Behind h w → (t : ℕ)
        → run_of (ring f.kind) f.shape.count.words levels fm (words (ring f.kind) f.shape ws) 0 (f.shape.count.words + t) ≡ w (f.shape.count.words + t)
    pub filled : (w : ℕ → E) → Behind h w → (out out' : List E) (r : Result Unit Refusal) → RanOn (ring f.kind) f.shape levels fm ws out r out' → Filled f w r out'

  -- every history that stands found keeps them
  abbrev pub Stands : Type 0
  Stands = (f : Found K) (levels : List Level) (fm ws : List E) (h : History ring (stands_found f levels fm) ws) → Promise h

  -- the promises, where a history stands found
  abbrev pub Promises : (t : Stand K E) {ws : List E} → History ring t ws → Type 0
  Promises (stands_open o) h = Unit {0}
  Promises (stands_found f levels fm) h = Promise h

  -- find: what it does, and the promises of every history that led to the capture it is given, with this very find at the end
  pub record Find (o : Open K) (ws : List E) (levels : List Level) (fm work : List E) (r : Result (Found K) (Refusal × Open K)) (levels' : List Level) (fm' work' : List E) : Type 0 where
    pub did : Finds ring o ws levels fm work r levels' fm' work'
    pub promises : (h : History ring (stands_open o) ws) → Promises (answered r levels' fm') (sought h levels levels' fm fm' work work' r did)

  -- try: what it does, and what its answer tells if a history leads to the capture and the finding that it is given
  pub record Try (f : Found K) (levels : List Level) (fm p : List E) (r : Result ℕ Refusal) (p' : List E) : Type 0 where
    pub did : Tried (ring f.kind) f.shape levels fm p r p'
    pub tells : (ws : List E) → History ring (stands_found f levels fm) ws → Tells (ring f.kind) f.shape levels fm ws p r p'

  -- run on: what it does, and what fills the buffer if a history leads to the capture, the words and the finding that it is given
  pub record RunOn (f : Found K) (ws : List E) (levels : List Level) (fm out : List E) (r : Result Unit Refusal) (out' : List E) : Type 0 where
    pub did : RanOn (ring f.kind) f.shape levels fm ws out r out'
    pub fills : (h : History ring (stands_found f levels fm) ws) (w : ℕ → E) → Behind h w → Filled f w r out'

  -- whatever does what find, try and run on do has their promises
  abbrev pub FindKeeps : Type 0
  FindKeeps = (o : Open K) (ws : List E) (levels : List Level) (fm work : List E) (r : Result (Found K) (Refusal × Open K)) (levels' : List Level) (fm' work' : List E)
      → Finds ring o ws levels fm work r levels' fm' work' → Find o ws levels fm work r levels' fm' work'

  abbrev pub TryKeeps : Type 0
  TryKeeps = (f : Found K) (levels : List Level) (fm p : List E) (r : Result ℕ Refusal) (p' : List E) → Tried (ring f.kind) f.shape levels fm p r p' → Try f levels fm p r p'

  abbrev pub RunOnKeeps : Type 0
  RunOnKeeps = (f : Found K) (ws : List E) (levels : List Level) (fm out : List E) (r : Result Unit Refusal) (out' : List E)
      → RanOn (ring f.kind) f.shape levels fm ws out r out' → RunOn f ws levels fm out r out'
