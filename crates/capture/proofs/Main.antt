-- The promises, of every history that stands found.
use Rattle.std.proofs.Common.{◌≡◌, ℕ, ◌+◌, ◌-◌, ◌*◌, ◌%◌, ◌<◌, List, length, Ok, Err, Result, sym, ap, ◌∙◌, subst, mul-one, arith}
use native.Mathlib.Nat.{mod-one}
use native.Mathlib.Decide.{dec_lt}
use Rattle.ring.specs.Ring.{Ring, Laws}
use Rattle.ring.specs.declared.Refusal.{Refusal}
use Rattle.recurrence.specs.declared.shape.Shape.{Shape}
use Rattle.recurrence.specs.declared.shape.Level.{Level}
use Rattle.recurrence.specs.Memory.{at}
use Rattle.recurrence.specs.Polynomials.{Lawful}
use Rattle.recurrence.specs.Words.{words, LawfulWords}
use Rattle.recurrence.specs.Findings.{run_of}
use Rattle.recurrence.specs.Theorems.{Stands as Theory}
use Rattle.recurrence.proofs.Findings.{rows_shortest, finding_foretells}
use Rattle.recurrence.proofs.Elements.{stable}
use Rattle.recurrence.specs.Lent.{ForeignWords}
use Rattle.remainder.specs.Calls.{Tried}
use Rattle.continuation.specs.Calls.{RanOn}
use Rattle.remainder.proofs.Tells.{try_tells}
use Rattle.continuation.proofs.Foretells.{run_on_foretells}
use Rattle.capture.specs.declared.Found.{Found}
use Rattle.capture.specs.History.{stands_found, History, sought, OneDraw}
use Rattle.capture.specs.Main.{Tells, Behind, Filled, Promise, Stands, FindKeeps, TryKeeps, RunOnKeeps}
use Rattle.capture.proofs.Histories.{some_injective, Sound, Kept, Placed, kept}

-- the words held are lawful: to be lawful is decided
pub lawful_words : {E : Type 0} (R : Ring E) (s : Shape) (ws : List E) → ¬ ForeignWords R s ws → LawfulWords R s.channels s.count.words (words R s ws)
lawful_words R s ws never k c hk hc = stable (R.lawful (words R s ws c k)) (λ z. never (λ ok. z (ok k c hk hc)))

module _ {K E : Type 0} (ring : K → Ring E) (laws : (k : K) → Laws (ring k))
    {f : Found K} {levels : List Level} {fm ws : List E} (h : History ring (stands_found f levels fm) ws) where
  abbrev R : Ring E
  R = ring f.kind

  abbrev s : Shape
  s = f.shape

  known : Kept ring h
  known = kept ring h

  sound : Sound ring f.kind s levels fm ws
  sound = known.standing

  theory : Theory R s.channels s.count.words (words R s ws) levels fm
  theory = record { wide = omega (arith, s.ok.2); words = lawful_words R s ws sound.lawful; finding = sound.finding }

  tells : (p p' : List E) (r : Result ℕ Refusal) → Tried R s levels fm p r p' → Tells R s levels fm ws p r p'
  tells p p' r did settled lawful small =
      let told = try_tells (laws f.kind) s levels fm (words R s ws) theory settled sound.extends p p' r lawful small did in
      record { carried_out = told.0; answer = told.1; left = told.2 }

  module _ (w : ℕ → E) (behind : Behind ring h w) where
    abbrev one : OneDraw ring h w
    one = behind.one_draw

    single : (s.channels ≡ 1) × Lawful R w
    single = known.single one.which w one.drawn

    place : (t : ℕ) → t * s.channels + 0 ≡ t
    place t = let e : t * s.channels ≡ t = ap (λ n. t * n) single.0 ∙ mul-one t in omega arith

    -- the draw of the word at place j began at 0, since the word there came by it too
    begins : (j : ℕ) → j < s.count.words → (p : Placed ring h j one.which) → Dec (0 < p.from) → at R ws j ≡ w j
    begins j b p (yes c) = absurd (p.others 0 c (one.all 0 (omega arith)))
    begins j b p (no c) =
        let e : p.list ≡ w = some_injective (sym p.drawn ∙ one.drawn) in
        p.is R.zero ∙ ap (λ (z : ℕ → E). z (j - p.from)) e ∙ ap w (omega arith)

    held_words : (j c : ℕ) → j < s.count.words → c < s.channels → words R s ws c j ≡ w j
    held_words j c b hc =
        let p = known.placed j one.which b (one.all j b) in
        ap (at R ws) (omega (arith, place j, single.0)) ∙ begins j b p (dec_lt 0 p.from)

    foretold : (t : ℕ) → run_of R s.count.words levels fm (words R s ws) 0 (s.count.words + t) ≡ w (s.count.words + t)
    foretold t =
        finding_foretells (laws f.kind) _ _ _ levels fm theory (λ _. w) behind.degree behind.polynomial behind.half
        (λ c hc. (single.1, behind.obeys)) held_words 0 (s.count.words + t) (omega (arith, s.ok.2))

    filled : (out out' : List E) (r : Result Unit Refusal) → RanOn R s levels fm ws out r out' → Filled ring f w r out'
    filled out out' r did = record { carried_out = both.0; there = λ t b. ap (at R out') (sym (place t)) ∙ both.1 t 0 (omega (arith, s.ok.2)) (omega (arith, place t, size)) }
      where
        whole : length out % s.channels ≡ 0
        whole = ap (λ (n : ℕ). length out % n) single.0 ∙ mod-one (length out)

        both : (r ≡ Ok tt) × ((t c : ℕ) → c < s.channels → t * s.channels + c < length out → at R out' (t * s.channels + c) ≡ w (s.count.words + t))
        both =
            run_on_foretells (laws f.kind) s levels fm ws theory sound.room sound.extends (λ _. w) behind.degree behind.polynomial behind.half
            (λ c hc. (single.1, behind.obeys)) held_words out out' r whole did

        size : length out' ≡ length out
        size = (subst (λ (z : Result Unit Refusal). RanOn R s levels fm ws out z out') both.0 did).1.0

  pub promise : Promise ring h
  promise = record {
    shortest = λ i hi. (rows_shortest (laws f.kind) _ _ _ levels fm theory i hi).0;
    tried = tells;
    foretold = foretold;
    filled = filled;
  }

module _ {K E : Type 0} (ring : K → Ring E) (laws : (k : K) → Laws (ring k)) where
  pub promises_stand : Stands ring
  promises_stand f levels fm ws h = promise ring laws h

  pub find_keeps : FindKeeps ring
  find_keeps o ws levels fm work (Ok f) levels' fm' work' did = record { did = did; promises = λ h. promise ring laws (sought h levels levels' fm fm' work work' (Ok f) did) }
  find_keeps o ws levels fm work (Err e) levels' fm' work' did = record { did = did; promises = λ h. tt }

  pub try_keeps : TryKeeps ring
  try_keeps f levels fm p r p' did = record { did = did; tells = λ ws h. (promise ring laws h).tried p p' r did }

  pub run_on_keeps : RunOnKeeps ring
  run_on_keeps f ws levels fm out r out' did = record { did = did; fills = λ h w behind. (promise ring laws h).filled w behind out out' r did }
