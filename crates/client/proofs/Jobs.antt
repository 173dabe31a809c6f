-- The job as a history: open, a feed, a take back, a draw, a refused take back, find, reopen, find.
use Rattle.std.proofs.Common.{◌≡◌, ℕ, ◌+◌, ◌*◌, ◌≤◌, cond, List, Some, Ok, Err, Result, sym, refl, ap, ◌∙◌, subst, arith, le-ltb}
use Rattle.ring.specs.Ring.{Ring}
use Rattle.ring.specs.declared.Refusal.{Refusal}
use Rattle.recurrence.specs.declared.shape.Shape.{Shape}
use Rattle.recurrence.specs.declared.shape.Level.{Level}
use Rattle.recurrence.specs.Memory.{at}
use Rattle.recurrence.specs.Polynomials.{Obeys}
use Rattle.capture.specs.declared.Open.{Open}
use Rattle.capture.specs.declared.Found.{Found}
use Rattle.capture.specs.Calls.{held, Opened, TookBack, Reopened, Fed, Drew}
use Rattle.capture.specs.History.{stands_open, stands_found, History, opened, fed, drew, took_back, sought, reopened, draws, origin, OneDraw}
use Rattle.capture.specs.Main.{Behind, Find, RunOn}
use Rattle.client.specs.Job.{Foreseen}

module _ {K E S : Type 0} (ring : K → Ring E) (kind_of : S → K) (list : S → ℕ → E)
    (k : K) (o₀ o₁ o₂ o₃ o₄ o₅ : Open K) (f f₂ : Found K) (ws₀ ws₁ ws₂ word : List E) (src src' : S) (m : ℕ)
    (levels levels₁ levels₂ : List Level) (fm fm₁ fm₂ work work₁ work₂ : List E)
    (is_opened : Opened k 1 ws₀ (Ok o₀)) (is_fed : Fed ring o₀ ws₀ word (Ok tt) o₁ ws₁) (is_back : TookBack o₁ 1 (Ok tt) o₂)
    (is_drawn : Drew ring kind_of list o₂ ws₁ src m (Ok tt) o₃ ws₂ src') where
  abbrev w : ℕ → E
  w = list src

  -- so far: all the words held are of the one draw
  abbrev h₃ : History ring (stands_open o₂) ws₁
  h₃ = took_back (fed (opened k 1 is_opened) word (Ok tt) is_fed) 1 (Ok tt) is_back

  abbrev h₄ : History ring (stands_open o₃) ws₂
  h₄ = drew h₃ (record { kind = kind_of src; list = w }) (record { kind = kind_of src'; list = list src' }) m (Ok tt) is_drawn

  none : held o₂ ≡ 0
  none = omega (arith, is_back.1.count, is_fed.1.0.count, is_opened.1.count)

  all_held : held o₃ ≡ m
  all_held = omega (arith, is_drawn.1.0.count, none)

  one_kind : o₃.kind ≡ k
  one_kind = is_drawn.1.0.kind ∙ is_back.1.kind ∙ is_fed.1.0.kind ∙ is_opened.1.kind

  -- a take back of too many words is refused, and leaves all as it was
  module _ (refusal : Refusal) (is_refused : TookBack o₃ 129 (Err refusal) o₄)
      (is_found : Find ring o₄ ws₂ levels fm work (Ok f) levels₁ fm₁ work₁) (is_reopened : Reopened f o₅)
      (is_found_again : Find ring o₅ ws₂ levels₁ fm₁ work₁ (Ok f₂) levels₂ fm₂ work₂) where
    abbrev h : History ring (stands_found f₂ levels₂ fm₂) ws₂
    h = sought (reopened levels₁ fm₁ (sought (took_back h₄ 129 (Err refusal) is_refused) levels levels₁ fm fm₁ work work₁ (Ok f) is_found.did) is_reopened)
        levels₁ levels₂ fm₁ fm₂ work₁ work₂ (Ok f₂) is_found_again.did

    same_shape : f₂.shape ≡ o₃.shape
    same_shape = is_found_again.did.2 ∙ is_reopened.shape ∙ is_found.did.2 ∙ ap (λ (o : Open K). o.shape) is_refused.1

    same_kind : f₂.kind ≡ k
    same_kind = is_found_again.did.1 ∙ is_reopened.kind ∙ is_found.did.1 ∙ ap (λ (o : Open K). o.kind) is_refused.1 ∙ one_kind

    count : f₂.shape.count.words ≡ m
    count = ap (λ (s : Shape). s.count.words) same_shape ∙ all_held

    one : OneDraw ring h w
    unfolding draws origin
    one = record { which = 0; drawn = refl; all = λ j b. ap (λ t. cond t (origin ring h₃ j) (Some 0)) (le-ltb j (held o₂) (omega (arith, none))) }

    behind : (D : ℕ) (q : ℕ → E) → Obeys (ring k) D q w → 2 * D ≤ m → Behind ring h w
    behind D q obeys half = record {
      one_draw = one;
      degree = D;
      polynomial = q;
      obeys = subst (λ (z : K). Obeys (ring z) D q w) (sym same_kind) obeys;
      half = omega (arith, count);
    }

    -- what fills the buffer is the source's
    pub job : (out out' : List E) (r : Result Unit Refusal) → RunOn ring f₂ ws₂ levels₂ fm₂ out r out' → Foreseen (ring k) w m r out'
    job out out' (Ok _) ran = λ D q obeys half t b.
        subst (λ (z : K). at (ring z) out' t ≡ w (m + t)) same_kind ((ran.fills h w (behind D q obeys half)).there t b ∙ ap (λ n. w (n + t)) count)
    job out out' (Err _) ran = tt

  -- no capture holds 129 words, so that it was refused
  pub any_job : (r₀ : Result Unit Refusal) → TookBack o₃ 129 r₀ o₄ → Find ring o₄ ws₂ levels fm work (Ok f) levels₁ fm₁ work₁ → Reopened f o₅
      → Find ring o₅ ws₂ levels₁ fm₁ work₁ (Ok f₂) levels₂ fm₂ work₂
      → (out out' : List E) (r : Result Unit Refusal) → RunOn ring f₂ ws₂ levels₂ fm₂ out r out' → Foreseen (ring k) w m r out'
  any_job (Ok u) did found again found_again out out' r ran = absurd (did.0.0 (omega (arith, o₃.shape.ok.0, o₃.shape.ok.1)))
  any_job (Err refusal) did found again found_again out out' r ran = job refusal did found again found_again out out' r ran
