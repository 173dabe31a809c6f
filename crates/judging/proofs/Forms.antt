-- The rows of a finding in its memory, and the tests of their leading and lowest coefficients.
use Rattle.std.proofs.Common.{◌≡◌, ℕ, ◌+◌, ◌*◌, ◌<◌, ◌≤◌, Bool, T, ◌↔◌, List, length, get_or, sym, ap, ◌∙◌, arith}
use Rattle.ring.specs.Ring.{Ring, Laws, power}
use Rattle.ring.proofs.Loops.{lawful_at, place_inside}
use Rattle.recurrence.specs.declared.shape.Shape.{Shape}
use Rattle.recurrence.specs.declared.shape.Level.{Level}
use Rattle.recurrence.specs.Polynomials.{Lawful}
use Rattle.recurrence.specs.Memory.{at, Unlawful}
use Rattle.recurrence.specs.Findings.{blank, long, extent, row, Formed}
use Rattle.recurrence.proofs.Rows as Rows
use Rattle.recurrence.proofs.Elements.{lawful_below}
use Rattle.judging.specs.Judging.{Sound}
use Rattle.judging.proofs.Powers.{Power}

-- one level in form
pub record FormedAt {E : Type 0} (R : Ring E) (e : ℕ) (levels : List Level) (fm : List E) (i : ℕ) : Type 0 where
  pub short : long levels i ≤ e
  pub marked : T (get_or levels i blank).found
  pub leads : at R fm (i * (e + 1) + long levels i) ≡ power R R.step i

pub formed_all : {E : Type 0} (R : Ring E) (e : ℕ) (levels : List Level) (fm : List E) → ((i : ℕ) → i < R.depth → FormedAt R e levels fm i) → Formed R e levels fm
formed_all R e levels fm h = record { short = λ i b. (h i b).short; marked = λ i b. (h i b).marked; leads = λ i b. (h i b).leads }

-- the test of the leading coefficient x of a level against the power y tells whether it is right
pub leads_told : {E : Type 0} {R : Ring E} (L : Laws R) (e : ℕ) (levels : List Level) (fm : List E) (i : ℕ) (level : Level) (x y : E) (told : Bool)
    → ¬ Unlawful R fm (extent R e) → i < R.depth → level ≡ get_or levels i blank → level.length ≤ e → x ≡ at R fm (i * (e + 1) + level.length)
    → Power L i y → (T (R.lawful x) → T (R.lawful y) → T told ↔ (x ≡ y))
    → T told ↔ (at R fm (i * (e + 1) + long levels i) ≡ power R R.step i)
leads_told {R = R} L e levels fm i level x y told ok hi is short read y_is test =
    let inside : i * (e + 1) + level.length < extent R e = place_inside R.depth (e + 1) i level.length hi (omega arith) in
    let both = test (lawful_at L read (lawful_below R fm (extent R e) ok (i * (e + 1) + level.length) inside)) y_is.lawful in
    let x_is : x ≡ at R fm (i * (e + 1) + long levels i) = read ∙ ap (λ (l : Level). at R fm (i * (e + 1) + l.length)) is in
    ((λ t. sym x_is ∙ both.0 t ∙ y_is.is), λ q. both.1 (x_is ∙ q ∙ sym y_is.is))

module _ {E : Type 0} {R : Ring E} (L : Laws R) (s : Shape) (levels : List Level) (fm : List E) (sound : Sound R s levels fm) where
  abbrev e : ℕ
  e = s.count.words

  -- a row lies within the memory
  pub row_fits : (i : ℕ) → i < R.depth → (long levels i ≤ e) × (i * (e + 1) + long levels i < length fm)
  row_fits i hi =
      let short = sound.formed.short i hi in
      (short, omega (arith, sound.room, place_inside R.depth (e + 1) i (long levels i) hi (omega arith)))

  pub row_lawful : (i : ℕ) → i < R.depth → Lawful R (row R e levels fm i)
  row_lawful = Rows.row_lawful R e levels fm sound.formed L (lawful_below R fm (extent R e) sound.lawful)
