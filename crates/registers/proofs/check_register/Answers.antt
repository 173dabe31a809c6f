use Rattle.std.proofs.Common.{◌≡◌, ◌⊎◌, T, length, rules, refl, sym, inl, inr, subst, arith}
use Rattle.recurrence.specs.Memory.{Unlawful}
use Rattle.recurrence.proofs.Elements.{cut_unlawful}
use Rattle.registers.specs.Registers.{degree}
use Rattle.registers.proofs.check_register.Goals.{then-not-all_lawful-via-then-not-all_lawful, then-not-all_lawful-via-else-not-all_lawful+then-not-all_lawful-2}
use Rattle.registers.proofs.check_register.Goals as goal

pub returns-then-not-all_lawful : goal.returns-then-not-all_lawful
returns-then-not-all_lawful g c =
    let R = g.K.Kind.ring c.args.kind.now in
    let coefficients = c.args.coefficients.now in
    let stages = c.args.stages.now in
    let is : c.saturating_sub-degree.result ≡ degree coefficients = omega (arith, c.saturating_sub-degree.ensures) in
    let cut = cut_unlawful R stages c.saturating_sub-degree.result (omega (arith, c.if-stages-degree.false)) in
    let foreign : Unlawful R coefficients (length coefficients) ⊎ Unlawful R stages (degree coefficients) = elim c.then-not-all_lawful.branch [
      | then-not-all_lawful-via-then-not-all_lawful w ↦ inl (c.all_lawful.ensures.no (λ t. subst T w.if-not-all_lawful.true t))
      | then-not-all_lawful-via-else-not-all_lawful+then-not-all_lawful-2 w ↦
          inr (subst (Unlawful R stages) is (cut.0 (w.all_lawful-else-not-all_lawful.ensures.no (λ t. subst T w.if-not-all_lawful-2.true t))))
    ] in
    (inr ((λ short. omega (arith, c.if-stages-degree.false, is, short)), inl (foreign, refl)), tt)

pub returns-in-Some : goal.returns-in-Some
returns-in-Some g c =
    let R = g.K.Kind.ring c.args.kind.now in
    let coefficients = c.args.coefficients.now in
    let stages = c.args.stages.now in
    let is : c.saturating_sub-degree.result ≡ degree coefficients = omega (arith, c.saturating_sub-degree.ensures) in
    let cut = cut_unlawful R stages c.saturating_sub-degree.result (omega (arith, c.if-stages-degree.false)) in
    let lawful : ¬ Unlawful R stages (degree coefficients) = λ u. c.if-not-all_lawful-2.ensures.yes tt (cut.1 (subst (Unlawful R stages) (sym is) u)) in
    search (rules, lawful)
