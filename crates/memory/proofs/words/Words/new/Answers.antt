use Rattle.std.proofs.Common.{◌*◌, arith, refl, inl, inr, T, subst}
use Rattle.recurrence.proofs.Elements.{cut_unlawful}
use Rattle.memory.proofs.Held.{words_foreign, words_lawful, room_held}
use Rattle.memory.proofs.words.Words.new.Goals as goal

pub invariant_of-result : goal.invariant_of-result
invariant_of-result g c =
    let shape = c.args.shape in
    let R = g.K.Kind.ring c.args.kind in
    let size = shape.count.words * shape.channels in
    let cut = cut_unlawful R c.args.cells.now size (room_held shape _ (omega arith)) in
    record { room = omega arith; lawful = words_lawful shape R c.args.cells.now (λ u. c.if-not-all_lawful.ensures.yes tt (cut.1 u)) }

pub returns-then-not-all_lawful : goal.returns-then-not-all_lawful
returns-then-not-all_lawful g c =
    let shape = c.args.shape in
    let R = g.K.Kind.ring c.args.kind in
    let size = shape.count.words * shape.channels in
    let cut = cut_unlawful R c.args.cells.now size (room_held shape _ (omega arith)) in (
      inr (
        (λ short. omega (arith, c.if-cells-shape.false, short)),
        inl (words_foreign shape R c.args.cells.now (cut.0 (c.all_lawful.ensures.no (λ t. subst T c.if-not-all_lawful.true t))), refl),
      ),
      tt,
    )
