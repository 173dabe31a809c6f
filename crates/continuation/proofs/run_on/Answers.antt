use Rattle.std.proofs.Common.{◌*◌, refl, inl, inr, ⊎_elim, length, arith}
use Rattle.std.proofs.lemmas.Result.{err_from_is_err_and}
use Rattle.recurrence.proofs.Elements.{cut_unlawful}
use Rattle.memory.proofs.Held.{words_lawful, room_held}
use Rattle.continuation.proofs.Judged.{refuses_running_on, filled_run}
use Rattle.continuation.proofs.run_on.Goals as goal

pub returns-in_err-sound : goal.returns-in_err-sound
returns-in_err-sound g c =
    let finding = c.args.finding.now in
    let p = err_from_is_err_and c.from_residual.result c.from_residual.ensures.1 in
    let cut = cut_unlawful (g.K.Kind.ring finding.kind) c.args.cells.now (finding.shape.count.words * finding.shape.channels) (room_held finding.shape _ (omega arith)) in
    rw (p.1, p.2) (
      refuses_running_on finding.shape (g.K.Kind.ring finding.kind) c.args.cells.now finding.record.now.levels finding.cells.now c.args.out.now _ c.all_lawful-lawful.result
          (λ t u. c.all_lawful-lawful.ensures.yes t (cut.1 u)) (λ f. cut.0 (c.all_lawful-lawful.ensures.no f)) c.if-out-shape-ne0.false (λ z. omega arith) c.in_err-sound.ensures.0,
      refl,
    )

pub invariant_of-words : goal.invariant_of-words
invariant_of-words g c =
    let finding = c.args.finding.now in
    let cut = cut_unlawful (g.K.Kind.ring finding.kind) c.args.cells.now (finding.shape.count.words * finding.shape.channels) (room_held finding.shape _ (omega arith)) in
    record {
      room = omega arith;
      lawful = words_lawful finding.shape (g.K.Kind.ring finding.kind) c.args.cells.now (λ z. c.in_ok-sound.ensures.0.1.0 (inr (λ t. c.all_lawful-lawful.ensures.yes t (cut.1 z))));
    }

pub returns : goal.returns
returns g c =
    let finding = c.args.finding.now in
    let cut = cut_unlawful (g.K.Kind.ring finding.kind) c.args.cells.now (finding.shape.count.words * finding.shape.channels) (room_held finding.shape _ (omega arith)) in
    let passed = c.in_ok-sound.ensures.0 in
    let same = c.in_ok-sound.ensures.1 in
    let lawful = words_lawful finding.shape (g.K.Kind.ring finding.kind) c.args.cells.now (λ z. passed.1.0 (inr (λ t. c.all_lawful-lawful.ensures.yes t (cut.1 z)))) in
    let is = rw (same.1, same.2, same.3) at c.row-row.ensures.is in
    let size = rw same.2 at c.row-row.ensures.long in (
      ((λ z. z c.if-out-shape-ne0.false), (⊎_elim (λ z. omega arith) passed.0, (⊎_elim (λ z. z lawful) (λ z. passed.1.0 (inl z)), (passed.1.1.0, tt)))),
      (
        omega arith,
        filled_run finding.shape (g.K.Kind.ring finding.kind) c.args.cells.now finding.record.now.levels finding.cells.now c.row-row.result.now c.fill.new.out (length c.args.out.now) is size c.fill.ensures,
      ),
    )
