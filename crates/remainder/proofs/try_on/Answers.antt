use Rattle.std.proofs.Common.{refl, inr}
use Rattle.std.proofs.lemmas.Result.{err_from_is_err_and}
use Rattle.recurrence.proofs.Elements.{lawful_all}
use Rattle.remainder.proofs.Judges.{refuses_trying}
use Rattle.remainder.proofs.try_on.Goals as goal

pub returns-in_err-sound : goal.returns-in_err-sound
returns-in_err-sound g c =
    let finding = c.args.finding.now in
    let p = err_from_is_err_and c.from_residual.result c.from_residual.ensures.1 in
    rw (p.1, p.2) (
      refuses_trying (g.K.Kind.ring finding.kind) finding.shape finding.record.now.levels finding.cells.now _ c.args.f.now c.all_lawful-lawful.result
          c.all_lawful-lawful.ensures.yes c.all_lawful-lawful.ensures.no c.in_err-sound.ensures.0,
      refl,
    )

pub reduce-requires : goal.reduce-requires
reduce-requires g c =
    let kind = c.args.finding.now.kind in
    let judged = c.in_ok-sound.ensures in
    rw judged.1.0 (lawful_all (g.K.Kind.ring kind) (g.K.Kind.laws kind) c.args.f.now (λ z. judged.0.1.0 (inr (λ t. c.all_lawful-lawful.ensures.yes t z))))
