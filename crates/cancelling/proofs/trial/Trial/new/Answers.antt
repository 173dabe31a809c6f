use Rattle.std.proofs.Common.{refl, ⊎_elim}
use Rattle.std.proofs.lemmas.Result.{err_from_is_err_and}
use Rattle.memory.proofs.Held.{words_foreign}
use Rattle.cancelling.proofs.Trials.{refuses_reading}
use Rattle.cancelling.proofs.trial.Trial.new.Goals as goal

pub returns-in_err-words : goal.returns-in_err-words
returns-in_err-words g c =
    let p = err_from_is_err_and c.from_residual.result c.from_residual.ensures.1 in
    rw (p.1, p.2) (refuses_reading (g.K.Kind.ring c.args.kind) c.args.shape c.args.cells.now c.args.taps.now _ c.in_err-words.ensures.0, tt)

pub returns : goal.returns
returns g c =
    let passed = c.in_ok-words.ensures.0 in
    let same = c.in_ok-words.ensures.1 in
    ((passed.0, (⊎_elim (λ u. passed.1.0 (words_foreign c.args.shape (g.K.Kind.ring c.args.kind) c.args.cells.now u)) (c.if-not-all_lawful.ensures.yes tt), tt)), (same.0, same.1, same.2, refl))
