use Rattle.std.proofs.Common.{refl, ◌∙◌, arith, length-set}
use Rattle.std.proofs.lemmas.Result.{err_from_is_err_and}
use Rattle.capture.proofs.Prefixes.{passes_again, profile_refused, profile_lengths, profile_done}
use Rattle.capture.proofs.Open.profile.Goals as goal

pub returns-in_err-find : goal.returns-in_err-find
returns-in_err-find g c =
    let p = err_from_is_err_and c.from_residual.result c.from_residual.ensures.1 in
    let refused = c.in_err-find.ensures in
    rw (p.1, p.2) (
      profile_refused g.K.Kind.ring g.K.Kind.laws c.args.self.now c.args.words.now c.args.numbers.now c.args.work.now c.args.finding.now c.if-numbers-e.false _ refused.0,
      (refl, refl, refused.1.2, refused.1.1),
    )

pub lengths-requires : goal.lengths-requires
lengths-requires g c =
    let o = c.args.self.now in
    record {
      whole = refl;
      room = simp length-set (omega arith);
      passes = passes_again (g.K.Kind.ring o.kind) o.shape c.args.words.now c.args.finding.now c.find.new.finding c.args.work.now c.find.new.work
          c.find.auto.finding c.find.auto.work c.in_ok-find.ensures.0;
    }

pub returns : goal.returns
returns g c =
    let o = c.args.self.now in
    let found = c.in_ok-find.ensures in
    let parts = c.lengths.ensures in
    profile_done g.K.Kind.ring g.K.Kind.laws o c.args.words.now c.args.numbers.now c.args.work.now c.args.finding.now c.if-numbers-e.false _ c.lengths.new.numbers c.lengths.new.work c.lengths.new.finding c.lengths.result
    parts.done found.0 (record { kind = refl; channels = refl; capacity = refl; count = parts.restored })
    (profile_lengths g.K.Kind.ring g.K.Kind.laws o c.args.words.now c.args.numbers.now c.args.work.now c.args.finding.now c.if-numbers-e.false c.find.new.table.levels c.find.new.finding c.lengths.new.numbers found.0 found.1.0 c.lengths.auto.numbers parts.there parts.after)
    (c.lengths.auto.work ∙ c.find.auto.work) (c.lengths.auto.finding ∙ c.find.auto.finding)
