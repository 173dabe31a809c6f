use Rattle.std.proofs.Common.{◌≡◌, ℕ, ◌<◌, ◌≤◌, ◌≢◌, length, refl, ap, arith, get_or-set_other, get_or-set_same, rules, below_more}
use Rattle.recurrence.specs.declared.shape.Count.{Count}
use Rattle.annihilator.specs.Calls.{seeking}
use Rattle.ring.proofs.Rows.{passes_refuses}
use Rattle.capture.proofs.Prefixes.{part, passes_again, passes_part, length_part}
use Rattle.capture.proofs.lengths.Goals as goal

-- the memory is enough for each part of the words, so that no find is refused
pub returns-in_err-find : goal.returns-in_err-find
returns-in_err-find g c =
    let R = g.K.Kind.ring c.args.kind.now in
    let s = c.args.shape in
    let j : ℕ = c.loop-j.j in
    let whole : c.args.count.now.words ≡ s.count.words = ap (λ (z : Count). z.words) c.requires.whole in
    let h : j ≤ s.count.words = omega arith in
    absurd (passes_refuses (seeking R (part s j h) c.args.words.now c.loop-j.finding c.loop-j.work) _
    (passes_part R s j h c.args.words.now c.loop-j.finding c.loop-j.work
    (passes_again R s c.args.words.now c.args.finding.now c.loop-j.finding c.args.work.now c.loop-j.work c.loop-j.auto.finding c.loop-j.auto.work c.requires.passes))
    c.in_err-find.ensures.0)

pub loop-j-preserved : goal.loop-j-preserved
loop-j-preserved g c =
    let R = g.K.Kind.ring c.args.kind.now in
    let s = c.args.shape in
    let j : ℕ = c.loop-j.j in
    let whole : c.args.count.now.words ≡ s.count.words = ap (λ (z : Count). z.words) c.requires.whole in
    let h : j ≤ s.count.words = omega arith in
    let lt : j < length c.loop-j.numbers = omega (arith, c.loop-j.auto.numbers, c.requires.room) in
    let found = c.in_ok-find.ensures in
    let here = length_part R s j h (g.K.Kind.laws _) c.args.words.now c.find.new.table.levels c.find.new.finding found.0.1.0 found.1.0 in (
      below_more _ _ (λ i b. let ne : i ≢ j = omega arith in rw get_or-set_other (c.loop-j.invariant.0 i b)) (rw get_or-set_same here),
      λ i b. let ne : i ≢ j = omega arith in rw get_or-set_other (c.loop-j.invariant.1 i (omega arith)),
    )

pub returns : goal.returns
returns g c =
    let whole : c.args.count.now.words ≡ c.args.shape.count.words = ap (λ (z : Count). z.words) c.requires.whole in
    record {
      done = refl;
      restored = search rules;
      there = λ i b. c.loop-j.invariant.0 i (omega arith);
      after = λ i b. c.loop-j.invariant.1 i (omega arith);
    }
