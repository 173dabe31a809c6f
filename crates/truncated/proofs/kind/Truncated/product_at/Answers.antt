use Rattle.std.proofs.Common.{ℕ, ◌+◌, ◌*◌, ◌≤◌, length, get_or, arith, rules, tests, ap, refl, ◌∙◌, ◌≡◌}
use lib.ListN.{take}
use mathlib.Core.List.{reverse}
use Rattle.std.specs.List.{zip}
use Rattle.std.proofs.lemmas.List.{length-take}
use Rattle.std.proofs.lemmas.Iterator.{YieldsList-from_slice, YieldsList-from_zip, YieldsList-from_map}
use Rattle.std.proofs.lemmas.Iterator.Adapters.{YieldsList-from_rev_slice}
use Rattle.std.proofs.lemmas.Iterator.Consumers.{sum_by_from_yields_List, fits_by_from_yields_list}
use Rattle.truncated.specs.Remainders.{remainder}
use Rattle.truncated.proofs.Places.{multiplied, paired, paired_high, high_part, high_back, convolved, product_is}
use Rattle.truncated.proofs.kind.Truncated.product_at.Goals as goal

pub sum-sum-requires-clause-fits : goal.sum-sum-requires-clause-fits
sum-sum-requires-clause-fits c =
    let xs = take (c.args.k + 1) c.args.a.coefficients in
    let ys = take (c.args.k + 1) c.args.b.coefficients in
    let long : length xs ≡ c.args.k + 1 = omega (arith, length-take (c.args.k + 1) c.args.a.coefficients, c.requires) in
    let ha : (j : ℕ) → get_or c.args.a.coefficients j 0 ≤ 255 = λ j. search rules in
    let hb : (j : ℕ) → get_or c.args.b.coefficients j 0 ≤ 255 = λ j. search rules in
    let high : paired xs (reverse ys) ≤ 65025 * length xs = paired_high xs (reverse ys) (high_part (c.args.k + 1) c.args.a.coefficients ha) (high_back ys (high_part (c.args.k + 1) c.args.b.coefficients hb)) in
    fits_by_from_yields_list multiplied (zip xs (reverse ys)) c.map.result _
    (YieldsList-from_map _ multiplied (YieldsList-from_zip (YieldsList-from_slice xs (cc)) (YieldsList-from_rev_slice ys (cc))) c.map.ensures.closure (λ x r q k. search (rules, tests)))
    (omega (arith, high, long, c.requires))

pub returns-clause-is : goal.returns-clause-is
returns-clause-is c =
    let xs = take (c.args.k + 1) c.args.a.coefficients in
    let ys = take (c.args.k + 1) c.args.b.coefficients in
    let e = sum_by_from_yields_List multiplied (zip xs (reverse ys)) c.map.result c.sum-sum.result c.sum-sum.ensures.ran
    (YieldsList-from_map _ multiplied (YieldsList-from_zip (YieldsList-from_slice xs (cc)) (YieldsList-from_rev_slice ys (cc))) c.map.ensures.closure (λ x r q k. search (rules, tests))) in
    let k = c.args.self in
    let m : length xs ≡ c.args.k + 1 = omega (arith, length-take (c.args.k + 1) c.args.a.coefficients, c.requires) in
    let n : length ys ≡ c.args.k + 1 = omega (arith, length-take (c.args.k + 1) c.args.b.coefficients, c.requires) in
    product_is k.base.value k.base.ok.0 k.depth c.args.a c.args.b c.args.k (c.args.k + 1) c.sum-sum.result refl
    (ap (remainder k.base.value k.base.ok.0) e ∙ convolved k.base.value k.base.ok.0 k.depth c.args.a c.args.b c.args.k m n)
