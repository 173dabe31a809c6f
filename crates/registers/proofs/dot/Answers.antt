use Rattle.std.proofs.Common.{◌≡◌, ℕ, suc, length, sym, refl, ap, ◌∙◌, subst, arith, rules, length-append}
use Rattle.std.proofs.lemmas.Slice.Zip.{zip_turn, zip_end}
use Rattle.ring.specs.Commutative.{sum}
use Rattle.ring.specs.Lawful.{Lawful, Is, lifted, cells}
use Rattle.ring.proofs.Lifts.{zero_is, cell_is, is_same, sum_turn}
use Rattle.registers.proofs.dot.Goals as goal

pub loop-coefficient-init : goal.loop-coefficient-init
unfolding sum
loop-coefficient-init g c = zero_is (g.K.Kind.laws c.args.kind.now) c.zero-sum.ensures

pub loop-coefficient-preserved : goal.loop-coefficient-preserved
loop-coefficient-preserved g c =
    let L = g.K.Kind.laws c.args.kind.now in
    let cs = c.args.coefficients.now in
    let vs = c.args.values.now in
    let n : ℕ = length c.loop-coefficient.yielded in
    let f : ℕ → Lawful L = λ i. (lifted L).◌⊗◌ (cells L cs i) (cells L vs i) in
    let pair = zip_turn cs vs c.loop-coefficient.yielded c.into_iter-coefficient-iterator.result c.loop-coefficient.coefficient-iterator c.next.new.self c.next.result (search rules) (search rules) c.loop-coefficient.yielded_by (c.in-Some.coefficient, c.in-Some.value) c.in-Some.is c.next.ensures.steps in
    let turn : Is L c.add-sum.result (sum (lifted L) (suc n) f) =
    sum_turn L n f c.loop-coefficient.invariant (is_same L (pair.2 _) (cell_is L cs n c.requires.coefficients)) (is_same L (pair.3 _) (cell_is L vs n c.requires.values)) refl c.mul.ensures c.add-sum.ensures in
    subst (λ k. Is L c.add-sum.result (sum (lifted L) k f)) (sym (simp length-append (omega arith))) turn

pub returns : goal.returns
returns g c =
    let L = g.K.Kind.laws c.args.kind.now in
    let cs = c.args.coefficients.now in
    let vs = c.args.values.now in
    let f : ℕ → Lawful L = λ i. (lifted L).◌⊗◌ (cells L cs i) (cells L vs i) in
    let turns = zip_end cs vs c.loop-coefficient.yielded c.into_iter-coefficient-iterator.result c.loop-coefficient.coefficient-iterator c.next.new.self c.next.result (search rules) (search rules) c.loop-coefficient.yielded_by c.in-None.is c.next.ensures.steps in
    let all : length c.loop-coefficient.yielded ≡ length vs = omega (arith, turns, c.requires.enough) in
    c.loop-coefficient.invariant.eq ∙ ap (λ (n : ℕ). (sum (lifted L) n f).0) all
