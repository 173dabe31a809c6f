use Rattle.std.proofs.Common.{◌≡◌, ℕ, ◌+◌, ◌-◌, ◌*◌, ◌≤◌, List, ◌++◌, length, get_or, drop, sym, ap, ◌∙◌, subst, length-append, length-drop, length-take-le, get_or-drop, arith}
use Rattle.std.proofs.lemmas.List.{get_or-append_right}
use Rattle.ring.specs.Ring.{Ring}
use Rattle.recurrence.specs.declared.shape.Shape.{Shape}
use Rattle.recurrence.specs.Words.{words, LawfulWords}
use Rattle.recurrence.specs.Findings.{extent}
use Rattle.recurrence.proofs.Elements.{stable}
use Rattle.levels.specs.Rounds.{Solved}
use Rattle.annihilator.specs.Calls.{work_size}
use Rattle.annihilator.proofs.Findings.{enough, store_within, solved_in, finding_of}
use Rattle.annihilator.proofs.find.Goals as goal

work_of : {E : Type 0} (R : Ring E) (shape : Shape) (d w n : ℕ) → d ≡ R.depth → w ≡ (shape.count.words * shape.channels + 2 * d + 12) * (shape.count.words + shape.channels + 1) → w ≤ n → work_size R shape ≤ n
work_of R shape d w n deep e h = subst (λ z. (shape.count.words * shape.channels + 2 * z + 12) * (shape.count.words + shape.channels + 1) ≤ n) deep (subst (λ z. z ≤ n) e h)

-- past what was written at the beginning
past : {A : Type 0} (new old : List A) (k j : ℕ) (z : A) → length new ≡ k → k ≤ j → get_or (new ++ drop k old) j z ≡ get_or old j z
past new old k j z long h =
    get_or-append_right new (drop k old) k j z long h ∙ get_or-drop k old (j - k) z ∙ ap (λ i. get_or old i z) {x = k + (j - k)} {y = j} (omega arith)

pub returns : goal.returns
returns g c =
    let kind = c.args.kind.now in
    let R = g.K.Kind.ring kind in
    let L = g.K.Kind.laws kind in
    let shape = c.args.shape in
    let ws = c.args.words.now in
    let fm = c.args.finding.now in
    let work = c.args.work.now in
    let w = c.in_ok-words.words in
    let made = c.in_ok-words.ensures in
    let e = shape.count.words in
    let depth = c.depth-depth.result in
    let deep = c.depth-depth.ensures.is in
    let rows = depth * (e + 1) in
    let cells = c.places.result * (e + 2) in
    let new = c.solve.new.finding in
    let store = c.solve.new.store in
    let levels = c.solve.new.table.levels in
    let lawful : LawfulWords R shape.channels e (words R shape ws) = (λ k n hk hn. stable _ (λ unlawful. made.0.1.0 (λ all. unlawful (all k n hk hn)))) in
    let solved : Solved L shape ws new levels
    = subst (λ z. Solved L shape z new levels) made.1.2
    (subst (λ z. Solved L z w.cells.now new levels) made.1.1 (subst (λ z. Solved (g.K.Kind.laws z) w.shape w.cells.now new levels) made.1.0 c.solve.ensures)) in
    let fits : rows ≤ length fm = omega arith in
    let room : cells ≤ length work = omega (arith, store_within shape depth, c.work_size.ensures, ap (λ z. z * (e + 2)) (c.places.ensures.is ∙ ap (λ (s : Shape). s.count.words * s.channels) made.1.1)) in
    let long : length new ≡ rows = c.solve.auto.finding ∙ length-take-le rows fm fits in
    let long_store : length store ≡ cells = c.solve.auto.store ∙ length-take-le cells work room in
    let extent_is : rows ≡ extent R e = ap (λ z. z * (e + 1)) deep in (
      (
        enough R shape ws fm work (omega (arith, extent_is)) (work_of R shape depth _ _ deep c.work_size.ensures (omega arith)) made.0.0,
        (made.0.1.0, tt),
      ),
      (
        finding_of L shape ws lawful _ levels (solved_in L shape ws new (drop rows fm) levels (sym extent_is ∙ sym long) solved),
        length-append new (drop rows fm) ∙ omega (arith, length-drop rows fm),
        λ j h. past new fm rows j R.zero long (omega (arith, extent_is)),
        length-append store (drop cells work) ∙ omega (arith, length-drop cells work),
      ),
    )
