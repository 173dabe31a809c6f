use Rattle.std.proofs.Common.{◌≡◌, ◌+◌, ◌<◌, ◌≤◌, true, T, get_or, sym, subst, arith, below_more, take, length-take, get_or-take}
use Rattle.ring.proofs.Loops.{place_inside}
use Rattle.recurrence.specs.declared.shape.Level.{Level}
use Rattle.recurrence.specs.Findings.{blank}
use Rattle.recurrence.proofs.Elements.{read_at}
use Rattle.judging.proofs.Powers.{power_none, power_more}
use Rattle.judging.proofs.Forms.{leads_told}
use Rattle.judging.proofs.finding.Finding.formed.Goals as goal

pub loop-i-init : goal.loop-i-init
loop-i-init g c = record { power = power_none (g.K.Kind.laws c.args.self.now.kind) _ c.one-power.ensures; formed = λ j b. absurd (omega arith) }

pub loop-i-preserved : goal.loop-i-preserved
loop-i-preserved g c =
    let finding = c.args.self.now in
    let levels = finding.record.now.levels in
    let L = g.K.Kind.laws finding.kind in
    let hi : c.loop-i.i < (g.K.Kind.ring finding.kind).depth = omega (arith, length-take c.depth.result levels) in
    let level : Level = get_or (take c.depth.result levels) c.loop-i.i blank in
    let is : level ≡ get_or levels c.loop-i.i blank = get_or-take c.depth.result levels c.loop-i.i blank (omega arith) in
    let told = leads_told L finding.shape.count.words levels finding.cells.now c.loop-i.i level c.index-cells-i.result c.loop-i.power true
    c.requires.lawful hi is c.if-level-words.false (read_at (g.K.Kind.ring finding.kind) finding.cells.now _ c.index-cells-i.result (omega (arith, c.requires.room, place_inside (g.K.Kind.ring finding.kind).depth (finding.shape.count.words + 1) c.loop-i.i level.length hi (omega arith))) c.index-cells-i.is) c.loop-i.invariant.power c.if-not-is_equal.ensures in
    record {
      power = power_more L c.loop-i.i _ _ _ c.loop-i.invariant.power c.step-step.ensures c.mul-power.ensures;
      formed = below_more _ _ c.loop-i.invariant.formed (record { short = subst (λ (l : Level). l.length ≤ finding.shape.count.words) is c.if-level-words.false; marked = subst (λ (l : Level). T l.found) is (subst T (sym c.if-not-level.false) tt); leads = told.0 tt });
    }
