use Rattle.std.proofs.Common.{◌≡◌, length, take, sym, ◌∙◌, arith, length-take}
use Rattle.sources.proofs.Turns.{pushed, turned_past, passed_on}
use Rattle.sources.proofs.delay.DelayLine.push.Goals as goal
use Rattle.sources.proofs.delay.DelayLine.push.Goals.{then-self-len, else-self-len}

pub returns-then-len-eq0-clause-shifted : goal.returns-then-len-eq0-clause-shifted
returns-then-len-eq0-clause-shifted g c =
    let line = c.args.self.now in
    passed_on line.cells.now line.len line.at c.args.x (simp length-take (omega arith))

pub returns-clause-shifted : goal.returns-clause-shifted
returns-clause-shifted g c =
    let line = c.args.self.now in
    let size : length (take line.len line.cells.now) ≡ c.min-len.result = length-take line.len line.cells.now ∙ sym c.min-len.ensures in
    pushed line.cells.now line.len line.at c.if-self-len.at c.args.x c.index-self-at.result
    (elim c.if-self-len.branch [ then-self-len w ↦ let e = w.at-is in let t = w.if-self-len.true in omega (arith, size) | else-self-len w ↦ let e = w.at-is in omega (arith, size) ])
    (elim c.if-self-len.branch [ then-self-len w ↦ rw w.at-is | else-self-len w ↦ let t = w.if-self-len.false in turned_past (take line.len line.cells.now) line.at (omega (arith, size)) ∙ rw w.at-is ])
