use Rattle.std.proofs.Common.{◌+◌, ◌%◌, ◌<◌, length, sym, ◌∙◌, arith, mod-lt}
use Rattle.std.proofs.lemmas.List.{get_or_read}
use Rattle.registers.proofs.Repeating.{repeated_first, repeated_later, repeated_none}
use Rattle.registers.proofs.LoopSource.next.Goals as goal

pub returns-then-len-eq0-clause-first : goal.returns-then-len-eq0-clause-first
returns-then-len-eq0-clause-first g c =
    let s = c.args.self.now in
    c.zero.ensures ∙ sym (repeated_none (g.K.Kind.laws s.kind) s.elements.now c.if-len-eq0.true s.place 0)

pub returns-then-len-eq0-clause-later : goal.returns-then-len-eq0-clause-later
returns-then-len-eq0-clause-later g c t =
    let s = c.args.self.now in
    let zeros = repeated_none (g.K.Kind.laws s.kind) s.elements.now c.if-len-eq0.true s.place in
    zeros t ∙ sym (zeros (t + 1))

pub returns-clause-first : goal.returns-clause-first
returns-clause-first g c =
    let s = c.args.self.now in
    let xs = s.elements.now in
    let some : 0 < length xs = omega arith in
    let within : s.place % length xs < length xs = mod-lt s.place some in
    c.hold.ensures ∙ repeated_first (g.K.Kind.laws s.kind) xs s.place c.index-elements-place.result (get_or_read xs (s.place % length xs) _ within c.index-elements-place.is _)

pub returns-clause-later : goal.returns-clause-later
returns-clause-later g c =
    let s = c.args.self.now in
    repeated_later (g.K.Kind.laws s.kind) s.elements.now s.place
