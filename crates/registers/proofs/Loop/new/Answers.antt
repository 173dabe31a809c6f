use Rattle.std.proofs.Common.{rules}
use Rattle.registers.specs.Registers.{loop_rows}
use Rattle.registers.proofs.Making.{chosen}
use Rattle.registers.proofs.Repeating.{made}
use Rattle.registers.proofs.Loop.new.Goals as goal

pub returns-clause-list : goal.returns-clause-list
returns-clause-list g c =
    let xs = c.args.elements.now in
    let used = c.map_or-elements.result.now in
    rw c.begin.ensures.list (made (g.K.Kind.laws c.args.kind) xs used
    (chosen (loop_rows (g.K.Kind.ring c.args.kind) xs) xs used c.check_loop.result c.check_loop.ensures (λ u e. search rules) (λ e r. search rules)))
