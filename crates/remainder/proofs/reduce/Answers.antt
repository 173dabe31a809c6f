use Rattle.std.proofs.Common.{arith}
use Rattle.remainder.proofs.Steps as Steps
use Rattle.remainder.proofs.reduce.Goals as goal

pub returns-then-m-degree-clause-rest : goal.returns-then-m-degree-clause-rest
returns-then-m-degree-clause-rest g c =
    let sound = c.args.sound.now in
    Steps.stop (g.K.Kind.laws sound.kind) sound.shape sound.record.now.levels sound.cells.now sound.sound c.args.f.now c.loop-m.f c.loop-m.m
    c.split-v.result.0 c.split-v.result.1 c.index-f-m.result (omega arith) c.loop-m.invariant c.index-f-m.is c.split-v.ensures (omega arith) (omega arith)

pub take_away-requires-clause-unit : goal.take_away-requires-clause-unit
take_away-requires-clause-unit g c =
    let sound = c.args.sound.now in
    Steps.lawful_part (g.K.Kind.laws sound.kind) sound.shape sound.record.now.levels sound.cells.now sound.sound c.args.f.now c.loop-m.f c.loop-m.m
    c.split-v.result.0 c.split-v.result.1 c.index-f-m.result (omega arith) c.loop-m.invariant c.index-f-m.is c.split-v.ensures

pub loop-m-preserved-then-v-depth : goal.loop-m-preserved-then-v-depth
loop-m-preserved-then-v-depth g c =
    let sound = c.args.sound.now in
    Steps.again (g.K.Kind.laws sound.kind) sound.shape sound.record.now.levels sound.cells.now sound.sound c.args.f.now c.loop-m.f c.loop-m.m
    c.split-v.result.0 c.split-v.result.1 c.index-f-m.result (omega arith) c.loop-m.invariant c.index-f-m.is c.split-v.ensures
    c.take_away.new.f c.row.result.now c.length-degree.result (omega arith) c.length-degree.ensures.is c.if-m-degree.false c.row.ensures.is c.row.ensures.long c.take_away.ensures

pub returns-clause-rest : goal.returns-clause-rest
returns-clause-rest g c =
    let sound = c.args.sound.now in
    Steps.finish (g.K.Kind.ring sound.kind) sound.shape sound.record.now.levels sound.cells.now (g.K.Kind.laws sound.kind) c.args.f.now c.loop-m.f c.loop-m.m (omega arith) c.loop-m.invariant
