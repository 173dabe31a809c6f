use Rattle.remainder.proofs.Steps.{Turn}
use Rattle.remainder.proofs.reduce.Given as goal

abbrev pub invariant-loop-m : goal.invariant-loop-m
invariant-loop-m g l = let sound = l.sound in Turn (g.K.Kind.ring sound.kind) sound.shape sound.record.now.levels sound.cells.now l.initial.f l.f l.m
