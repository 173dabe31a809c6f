use Rattle.std.proofs.Common.{◌^◌, T, ltb}
use Rattle.bits.proofs.Loops.{Multiplied}
use Rattle.bits.proofs.BitsKind.mul.Given as goal

abbrev pub invariant-loop : goal.invariant-loop
invariant-loop l =
    let k = l.self in
    T (ltb l.a (2 ^ k.depth)) → T (ltb l.b (2 ^ k.depth)) → Multiplied k.depth k.ok.0 k.ok.1 l.a l.b l.sum l.moved l.rest l.counter
