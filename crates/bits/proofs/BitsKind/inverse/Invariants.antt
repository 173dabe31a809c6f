use Rattle.std.proofs.Common.{◌≡◌, ◌^◌, true, T, ltb}
use Rattle.bits.specs.Bits.{odd}
use Rattle.bits.proofs.Loops.{Divided}
use Rattle.bits.proofs.BitsKind.inverse.Given as goal

abbrev pub invariant-loop-i : goal.invariant-loop-i
invariant-loop-i l =
    let k = l.self in
    T (ltb l.u (2 ^ k.depth)) → odd l.u ≡ true → Divided k.depth k.ok.0 k.ok.1 l.u l.w l.rest l.i
