use Rattle.std.proofs.Common.{arith}
use Rattle.bits.proofs.Operations.{odd_taken, even_left}
use Rattle.bits.proofs.Loops.{divided_start, divided_odd, divided_even, divided_whole, unit_odd}
use Rattle.bits.proofs.BitsKind.inverse.Goals as goal
use Rattle.bits.proofs.BitsKind.inverse.Goals.{then-rest-eq1, else-rest-eq1}

pub loop-i-init : goal.loop-i-init
loop-i-init c hu _ = let k = c.args.self.now in divided_start k.depth k.ok.0 k.ok.1 c.args.u hu

pub loop-i-preserved : goal.loop-i-preserved
loop-i-preserved c hu ou =
    let k = c.args.self.now in
    let l = c.loop-i in
    elim c.if-rest-eq1.branch [
      | then-rest-eq1 w ↦ divided_odd k.depth k.ok.0 k.ok.1 c.args.u l.w l.rest l.i _ _ c.loop-i-test.true hu ou
          (odd_taken l.rest w.if-rest-eq1.true) w.w-is w.rest-is (l.invariant hu ou)
      | else-rest-eq1 w ↦ divided_even k.depth k.ok.0 k.ok.1 c.args.u l.w l.rest l.i _ _
          (even_left l.rest w.if-rest-eq1.false) w.w-is w.rest-is (l.invariant hu ou)
    ]

pub returns : goal.returns
returns c v hu hv e =
    let k = c.args.self.now in
    let l = c.loop-i in
    divided_whole k.depth k.ok.0 k.ok.1 c.args.u l.w l.rest v l.i (omega arith) hu
    (l.invariant hu (unit_odd k.depth k.ok.0 k.ok.1 c.args.u v e)) hv e
