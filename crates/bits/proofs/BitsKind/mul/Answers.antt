use Rattle.std.proofs.Common.{arith}
use Rattle.bits.proofs.Operations.{odd_taken, even_left}
use Rattle.bits.proofs.Loops.{multiplied_start, multiplied_odd, multiplied_even, multiplied_whole}
use Rattle.bits.proofs.BitsKind.mul.Goals as goal
use Rattle.bits.proofs.BitsKind.mul.Goals.{then-rest-eq1, else-rest-eq1}

pub loop-init : goal.loop-init
loop-init c ha hb = let k = c.args.self.now in multiplied_start k.depth k.ok.0 k.ok.1 c.args.a c.args.b ha hb

pub loop-preserved : goal.loop-preserved
loop-preserved c ha hb =
    let k = c.args.self.now in
    let l = c.loop in
    elim c.if-rest-eq1.branch [
      | then-rest-eq1 w ↦ multiplied_odd k.depth k.ok.0 k.ok.1 c.args.a c.args.b c.mask-mask.result l.sum l.moved l.rest l.counter _
          c.mask-mask.ensures (odd_taken l.rest w.if-rest-eq1.true) w.sum-is (l.invariant ha hb)
      | else-rest-eq1 w ↦ multiplied_even k.depth k.ok.0 k.ok.1 c.args.a c.args.b c.mask-mask.result l.sum l.moved l.rest l.counter _
          c.mask-mask.ensures (even_left l.rest w.if-rest-eq1.false) w.sum-is (l.invariant ha hb)
    ]

pub returns : goal.returns
returns c ha hb =
    let k = c.args.self.now in
    let l = c.loop in
    multiplied_whole k.depth k.ok.0 k.ok.1 c.args.a c.args.b l.sum l.moved l.rest l.counter (omega arith) hb (l.invariant ha hb)
