use Rattle.std.proofs.Common.{◌≡◌, ◌+◌, ◌%◌, sym, ◌∙◌, mod-eq_of_lt, arith}
use Rattle.truncated.proofs.Modulo.{once_less}
use Rattle.truncated.proofs.sum_modulo.Goals as goal
use Rattle.truncated.proofs.sum_modulo.Goals.{then-sum-p, else-sum-p}

pub returns-then-once-p : goal.returns-then-once-p
returns-then-once-p c =
    let once : c.if-sum-p.once ≡ (c.from.result + c.from-2.result) % c.from-p.result =
    elim c.if-sum-p.branch [
      | then-sum-p w ↦ w.once-is ∙ sym (mod-eq_of_lt w.if-sum-p.true)
      | else-sum-p w ↦ w.once-is ∙ once_less (c.from.result + c.from-2.result) c.from-p.result w.if-sum-p.false (omega (arith, w.once-is, c.if-once-p.true))
    ] in
    rw c.from.ensures at (rw c.from-2.ensures at (rw c.from-p.ensures at once))
