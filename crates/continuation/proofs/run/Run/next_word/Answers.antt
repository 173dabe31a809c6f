use Rattle.std.proofs.Common.{◌≡◌, ◌+◌, ◌-◌, ◌<◌, length, take, get_or-take, length-take, ◌∙◌, ap₂, arith}
use Rattle.ring.proofs.Loops.{lawful_at, added_none, added_more}
use Rattle.recurrence.specs.Memory.{at}
use Rattle.recurrence.proofs.Elements.{read_at}
use Rattle.continuation.proofs.Turns as Turns
use Rattle.continuation.proofs.run.Run.next_word.Goals as goal

pub loop-j-init : goal.loop-j-init
loop-j-init g c = added_none (g.K.Kind.laws c.args.self.now.words.kind) _ _ c.zero-total.ensures

pub loop-j-preserved : goal.loop-j-preserved
loop-j-preserved g c =
    let words = c.args.self.now.words in
    let row = c.args.self.now.row.now in
    let L = g.K.Kind.laws words.kind in
    let R = g.K.Kind.ring words.kind in
    let D = length row - 1 in
    let j = c.loop-j.j in
    let below : j < D = omega (arith, length-take D row) in
    let ready : Turns.Ready R words.shape words.cells.now D (at R row) = record { words = c.args.self.now.words.lawful; polynomial = c.args.self.now.polynomial; short = c.args.self.now.short } in
    let y_is : c.a-item.result ≡ at R row j = read_at R (take D row) j c.a-item.result (omega arith) c.a-item.is ∙ get_or-take D row j R.zero below in
    let x_is = Turns.looked L words.shape words.cells.now D (at R row) ready c.args.out.now c.args.t c.args.c j c.look-x.result
    below c.requires.channel c.requires.filled (c.look-x.ensures R.zero) in
    added_more L (Turns.terms R words.shape words.cells.now D (at R row) c.args.c c.args.t) j c.a-item.result c.look-x.result _ _ _ (lawful_at L y_is (ready.polynomial j))
    (lawful_at L x_is (Turns.run_lawful L words.shape words.cells.now D (at R row) ready c.args.c (words.shape.count.words + c.args.t - D + j) c.requires.channel))
    (ap₂ R.mul y_is x_is) c.mul.ensures c.add-total.ensures c.loop-j.invariant

pub returns : goal.returns
returns g c =
    let words = c.args.self.now.words in
    let row = c.args.self.now.row.now in
    Turns.ended (g.K.Kind.laws words.kind) words.shape words.cells.now (length row - 1) (at (g.K.Kind.ring words.kind) row) (record { words = c.args.self.now.words.lawful; polynomial = c.args.self.now.polynomial; short = c.args.self.now.short })
    c.args.t c.args.c c.loop-j.j c.loop-j.total c.sub.result c.zero.result (omega (arith, length-take (length row - 1) row)) c.loop-j.invariant c.zero.ensures c.sub.ensures
