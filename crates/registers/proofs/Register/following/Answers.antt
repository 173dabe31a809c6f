use Rattle.std.proofs.Common.{◌++◌, drop, take, sym, ap, ◌∙◌, ap₂, subst}
use Rattle.ring.specs.Lawful.{lifted, AllLawful}
use Rattle.sources.specs.Window.{turned}
use Rattle.registers.specs.Registers.{dot}
use Rattle.registers.proofs.Continuing.{all_dropped, follows_is, front_lawful, back_lawful}
use Rattle.registers.proofs.Register.following.Goals as goal

pub dot-requires-clause-values : goal.dot-requires-clause-values
unfolding turned
dot-requires-clause-values g c =
    let s = c.args.self.now in
    let L = g.K.Kind.laws s.kind in
    let stages = take s.line.len s.line.cells.now in
    subst (AllLawful L) (sym c.older-older.ensures) (front_lawful L (drop s.line.at stages) (take s.line.at stages) s.lawful_stages)

pub dot-requires-2-clause-values : goal.dot-requires-2-clause-values
unfolding turned
dot-requires-2-clause-values g c =
    let s = c.args.self.now in
    let L = g.K.Kind.laws s.kind in
    let stages = take s.line.len s.line.cells.now in
    subst (AllLawful L) (sym c.newer.ensures) (back_lawful L (drop s.line.at stages) (take s.line.at stages) s.lawful_stages)

pub returns : goal.returns
unfolding turned
returns g c =
    let s = c.args.self.now in
    let L = g.K.Kind.laws s.kind in
    let cs = s.coefficients.now in
    let older = c.older-older.result.now in
    let newer = c.newer.result.now in
    follows_is L cs older newer c.dot.result c.dot-2.result c.add-sum.result c.zero.result c.sub.result c.dot.ensures
    (c.dot-2.ensures ∙ ap (λ l. (dot L l newer).0) (all_dropped cs _)) c.add-sum.ensures c.zero.ensures c.sub.ensures
    ∙ ap₂ (λ xs ys. ((lifted L).⊖◌ (dot L cs (xs ++ ys))).0) c.older-older.ensures c.newer.ensures
