use Rattle.std.proofs.Common.{rules}
use Rattle.sources.specs.Window.{values}
use Rattle.registers.proofs.Continuing.{continued_first, continued_later, both_lawful, pushed_lawful}
use Rattle.registers.proofs.RegisterSource.next.Goals as goal

pub invariant_of-self : goal.invariant_of-self
invariant_of-self g c =
    let s = c.args.self.now in
    let L = g.K.Kind.laws s.kind in
    record {
      enough = search rules;
      lawful_coefficients = s.lawful_coefficients;
      lawful_stages = pushed_lawful L s.coefficients.now (values s.line) (values c.push.new.self) c.following-following.result c.push.result c.push.ensures.shifted
          (record { eq = c.following-following.ensures }) s.lawful_stages;
    }

pub returns-clause-first : goal.returns-clause-first
returns-clause-first g c =
    let s = c.args.self.now in
    continued_first (g.K.Kind.laws s.kind) s.coefficients.now (values s.line) (values c.push.new.self) c.following-following.result c.push.result c.push.ensures.shifted
    (record { eq = c.following-following.ensures }) s.lawful_stages

pub returns-clause-lawful : goal.returns-clause-lawful
returns-clause-lawful g c =
    let s = c.args.self.now in
    both_lawful (g.K.Kind.laws s.kind) s.coefficients.now (values s.line) (values c.push.new.self) c.following-following.result c.push.result c.push.ensures.shifted
    (record { eq = c.following-following.ensures }) s.lawful_stages 0

pub returns-clause-later : goal.returns-clause-later
returns-clause-later g c =
    let s = c.args.self.now in
    continued_later (g.K.Kind.laws s.kind) s.coefficients.now (values s.line) (values c.push.new.self) c.following-following.result c.push.result c.push.ensures.shifted
    (record { eq = c.following-following.ensures })
