use Rattle.std.proofs.Common.{cond, nat_lt, ◌+◌, ◌%◌, get_or, rules}
use borrow.Author.Tests.{tests}
use Rattle.truncated.proofs.Adding.{add_is}
use Rattle.truncated.proofs.Filling.{made_at}
use Rattle.truncated.proofs.TruncatedKind.add.Goals as goal

pub returns : goal.returns
returns c _ _ =
    let p = c.args.self.now.base.value in
    let d = c.args.self.now.depth in
    add_is p c.args.self.now.base.ok.0 d c.args.a c.args.b c.from_fn.result c.from_fn.ensures.items.long
    (made_at (λ j. cond (nat_lt j d) ((get_or c.args.a.coefficients j 0 + get_or c.args.b.coefficients j 0) % p) 0) c.from_fn.result c.from_fn.ensures.items
    (λ i r q lt t. search (rules, tests)))
