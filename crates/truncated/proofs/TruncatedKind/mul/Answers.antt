use Rattle.std.proofs.Common.{cond, nat_lt, rules}
use borrow.Author.Tests.{tests}
use Rattle.truncated.specs.Operations.{product_of}
use Rattle.truncated.proofs.Filling.{made_at}
use Rattle.truncated.proofs.Places.{filled_places, one_place, same_places}
use Rattle.truncated.proofs.TruncatedKind.mul.Goals as goal

pub returns : goal.returns
returns c _ _ =
    let k = c.args.self.now in
    same_places _ _ (filled_places k.depth (λ j. (product_of k.base.value k.base.ok.0 k.depth c.args.a c.args.b j).0) c.from_fn.result c.from_fn.ensures.items.long
    (made_at (λ j. cond (nat_lt j k.depth) (product_of k.base.value k.base.ok.0 k.depth c.args.a c.args.b j).0 0) c.from_fn.result c.from_fn.ensures.items
    (λ i r q lt t. search (rules, tests))))

pub returns-then-self-eq1 : goal.returns-then-self-eq1
returns-then-self-eq1 c _ _ =
    let k = c.args.self.now in
    same_places _ _ (one_place (λ j. (product_of k.base.value k.base.ok.0 k.depth c.args.a c.args.b j).0) k.depth _ c.if-self-eq1.true c.product_at.ensures.is)
