use Rattle.std.proofs.Common.{◌≡◌, sym, ap, ◌∙◌, rules}
use borrow.Author.Tests.{tests}
use Rattle.std.proofs.lemmas.Iterator.{YieldsList-from_slice}
use Rattle.std.proofs.lemmas.Iterator.Search.{find_from_yields_List}
use Rattle.std.specs.List.{find}
use Rattle.std.specs.Option.{option_map}
use Rattle.ring.proofs.Rows.{refuses, passes}
use Rattle.ring.proofs.first.Goals as goal

pub returns-in-Some : goal.returns-in-Some
returns-in-Some c =
    let found : option_map (λ row. row.now) c.find.result ≡ find (λ row. row.0) c.args.rows.now
    = find_from_yields_List (λ row. row.0) _ _ c.find.result c.find.ensures.ran (YieldsList-from_slice c.args.rows.now cc) (λ x b q k. search (rules, tests)) in
    (refuses c.args.rows.now c.in-Some.row.now (sym found ∙ ap (option_map (λ row. row.now)) c.in-Some.is), tt)

pub returns-in-None : goal.returns-in-None
returns-in-None c =
    let found : option_map (λ row. row.now) c.find.result ≡ find (λ row. row.0) c.args.rows.now
    = find_from_yields_List (λ row. row.0) _ _ c.find.result c.find.ensures.ran (YieldsList-from_slice c.args.rows.now cc) (λ x b q k. search (rules, tests)) in
    (passes c.args.rows.now (sym found ∙ ap (option_map (λ row. row.now)) c.in-None.is), tt)
