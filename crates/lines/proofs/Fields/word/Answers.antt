use Rattle.std.proofs.Common.{◌≡◌, Some, None, Option, ℕ, List, [], Bor, refl, inl, inr, lit<, sym, subst}
use Rattle.std.proofs.lemmas.Str.Pattern.{split_parts, IsSplitOnceResult}
use Rattle.std.specs.Option.{unwrap_or}
use Rattle.lines.specs.Lines.{Cut}
use Rattle.lines.proofs.Fields.word.Goals as goal

-- the two parts of a split, or the line and nothing
cut : (d : Bor (List ℕ) × Bor (List ℕ)) (r : Option (Bor (List ℕ) × Bor (List ℕ))) → d.1.now ≡ [] → IsSplitOnceResult 32 d.0.now r
    → Cut d.0.now (unwrap_or r d).0.now (unwrap_or r d).1.now
cut d (Some x) empty is =
    let at = split_parts 32 d.0.now (Some x) is (lit< tt) in
    record { parts = inl at.0; whole = at.1 }
cut d None empty is =
    record { parts = inr (refl, empty); whole = split_parts 32 d.0.now None is (lit< tt) }

pub returns : goal.returns
returns c =
    subst (λ s. Cut c.args.self.now.rest.now s.0.now s.1.now) (sym c.unwrap_or.ensures)
    (cut _ c.split_once.result refl c.split_once.ensures.cases)
