use Rattle.std.proofs.Common.{ap, ◌∙◌, arith}
use Rattle.std.specs.Result.{result_ok}
use Rattle.std.proofs.lemmas.Fmt.{parse-decimal}
use Rattle.lines.proofs.Fields.number.Goals as goal

pub returns : goal.returns
returns c =
    record {
      field = _;
      cut = c.word.ensures;
      number = λ n small same.
          c.ok.ensures.value ∙ ap result_ok (parse-decimal 32 n _ _ small (omega (arith, small)) same c.parse.ensures.value.0);
    }
