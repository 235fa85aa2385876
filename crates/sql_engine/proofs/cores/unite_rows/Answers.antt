use Rattle.std.proofs.Common.{subst, sym, List}
use Rattle.lineage.specs.Rows.{AnswersStandFor}
use Rattle.sql_engine.specs.Types.{Answer}
use Rattle.sql_model.specs.QueryAnswer.{AnswerRow, once}
use Rattle.std.specs.Prelude.{ℕ, Bool}
use Rattle.sql_engine.proofs.AnswerLaws.{united_is}
use Rattle.sql_engine.proofs.cores.unite_rows.Goals as goal

pub returns : goal.returns
returns c store keep now after hidden others first second =
    united_is store keep now after hidden others c.args.rows c.args.more first second c.union.new.self c.in_ok-union.ensures.ok c.args.merges c.in_ok-merged_if.field-0
    (subst (λ (l : List Answer). (names : List (List ℕ)) (versions : List ℕ → ℕ → ℕ) (keep : Bool) (rows : List AnswerRow)
    → AnswersStandFor names versions keep l rows → AnswersStandFor names versions keep c.in_ok-merged_if.field-0 (once c.args.merges rows))
    c.in_ok-both.ensures c.in_ok-merged_if.ensures)
