use Rattle.std.proofs.Common.{◌≡◌, subst, sym, ap, ◌∙◌, List, ℕ, Bool}
use Rattle.lineage.specs.Lineage.{Lineage}
use Rattle.lineage.specs.Rows.{kept_origins, AnswersStandFor}
use Rattle.lineage.specs.StandsFor.{StandsFor}
use Rattle.query_eval.proofs.Merges.{lineage_of_answers-stands}
use Rattle.query_eval.specs.Merging.{lineage_of_answers}
use Rattle.sql_engine.specs.inner.Answering.{IsAnswer, IsHidden}
use Rattle.sql_engine.specs.Types.{Value}
use Rattle.sql_engine.proofs.AnswerLaws.{answered_is}
use Rattle.sql_model.specs.Needs.{sums_up}
use Rattle.sql_model.specs.QueryAnswer.{AnswerRow, lineage_of}
use Rattle.sql_engine.proofs.answer.query_answer.Goals as goal

pub returns : goal.returns
returns c query asked =
    let finished = c.in_ok-finished.finished in
    let sums : c.sums_up-sums.result ≡ sums_up c.query_of.result.now.cores = c.sums_up-sums.ensures ∙ ap sums_up c.items.ensures in
    let hidden : IsHidden (sums_up c.query_of.result.now.cores) c.in_ok-all.all.rejected finished.cut c.in_ok-hidden.hidden =
    subst (λ (b : Bool). IsHidden b c.in_ok-all.all.rejected finished.cut c.in_ok-hidden.hidden) sums c.in_ok-hidden.ensures in
    let lineage : c.in_ok-lineage.lineage ≡ lineage_of_answers finished.answers = c.in_ok-lineage.ensures ∙ ap lineage_of_answers c.items-2.ensures in
    let stands : (names : List (List ℕ)) (versions : List ℕ → ℕ → ℕ) (keep : Bool) (rows : List AnswerRow)
    → AnswersStandFor names versions keep finished.answers rows → StandsFor names versions c.in_ok-lineage.lineage (kept_origins keep (lineage_of rows)) =
    λ names versions keep rows stand.
    subst (λ (set : Lineage). StandsFor names versions set (kept_origins keep (lineage_of rows))) (sym lineage) (lineage_of_answers-stands names versions keep finished.answers rows stand) in
    subst (λ (rows : List (List Value)). IsAnswer c.args.store.now c.args.keep query (record { rows = rows; lineage = c.in_ok-lineage.lineage; hidden = c.in_ok-hidden.hidden }))
    (sym c.in_ok-values_of.ensures)
    (answered_is c.args.checked.now c.args.store.now c.args.keep c.in_ok-all.all finished c.query_of.result.now c.query_of.ensures c.in_ok-all.ensures c.in_ok-finished.ensures
    c.in_ok-hidden.hidden c.in_ok-lineage.lineage hidden stands query asked)
