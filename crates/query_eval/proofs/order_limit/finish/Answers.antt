use Rattle.std.proofs.Common.{◌≡◌, ◌∙◌, ap, subst, ℕ, List, length, Option}
use Rattle.std.proofs.lemmas.Result.{IfOk-weaker}
use Rattle.lineage.specs.declared.answer.Answer.{Answer}
use Rattle.predicates.specs.Checking.{places_at}
use Rattle.query_eval.specs.Finishing.{IsFinished, IsLimited, by_columns, sort_columns}
use Rattle.query_eval.specs.declared.sort.SortColumn.{SortColumn}
use Rattle.sql_model.specs.Sorting.{sorted_by}
use Rattle.query_eval.proofs.Finishes.{finished-is}
use Rattle.query_eval.proofs.order_limit.finish.Goals as goal

pub returns : goal.returns
returns c =
    let checked = c.args.checked.now in
    let query = c.query_of-query.result.now in
    let columns = c.in_ok-columns.columns.items in
    let by : columns ≡ sort_columns (places_at checked (length query.cores)) query.order =
    c.in_ok-columns.ensures
    ∙ ap (λ (ps : List ℕ). sort_columns ps c.items-2.result.now) (c.items.ensures ∙ c.column_indexes-places.ensures ∙ ap (places_at checked) c.len.ensures)
    ∙ ap (sort_columns (places_at checked (length query.cores))) c.items-2.ensures in
    let sorted : c.in_ok-answers.answers ≡ sorted_by (by_columns columns) c.args.answers =
    c.in_ok-answers.ensures ∙ ap (λ (cs : List SortColumn). sorted_by (by_columns cs) c.args.answers) c.as_slice.ensures.value in
    IfOk-weaker c.limit_answers.result (IsLimited c.limit_of.result c.in_ok-answers.answers) (IsFinished checked c.args.answers)
    (λ finished is. finished-is checked query c.args.answers columns finished c.query_of-query.ensures by
    (subst (λ (l : Option ℕ). IsLimited l (sorted_by (by_columns columns) c.args.answers) finished) c.limit_of.ensures
    (subst (λ (made : List Answer). IsLimited c.limit_of.result made finished) sorted is)))
    c.limit_answers.ensures
