use Rattle.std.proofs.Common.{◌≡◌, ◌∙◌, subst, List}
use Rattle.std.proofs.lemmas.Result.{IfOk-weaker}
use Rattle.lineage.specs.declared.answer.Pick.{Pick}
use Rattle.group_eval.proofs.CoreLaws.{grouped_is}
use Rattle.group_eval.specs.Evaluating.{IsPlacedPlan, IsGroupedBy, IsGrouped}
use Rattle.group_eval.specs.inner.Grouping.{pick_groups}
use Rattle.sql_model.specs.Scope.{InScope}
use Rattle.group_eval.proofs.grouping.group.Goals as goal

pub returns : goal.returns
returns c =
    let checked = c.args.checked.now in
    let place = c.args.core in
    let plan = c.in_ok-plan.plan in
    let picks : List Pick = c.items.result.now in
    let same : picks ≡ c.args.picks = c.items.ensures in
    IfOk-weaker c.grouped_picks.result
    (λ grouped. (scope : List InScope) → IsPlacedPlan scope plan → IsGroupedBy scope plan (pick_groups plan.group picks) grouped)
    (λ grouped. IsGrouped checked place c.args.picks grouped)
    (λ grouped made.
    subst (λ (ps : List Pick). IsGrouped checked place ps grouped) same
    (grouped_is checked place c.core_of.result.now picks plan grouped c.core_of.ensures
    (λ scope are. c.in_ok-plan.ensures scope (c.column_indexes-places.ensures ∙ are)) made))
    c.grouped_picks.ensures
