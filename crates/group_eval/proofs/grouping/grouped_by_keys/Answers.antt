use Rattle.std.proofs.Common.{◌≡◌, ◌∙◌, ap, subst, map, List}
use Rattle.std.proofs.lemmas.Result.{IfOk-weaker}
use Rattle.lineage.specs.declared.answer.Pick.{Pick}
use Rattle.group_eval.specs.Evaluating.{IsPlacedPlan, IsGroupedBy}
use Rattle.group_eval.specs.inner.Grouping.{keyed_groups, own_picks}
use Rattle.sql_model.specs.Scope.{InScope}
use Rattle.group_eval.proofs.grouping.grouped_by_keys.Goals as goal

pub returns : goal.returns
returns c =
    let plan = c.args.plan.now in
    let groups = c.as_slice.result.now in
    let are : map own_picks groups ≡ keyed_groups plan.group c.args.picks.now = ap (map own_picks) c.as_slice.ensures.value ∙ c.in_ok-groups.ensures in
    IfOk-weaker c.evaluate_groups.result
    (λ grouped. (scope : List InScope) → IsPlacedPlan scope plan → IsGroupedBy scope plan (map own_picks groups) grouped)
    (λ grouped. (scope : List InScope) → IsPlacedPlan scope plan → IsGroupedBy scope plan (keyed_groups plan.group c.args.picks.now) grouped)
    (λ grouped made scope placed.
    subst (λ (all : List (List Pick)). IsGroupedBy scope plan all grouped) are (made scope placed))
    c.evaluate_groups.ensures
