use Rattle.std.proofs.Common.{◌≡◌, List, ◌++◌, drop, map}
use Rattle.group_eval.specs.Evaluating.{IsPlacedPlan, answers_of, rejected_of}
use Rattle.group_eval.specs.inner.Grouping.{own_picks}
use Rattle.lineage.specs.Lineage.{union_of}
use Rattle.sql_model.specs.Scope.{InScope}
use Rattle.group_eval.proofs.grouping.evaluate_groups.Given as goal

abbrev pub invariant-loop-group : goal.invariant-loop-group
invariant-loop-group l = (scope : List InScope) → IsPlacedPlan scope l.plan
    → (l.grouped.answers ++ answers_of scope l.plan (map own_picks (drop l.group-index l.groups)) ≡ answers_of scope l.plan (map own_picks l.groups))
    × (union_of l.grouped.rejected (rejected_of scope l.plan (map own_picks (drop l.group-index l.groups))) ≡ rejected_of scope l.plan (map own_picks l.groups))
