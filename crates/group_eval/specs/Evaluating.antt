-- The answer rows of groups of picks.
use Rattle.std.specs.Prelude.{◌≡◌, ℕ, List, ◌∷◌, ◌++◌, map, filter, not, Bool, true, Option, Some, None}
use Rattle.lineage.specs.Lineage.{Lineage}
use Rattle.lineage.specs.Rows.{kept_origins, joined_row, AnswersStandFor, PicksStandFor}
use Rattle.lineage.specs.StandsFor.{StandsFor}
use Rattle.lineage.specs.declared.answer.Answer.{Answer}
use Rattle.lineage.specs.declared.answer.Pick.{Pick}
use Rattle.predicates.specs.Checking.{core_at, IsChecked}
use Rattle.group_eval.specs.inner.Folding.{first_row, group_meaning}
use Rattle.predicates.specs.Placing.{IsPlaced, AreAllPlaced}
use Rattle.group_eval.specs.Types.{Catalog, Checked, Core, Query, Value}
use Rattle.lineage.specs.Lineage.{union_of}
use Rattle.group_eval.specs.inner.Uniting.{lineage_of_picks, lineage_of_groups}
use Rattle.group_eval.specs.declared.grouping.Grouped.{Grouped}
use Rattle.predicates.specs.declared.placed.BoundExpr.{BoundExpr}
use Rattle.group_eval.specs.declared.plan.Plan.{Plan}
use Rattle.sql_model.specs.Meaning.{is_true}
use Rattle.sql_model.specs.Needs.{Versions}
use Rattle.sql_model.specs.QueryAnswer.{Combination, rows_in_scope, rejected_in_scope}
use Rattle.sql_model.specs.Refusals.{groups}
use Rattle.sql_model.specs.Scope.{InScope, scope_of}

-- ---- one group

abbrev pub item_values : List InScope → List Pick → List BoundExpr → List Value
item_values scope picks items = map (λ p. (group_meaning scope picks p.expr).value) items

abbrev pub group_values : List InScope → Option (List BoundExpr) → List Pick → List Value
group_values scope None picks = first_row picks
group_values scope (Some items) picks = item_values scope picks items

abbrev pub is_group_kept : List InScope → Option BoundExpr → List Pick → Bool
is_group_kept scope None picks = true
is_group_kept scope (Some having) picks = is_true (group_meaning scope picks having.expr).truth

abbrev pub group_answer : List InScope → Plan → List Pick → Answer
group_answer scope plan picks =
    record { values = group_values scope plan.items picks; lineage = lineage_of_picks picks }

-- ---- a plan in a scope

abbrev pub ArePlaced : List InScope → Option (List BoundExpr) → Type 0
ArePlaced scope None = Unit {0}
ArePlaced scope (Some items) = AreAllPlaced scope items

abbrev pub IsHavingPlaced : List InScope → Option BoundExpr → Type 0
IsHavingPlaced scope None = Unit {0}
IsHavingPlaced scope (Some having) = IsPlaced scope having

pub record IsPlacedPlan (scope : List InScope) (plan : Plan) : Type 0 where
  pub items : ArePlaced scope plan.items
  pub having : IsHavingPlaced scope plan.having

-- ---- groups

abbrev pub answers_of : List InScope → Plan → List (List Pick) → List Answer
answers_of scope plan groups = map (group_answer scope plan) (filter (is_group_kept scope plan.having) groups)

abbrev pub rejected_of : List InScope → Plan → List (List Pick) → Lineage
rejected_of scope plan groups =
    lineage_of_groups (filter (λ group. not (is_group_kept scope plan.having group)) groups)

pub record IsGroupedBy (scope : List InScope) (plan : Plan) (groups : List (List Pick)) (grouped : Grouped)
    : Type 0 where
  pub answers : grouped.answers ≡ answers_of scope plan groups
  pub rejected : grouped.rejected ≡ rejected_of scope plan groups

-- a group more, whatever groups are left
pub record AddsGroup (scope : List InScope) (plan : Plan) (group : List Pick) (old new : Grouped)
    : Type 0 where
  pub answers : (rest : List (List Pick)) → new.answers ++ answers_of scope plan rest
      ≡ old.answers ++ answers_of scope plan (group ∷ rest)
  pub rejected : (rest : List (List Pick)) → union_of new.rejected (rejected_of scope plan rest)
      ≡ union_of old.rejected (rejected_of scope plan (group ∷ rest))

-- ---- a core

-- the answers stand for the rows of a core that groups, and the rejected lineage for that of the groups that
-- HAVING rejects, where the picks stand for the core's combinations
abbrev pub IsGrouped : Checked → ℕ → List Pick → Grouped → Type 0
IsGrouped checked place picks grouped =
    (query : Query) (catalog : Catalog) (core : Core) (names : List (List ℕ)) (versions : Versions)
    (keep : Bool) (all : List Combination)
    → IsChecked checked query catalog
    → core_at checked place ≡ Some core
    → groups core ≡ true
    → PicksStandFor names versions keep picks (map (joined_row core.from) all)
    → AnswersStandFor names versions keep grouped.answers
    (rows_in_scope (scope_of core.from catalog) core all)
    × StandsFor names versions grouped.rejected
    (kept_origins keep (rejected_in_scope (scope_of core.from catalog) core all))
