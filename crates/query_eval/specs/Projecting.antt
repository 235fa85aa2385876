-- The answers of picked combinations.
use Rattle.std.specs.Prelude.{◌≡◌, ℕ, List, [], ◌∷◌, map, Bool, false, Some}
use Rattle.lineage.specs.Rows.{joined_row, AnswersStandFor, PicksStandFor}
use Rattle.lineage.specs.declared.answer.Answer.{Answer}
use Rattle.lineage.specs.declared.answer.Pick.{Pick}
use Rattle.predicates.specs.Checking.{core_at, IsChecked}
use Rattle.query_eval.specs.Types.{Catalog, Checked, Core, Query, Value}
use Rattle.predicates.specs.declared.placed.BoundExpr.{BoundExpr}
use Rattle.sql_model.specs.Meaning.{Meaning, eval}
use Rattle.sql_model.specs.Needs.{Versions}
use Rattle.sql_model.specs.QueryAnswer.{Combination, rows_in_scope}
use Rattle.sql_model.specs.Refusals.{groups}
use Rattle.sql_model.specs.Scope.{InScope, environment, scope_of}

-- what an expression means over a row
abbrev pub meaning : List InScope → List Value → BoundExpr → Meaning
meaning scope row placed = eval placed.expr (environment scope row ∷ [])

abbrev pub values_over : List InScope → List Value → List BoundExpr → List Value
values_over scope row placed = map (λ p. (meaning scope row p).value) placed

-- the values of the items over the joined row
abbrev pub projected_answer : List InScope → List BoundExpr → Pick → Answer
projected_answer scope items pick = record {
  values = values_over scope pick.values items;
  lineage = pick.lineage;
}

-- all columns
abbrev pub answer_of_all_columns : Pick → Answer
answer_of_all_columns pick = record { values = pick.values; lineage = pick.lineage }

-- the answers stand for the rows of a core that doesn't group, where the picks stand for its combinations
abbrev pub IsProjected : Checked → ℕ → List Pick → List Answer → Type 0
IsProjected checked place picks answers =
    (query : Query) (catalog : Catalog) (core : Core) (names : List (List ℕ)) (versions : Versions)
    (keep : Bool) (all : List Combination)
    → IsChecked checked query catalog
    → core_at checked place ≡ Some core
    → groups core ≡ false
    → PicksStandFor names versions keep picks (map (joined_row core.from) all)
    → AnswersStandFor names versions keep answers (rows_in_scope (scope_of core.from catalog) core all)
