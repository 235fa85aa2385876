-- The answer of a checked query over the tables that a store has now.
use Rattle.std.specs.Prelude.{◌≡◌, ℕ, List, [], ◌∷◌, ◌++◌, map, Bool, true, false, cond, not, Some}
use Rattle.std.specs.Prelude.{if◌then◌else◌}
use Rattle.std.specs.List.{flat_map, list_any}
use Rattle.predicates.specs.Checking.{core_at, IsChecked, WasChecked}
use Rattle.dml_versions.specs.Versions.{versions_now}
use Rattle.lineage.specs.Lineage.{Lineage, IsUnion}
use Rattle.lineage.specs.Rows.{kept_origins, joined_row, AnswersStandFor, PicksStandFor}
use Rattle.lineage.specs.StandsFor.{StandsFor}
use Rattle.query_eval.specs.StoredSources.{table_names}
use Rattle.sql_engine.specs.Types.{Answer, Catalog, Checked, Core, Pick, Query, StoreHistory, Table, Value}
use Rattle.sql_engine.specs.declared.answer.QueryAnswer.{QueryAnswer}
use Rattle.sql_engine.specs.declared.cores.CoreRows.{CoreRows}
use Rattle.sql_model.specs.Needs.{Versions, sums_up}
use Rattle.sql_model.specs.QueryAnswer.{Origin, AnswerRow, Combination, rows_in_scope, rejected_in_scope}
use Rattle.sql_model.specs.QueryAnswer.{core_rows, rejected, rows_after, union_rows, lineage_of}
use Rattle.sql_model.specs.QueryAnswer.{answer, answer_rows, cut}
use Rattle.sql_model.specs.Scope.{catalog_of, scope_of}
use Rattle.sql_model.specs.Tables.{is_database}
use Rattle.table_store.specs.Histories.{tables_now}

-- a set of rows stands for what is kept of a lineage over a store: each row at its version there
abbrev pub IsKept : StoreHistory → Bool → Lineage → List Origin → Type 0
IsKept store keep set origins = StandsFor (table_names store)
    (versions_now store) set (kept_origins keep origins)

-- answer rows over a store, and the rows of groups that HAVING rejects
pub record AreRows (store : StoreHistory) (keep : Bool) (rows : List AnswerRow) (hidden : List Origin)
    (made : CoreRows) : Type 0 where
  pub answers : AnswersStandFor (table_names store) (versions_now store) keep made.answers rows
  pub rejected : IsKept store keep made.rejected hidden

-- the rows of a core, where picks stand for its combinations
abbrev pub IsEvaluated : Checked → ℕ → List Pick → CoreRows → Type 0
IsEvaluated checked place picks made =
    (query : Query) (catalog : Catalog) (core : Core) (names : List (List ℕ)) (versions : Versions)
    (keep : Bool) (all : List Combination)
    → IsChecked checked query catalog
    → core_at checked place ≡ Some core
    → PicksStandFor names versions keep picks (map (joined_row core.from) all)
    → AnswersStandFor names versions keep made.answers
    (rows_in_scope (scope_of core.from catalog) core all)
    × StandsFor names versions made.rejected
    (kept_origins keep (rejected_in_scope (scope_of core.from catalog) core all))

-- a query that was checked against the tables of a store, which are a database
pub record IsAsked (checked : Checked) (store : StoreHistory) (query : Query) : Type 0 where
  pub checked_is : WasChecked checked query (catalog_of (tables_now store))
  pub database : is_database (tables_now store) ≡ true

-- the rows of a core over the store
abbrev pub IsCore : Checked → ℕ → StoreHistory → Bool → CoreRows → Type 0
IsCore checked place store keep made =
    (query : Query) (core : Core)
    → IsAsked checked store query
    → core_at checked place ≡ Some core
    → AreRows store keep (core_rows (tables_now store) core) (rejected (tables_now store) core) made

-- UNION without ALL stands before one of the cores
abbrev pub merges_later : List Core → Bool
merges_later cores = list_any (λ core. not core.joined_all) cores

-- rows of some cores, from which those of all cores come by uniting them with those of the cores that are
-- left
pub record AreUnited (store : StoreHistory) (keep : Bool) (all left : List Core) (made : CoreRows)
    : Type 0 where
  pub rows : List AnswerRow
  pub hidden : List Origin
  pub are : AreRows store keep rows hidden made
  pub same_rows : rows_after (tables_now store) rows left ≡ union_rows (tables_now store) all
  pub same_hidden : hidden ++ flat_map (rejected (tables_now store)) left
      ≡ flat_map (rejected (tables_now store)) all

-- the rows of all cores
abbrev pub AreAll : Checked → StoreHistory → Bool → CoreRows → Type 0
AreAll checked store keep made = (query : Query)
    → IsAsked checked store query
    → AreRows store keep (union_rows (tables_now store) query.cores)
    (flat_map (rejected (tables_now store)) query.cores) made

-- the rows that are needed beside those of the answer: of rejected groups, and of rows that LIMIT cuts
abbrev pub hidden_lineage : Query → List Table → List Origin
hidden_lineage query db = flat_map (rejected db) query.cores
    ++ (if sums_up query.cores then lineage_of (cut query db) else [])

-- the rejected rows, and those that are cut where they count
abbrev pub IsHidden : Bool → Lineage → Lineage → Lineage → Type 0
IsHidden true rejected cut hidden = IsUnion rejected cut hidden
IsHidden false rejected cut hidden = hidden ≡ rejected

-- the values of the answer, its lineage and that of the hidden rows
pub record IsAnswer (store : StoreHistory) (keep : Bool) (query : Query) (made : QueryAnswer) : Type 0 where
  pub rows : made.rows ≡ answer_rows query (tables_now store)
  pub lineage : IsKept store keep made.lineage (lineage_of (answer query (tables_now store)))
  pub hidden : IsKept store keep made.hidden (hidden_lineage query (tables_now store))

abbrev pub IsAnswered : Checked → StoreHistory → Bool → QueryAnswer → Type 0
IsAnswered checked store keep made = (query : Query)
    → IsAsked checked store query
    → IsAnswer store keep query made

-- the values of answers
abbrev pub values_of : Answer → List Value
values_of answer = answer.values
