-- The picked combinations of a core.
use Rattle.std.specs.Prelude.{◌≡◌, ℕ, List, [], ◌∷◌, map, filter, Bool, cond, Some}
use Rattle.std.specs.FinMap.{empty}
use Rattle.lineage.specs.Lineage.{Lineage, with_version}
use Rattle.lineage.specs.Rows.{joined_row, PicksStandFor}
use Rattle.lineage.specs.declared.answer.Pick.{Pick}
use Rattle.predicates.specs.Checking.{core_at, WasChecked}
use Rattle.predicates.specs.Conditions.{meets}
use Rattle.predicates.specs.declared.placed.BoundExpr.{BoundExpr}
use Rattle.query_eval.specs.inner.Joining.{combos, tests}
use Rattle.query_eval.specs.inner.Sources.{joined_row_values, source_rows}
use Rattle.query_eval.specs.StoredSources.{table_names, TellVersions}
use Rattle.query_eval.specs.Types.{Checked, Core, Query}
use Rattle.query_eval.specs.declared.source.Source.{Source}
use Rattle.query_eval.specs.declared.source.SourceRow.{SourceRow}
use Rattle.sql_model.specs.Needs.{Versions}
use Rattle.sql_model.specs.QueryAnswer.{picked}
use Rattle.sql_model.specs.Scope.{InScope, catalog_of}
use Rattle.table_store.specs.Histories.{StoreHistory, tables_now}

-- the set with the rows of a combination, each at its version
abbrev pub rows_added : Lineage → List Source → List SourceRow → Lineage
rows_added set [] rows = set
rows_added set (source ∷ sources) [] = set
rows_added set (source ∷ sources) (row ∷ rows) =
    rows_added (with_version set (source.table, row.number) row.version) sources rows

abbrev pub kept_rows : Bool → List Source → List SourceRow → Lineage
kept_rows keep sources rows = cond keep (rows_added empty sources rows) empty

-- the pick of a combination
abbrev pub pick_of : Bool → List Source → List SourceRow → Pick
pick_of keep sources rows = record { values = joined_row_values rows; lineage = kept_rows keep sources rows }

-- those of the combinations of sources that meet conditions
abbrev pub source_picks : List InScope → List BoundExpr → Bool → List Source → List Pick
source_picks scope conds keep sources =
    map (pick_of keep sources) (filter (tests scope conds) (combos (map source_rows sources)))

-- ---- one source

abbrev pub meets_row : List InScope → List BoundExpr → SourceRow → Bool
meets_row scope conds row = meets scope conds row.values

abbrev pub row_lineage : Bool → ℕ → SourceRow → Lineage
row_lineage keep table row = cond keep (with_version empty (table, row.number) row.version) empty

-- the pick of a row alone
abbrev pub row_pick : Bool → ℕ → SourceRow → Pick
row_pick keep table row = record { values = row.values; lineage = row_lineage keep table row }

-- those of the rows of a table that meet conditions
abbrev pub row_picks : List InScope → List BoundExpr → Bool → ℕ → List SourceRow → List Pick
row_picks scope conds keep table rows = map (row_pick keep table) (filter (meets_row scope conds) rows)

-- ---- a core

-- the picks stand for the picked combinations of a core over the tables of a store as they are now, where the
-- query was checked against these
abbrev pub ArePicked : Checked → ℕ → StoreHistory → Bool → List Pick → Type 0
ArePicked checked place store keep picks =
    (query : Query) (core : Core) (versions : Versions)
    → WasChecked checked query (catalog_of (tables_now store))
    → core_at checked place ≡ Some core
    → TellVersions store versions
    → PicksStandFor (table_names store) versions keep picks
    (map (joined_row core.from) (picked core (tables_now store)))
