-- The sources of a core, and the tables that they are read from.
use Rattle.std.specs.Prelude.{◌≡◌, ℕ, ◌<◌, List, [], ◌∷◌, map, filter, length, Bool, true, ◌&&◌}
use Rattle.std.specs.List.{flat_map, AllByRecursion}
use Rattle.lineage.specs.Lineage.{name_at}
use Rattle.query_eval.specs.Types.{Core, FromItem, Table, TableRow, Value}
use Rattle.query_eval.specs.declared.source.Source.{Source}
use Rattle.query_eval.specs.declared.source.SourceRow.{SourceRow}
use Rattle.sql_model.specs.Needs.{Versions}
use Rattle.sql_model.specs.QueryAnswer.{Combination, combinations, meets_all, row_environment}
use Rattle.sql_model.specs.Scope.{catalog_of, rows_of, scope_of, table_at}

abbrev pub table_row : SourceRow → TableRow
table_row row = record { number = row.number; values = row.values }

abbrev pub source_rows : Source → List SourceRow
source_rows source = source.rows

-- the values of a joined row
abbrev pub joined_row_values : List SourceRow → List Value
joined_row_values rows = flat_map (λ row. row.values) rows

-- each row has `width` values
abbrev pub AreWide : ℕ → List SourceRow → Type 0
AreWide width rows = AllByRecursion (λ row. length row.values ≡ width) rows

-- each row of each source has a value for each column
abbrev pub SourcesAreWide : List Source → Type 0
SourcesAreWide sources = AllByRecursion (λ source. AreWide source.width source.rows) sources

-- each row of a combination has the number of values that is given for its source
abbrev pub HaveWidths : List ℕ → Combination → Type 0
HaveWidths [] rows = Unit {0}
HaveWidths (width ∷ widths) [] = Unit {0}
HaveWidths (width ∷ widths) (row ∷ rows) = (length row.values ≡ width) × HaveWidths widths rows

-- the rows of each table have the number of values that is given for its source
abbrev pub TablesAreWide : List FromItem → List Table → List ℕ → Type 0
TablesAreWide [] db [] = Unit {0}
TablesAreWide [] db (width ∷ widths) = ⊥
TablesAreWide (item ∷ from) db [] = ⊥
TablesAreWide (item ∷ from) db (width ∷ widths) =
    AllByRecursion (λ row. length row.values ≡ width) (rows_of (table_at item.table db))
    × TablesAreWide from db widths

-- a source has rows of a table at their versions, and the place of the table's name; rows may be left out
pub record IsSource (names : List (List ℕ)) (versions : Versions) (db : List Table) (item : FromItem)
    (kept : TableRow → Bool) (source : Source) : Type 0 where
  pub rows : map table_row source.rows ≡ filter kept (rows_of (table_at item.table db))
  pub at_versions : AllByRecursion (λ row. row.version ≡ versions item.table row.number) source.rows
  pub within : source.table < length names
  pub named : name_at names source.table ≡ item.table

-- one by one
abbrev pub AreSources : List (List ℕ) → Versions → List Table → List FromItem → List (TableRow → Bool)
    → List Source → Type 0
AreSources names versions db [] keeps [] = Unit {0}
AreSources names versions db [] keeps (source ∷ sources) = ⊥
AreSources names versions db (item ∷ from) [] sources = ⊥
AreSources names versions db (item ∷ from) (kept ∷ keeps) [] = ⊥
AreSources names versions db (item ∷ from) (kept ∷ keeps) (source ∷ sources) =
    IsSource names versions db item kept source × AreSources names versions db from keeps sources

-- none of these rows is left out
abbrev pub are_kept : List (TableRow → Bool) → Combination → Bool
are_kept [] rows = true
are_kept (kept ∷ keeps) [] = true
are_kept (kept ∷ keeps) (row ∷ rows) = kept row && are_kept keeps rows

-- only such rows are left out as are in no picked combination
abbrev pub LeavesPicked : Core → List Table → List (TableRow → Bool) → Type 0
LeavesPicked core db keeps =
    AllByRecursion
    (λ rows. meets_all core.picks (row_environment (scope_of core.from (catalog_of db)) rows) ≡ true
    → are_kept keeps rows ≡ true)
    (combinations core.from db)
