-- The sources of a core, from the tables of a store.
use Rattle.std.specs.Prelude.{◌≡◌, ℕ, ◌+◌, ◌<◌, List, [], ◌∷◌, map, length, Bool, true}
use Rattle.std.specs.Prelude.{Option, Some, None, option_and_then, IfSome}
use Rattle.std.specs.List.{list_any, AllByRecursion}
use Rattle.predicates.specs.Masking.{AreMasks}
use Rattle.sql_model.specs.declared.column_test.ColumnTest.{ColumnTest}
use Rattle.predicates.specs.declared.placed.BoundExpr.{BoundExpr}
use Rattle.lineage.specs.Lineage.{name_at}
use Rattle.predicates.specs.Fixing.{FixesKey}
use Rattle.query_eval.specs.inner.KeyLookup.{keyed_rows}
use Rattle.query_eval.specs.inner.TableScan.{left_rows}
use Rattle.query_eval.specs.Types.{Column, FromItem, Value}
use Rattle.query_eval.specs.declared.source.Source.{Source}
use Rattle.query_eval.specs.declared.source.SourceRow.{SourceRow}
use Rattle.sql_model.specs.Needs.{Versions}
use Rattle.sql_model.specs.Scope.{same_text}
use Rattle.table_store.specs.Histories.{TableHistory, StoreHistory, history_at, history_of_row}
use Rattle.table_store.specs.Histories.{tables_now, version_now}

-- the names of all tables, sorted
abbrev pub table_names : StoreHistory → List (List ℕ)
table_names store = map (λ table. table.name) (tables_now store)

-- the version of a row in the store
abbrev pub version_in : ℕ → Option TableHistory → Option ℕ
version_in number table =
    option_and_then (λ history. version_now (history_of_row number history.slots)) table

-- a row that stands has its version in the store
abbrev pub TellVersions : StoreHistory → Versions → Type 0
TellVersions store versions = (table : List ℕ) (number version : ℕ)
    → version_in number (history_at table store) ≡ Some version
    → versions table number ≡ version

-- ---- a source

abbrev pub columns_in : Option TableHistory → List Column
columns_in None = []
columns_in (Some table) = table.schema.columns

abbrev pub width_at : StoreHistory → FromItem → ℕ
width_at store item = length (columns_in (history_at item.table store))

abbrev pub is_name : List ℕ → List ℕ → Bool
is_name name other = same_text other name

-- a place at which a name stands, where it stands among the names
abbrev pub IsPlace : List (List ℕ) → List ℕ → ℕ → Type 0
IsPlace names name place =
    list_any (is_name name) names ≡ true → (place < length names) × (name_at names place ≡ name)

-- a row of a source has its version in the store
abbrev pub HasVersion : Option TableHistory → SourceRow → Type 0
HasVersion table row = version_in row.number table ≡ Some row.version

-- ---- its rows

-- the one with a key, or those for which masks pass
abbrev pub chosen_rows : List ColumnTest → Option (List Value) → TableHistory → List SourceRow
chosen_rows masks (Some key) table = keyed_rows key table
chosen_rows masks None table = left_rows masks table.slots

-- those of a source whose columns come after `before` values of the joined row: by the key that conditions
-- fix, if they fix one, and else by the masks that they give
pub record AreChosen (conds : List BoundExpr) (before : ℕ) (table : TableHistory) (rows : List SourceRow)
    : Type 0 where
  pub key : Option (List Value)
  pub fixed : IfSome key (FixesKey conds before (length table.schema.columns) table.schema.key)
  pub masks : List ColumnTest
  pub given : AreMasks conds before table.schema.columns masks
  pub are : rows ≡ chosen_rows masks key table

-- none, where its table isn't there
abbrev pub AreChosenOf : List BoundExpr → ℕ → Option TableHistory → List SourceRow → Type 0
AreChosenOf conds before None rows = rows ≡ []
AreChosenOf conds before (Some table) rows = AreChosen conds before table rows

-- the source, as its table has it, which may not be there
pub record IsTaken (conds : List BoundExpr) (before : ℕ) (table : Option TableHistory) (source : Source)
    : Type 0 where
  pub rows : AreChosenOf conds before table source.rows
  pub width : source.width ≡ length (columns_in table)
  pub versions : AllByRecursion (HasVersion table) source.rows

-- and as the store has it
pub record IsStored (store : StoreHistory) (conds : List BoundExpr) (item : FromItem) (before : ℕ)
    (source : Source) : Type 0 where
  pub taken : IsTaken conds before (history_at item.table store) source
  pub table : IsPlace (table_names store) item.table source.table

-- one by one, the columns of the first after `before` values of the joined row
abbrev pub AreStored : StoreHistory → List BoundExpr → List FromItem → ℕ → List Source → Type 0
AreStored store conds [] before [] = Unit {0}
AreStored store conds [] before (source ∷ sources) = ⊥
AreStored store conds (item ∷ from) before [] = ⊥
AreStored store conds (item ∷ from) before (source ∷ sources) =
    IsStored store conds item before source
    × AreStored store conds from (before + width_at store item) sources
