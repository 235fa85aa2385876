-- Tables and schemas by name, and the column that a name means.
use Rattle.std.specs.Prelude.{ℕ, List, [], ◌∷◌, map, find, filter, zip, length, Bool, true, ◌&&◌, ◌==◌}
use Rattle.std.specs.Prelude.{Option, Some, None, option_map, nat_eq}
use Rattle.std.specs.List.{flat_map, list_any, position_or_len}
use Rattle.std.specs.Cmp.Lexicographic.{pointwise}
use Rattle.ldv_value.specs.Cells.{value_at}
use Rattle.sql_model.specs.Types.{Value, Catalog, ColumnName, FromItem, Column, Schema, Table, TableRow}
use Rattle.sql_model.specs.Meaning.{Environment}

abbrev pub same_text : List ℕ → List ℕ → Bool
same_text a b = pointwise nat_eq a b

-- ---- tables

abbrev pub is_table : List ℕ → Table → Bool
is_table name table = same_text table.name name

-- the table of a name
abbrev pub table_at : List ℕ → List Table → Option Table
table_at name db = find (is_table name) db

-- a table of the name has a row of the number
abbrev pub has_row : List ℕ → ℕ → Table → Bool
has_row name number table = is_table name table && list_any (λ row. row.number == number) table.rows

abbrev pub rows_of : Option Table → List TableRow
rows_of None = []
rows_of (Some table) = table.rows

-- ---- schemas

-- the schemas of the tables, by their names
abbrev pub catalog_of : List Table → Catalog
catalog_of db = record { names = map (λ table. table.name) db; schemas = map (λ table. table.schema) db }

abbrev pub is_schema : List ℕ → List ℕ × Schema → Bool
is_schema name named = same_text named.0 name

abbrev pub schema_in : List ℕ × Schema → Schema
schema_in named = named.1

-- the schema of a table's name
abbrev pub schema_at : List ℕ → Catalog → Option Schema
schema_at name catalog = option_map schema_in (find (is_schema name) (zip catalog.names catalog.schemas))

abbrev pub columns_of : Option Schema → List Column
columns_of None = []
columns_of (Some schema) = schema.columns

abbrev pub is_column : List ℕ → Column → Bool
is_column name column = same_text column.name name

-- a column has the name
abbrev pub has_column : List Column → List ℕ → Bool
has_column columns name = list_any (is_column name) columns

-- ---- what is in scope

-- a column that can be meant, under the name of its source
pub record InScope : Type 0 where
  pub source : List ℕ
  pub column : Column

abbrev pub in_source : Catalog → FromItem → List InScope
in_source catalog item =
    map (λ column. record { source = item.name; column = column }) (columns_of (schema_at item.table catalog))

-- the columns of the joined row, in FROM order
abbrev pub scope_of : List FromItem → Catalog → List InScope
scope_of from catalog = flat_map (in_source catalog) from

-- a table under its own name
abbrev pub own_source : List ℕ → FromItem
own_source name = record { table = name; name = name }

-- an UPDATE and a DELETE have their table in scope
abbrev pub own_scope : List ℕ → Catalog → List InScope
own_scope name catalog = scope_of (own_source name ∷ []) catalog

abbrev pub names_source : Option (List ℕ) → List ℕ → Bool
names_source None source = true
names_source (Some name) source = same_text source name

-- a column with a table part names that source
abbrev pub is_meant : ColumnName → InScope → Bool
is_meant c entry = same_text entry.column.name c.name && names_source c.table entry.source

-- exactly one column is meant
abbrev pub resolves : List InScope → ColumnName → Bool
resolves scope c = length (filter (is_meant c) scope) == 1

-- the place of the column meant in the joined row, or that row's length where none is
abbrev pub place_of : List InScope → ColumnName → ℕ
place_of scope c = position_or_len (is_meant c) scope

abbrev pub places_in : List InScope → List ColumnName → List ℕ
places_in scope names = map (place_of scope) names

-- a joined row as an environment
abbrev pub environment : List InScope → List Value → Environment
environment scope values = λ c. value_at values (place_of scope c)
