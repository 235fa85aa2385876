-- Valid schemas, valid tables, and databases of them, test by test.
--
-- Documents and packages have their own types of tables. So each test takes columns, places, values and
-- numbers, and for rows a function that gives a row's number.
use Rattle.std.specs.Prelude.{◌≡◌, ℕ, List, length, map, zip, ◌==◌, Bool, true, false, not, ◌&&◌, nat_eq, nat_lt}
use Rattle.std.specs.Prelude.{nat_le, Option, Some, None, slice_get}
use Rattle.std.specs.List.{list_all, position_or_len}
use Rattle.ldv_value.specs.Limits.{max_columns, max_next, text_limit}
use Rattle.ldv_value.specs.Sorted.{is_strictly_sorted, text_precedes}
use Rattle.sql_model.specs.ForeignKeys.{max_foreign, have_parents}
use Rattle.sql_model.specs.Keys.{repeats, has_two_of_a_key}
use Rattle.sql_model.specs.Scope.{same_text, is_column, catalog_of}
use Rattle.sql_model.specs.SqlNames.{sql_name_test}
use Rattle.sql_model.specs.Types.{Value, Null, Int, Text, Column, Foreign, Schema, Table}

-- ---- schemas: their own rules

abbrev pub column_names : List Column → List (List ℕ)
column_names columns = map (λ column. column.name) columns

-- no two columns have the same name
abbrev pub are_distinct : List Column → Bool
are_distinct columns = not (repeats same_text (column_names columns))

-- each name meets the rule for names, and no two are the same
abbrev pub column_names_test : List Column → Bool
column_names_test columns = list_all (λ column. sql_name_test column.name) columns && are_distinct columns

abbrev pub column_count_test : List Column → Bool
column_count_test columns = nat_le 1 (length columns) && nat_le (length columns) max_columns

-- the places of the columns that a key names; the number of columns where it names none
abbrev pub places_named : List Column → List (List ℕ) → List ℕ
places_named columns key = map (λ name. position_or_len (is_column name) columns) key

-- a key has places of columns, none twice
abbrev pub key_places_test : List Column → List ℕ → Bool
key_places_test columns key =
    list_all (λ place. nat_lt place (length columns)) key && not (repeats nat_eq key)

abbrev pub is_not_null : Option Column → Bool
is_not_null None = false
is_not_null (Some column) = column.not_null

-- each column of a key is NOT NULL
abbrev pub key_not_null_test : List Column → List ℕ → Bool
key_not_null_test columns key = list_all (λ place. is_not_null (slice_get columns place)) key

-- so has a foreign key
abbrev pub foreign_key_test : List Column → Foreign → Bool
foreign_key_test columns foreign = key_places_test columns foreign.columns

abbrev pub foreign_count_test : List Foreign → Bool
foreign_count_test foreigns = nat_le (length foreigns) max_foreign

abbrev pub foreign_test : List Column → List Foreign → Bool
foreign_test columns foreigns = foreign_count_test foreigns && list_all (foreign_key_test columns) foreigns

abbrev pub schema_test : Schema → Bool
schema_test schema =
    column_count_test schema.columns && column_names_test schema.columns
    && key_places_test schema.columns schema.key && key_not_null_test schema.columns schema.key
    && foreign_test schema.columns schema.foreign

-- ---- values and their columns

-- a value has its column's kind; NULL has every kind
abbrev pub has_kind : Column → Value → Bool
has_kind column Null = true
has_kind column (Int z) = not column.text
has_kind column (Text text) = column.text

-- it isn't NULL where the column is NOT NULL
abbrev pub allows : Column → Value → Bool
allows column Null = not column.not_null
allows column (Int z) = true
allows column (Text text) = true

abbrev pub fits : Column → Value → Bool
fits column value = has_kind column value && allows column value

-- a test of each column and the value in it
abbrev pub each_value : (Column → Value → Bool) → List Column → List Value → Bool
each_value test columns values = list_all (λ cell. test cell.0 cell.1) (zip columns values)

-- a value for each column, and each fits
abbrev pub is_row : List Column → List Value → Bool
is_row columns values = (length values == length columns) && each_value fits columns values

-- a limit, and no part of what a table is: a text has at most text_limit bytes
abbrev pub is_short : Value → Bool
is_short Null = true
is_short (Int z) = true
is_short (Text text) = nat_le (length text) text_limit

-- ---- rows

-- numbers are strictly increasing and below the next one
abbrev pub numbers_test : {Row : Type 0} → (Row → ℕ) → ℕ → List Row → Bool
numbers_test number next rows =
    is_strictly_sorted (λ a b. nat_lt (number a) (number b)) rows
    && list_all (λ row. nat_lt (number row) next) rows

-- no two rows have the same key, where the key isn't empty
abbrev pub are_keys_unique : List ℕ → List (List Value) → Bool
are_keys_unique key rows = not (has_two_of_a_key key rows)

-- ---- tables and databases

abbrev pub row_values : Table → List (List Value)
row_values table = map (λ row. row.values) table.rows

abbrev pub is_valid_table : Table → Bool
is_valid_table table =
    nat_le table.next max_next && numbers_test (λ row. row.number) table.next table.rows
    && list_all (λ row. is_row table.schema.columns row.values) table.rows
    && are_keys_unique table.schema.key (row_values table)

-- by name
abbrev pub table_precedes : Table → Table → Bool
table_precedes a b = text_precedes a.name b.name

-- valid tables, strictly increasing by name
abbrev pub are_tables : List Table → Bool
are_tables tables = list_all is_valid_table tables && is_strictly_sorted table_precedes tables

-- and each foreign key has a parent with a fitting key; that rows refer to rows of it isn't asked
abbrev pub is_database : List Table → Bool
is_database tables = are_tables tables && have_parents (catalog_of tables)

-- no table has two columns of one name
abbrev pub have_distinct_columns : List Table → Bool
have_distinct_columns tables = list_all (λ table. are_distinct table.schema.columns) tables

-- the tables are a database, and none has two columns of one name
pub record AreWellFormed (tables : List Table) : Type 0 where
  pub database : is_database tables ≡ true
  pub distinct : have_distinct_columns tables ≡ true

-- a table has a name and a schema by the rules
abbrev pub is_described : Table → Bool
is_described table = sql_name_test table.name && schema_test table.schema

-- the tables of a world: a database, each table with a name and a schema by the rules
abbrev pub tables_test : List Table → Bool
tables_test tables = is_database tables && list_all is_described tables
