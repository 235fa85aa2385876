-- Examples of databases, and of tables that are no database.
use Rattle.std.specs.Prelude.{◌≡◌, refl, ℕ, List, [], ◌∷◌, true, false, pos, codes}
use Rattle.sql_model.specs.Types.{Null, Int, Text, Column, Schema, Table, TableRow}
use Rattle.sql_model.specs.Tables.{key_places_test, places_named, schema_test, is_valid_table, is_database, tables_test}
use Rattle.sql_model.proofs.WorkedTables.{table_column, table_row, columns_of_t, table_t}

-- the table t with other rows
abbrev table_of : List TableRow → Table
table_of rows = record { name = codes "t"; schema = record { columns = columns_of_t; key = 0 ∷ []; foreign = [] }; rows = rows; next = 5 }

t_is_valid : is_database (table_t 5 ∷ []) ≡ true
t_is_valid = refl

number_at_next : is_valid_table (table_t 4) ≡ false
number_at_next = refl

number_twice : is_valid_table (table_of (table_row 1 (Int (pos 1)) Null Null ∷ table_row 1 (Int (pos 2)) Null Null ∷ [])) ≡ false
number_twice = refl

key_twice : is_valid_table (table_of (table_row 0 (Int (pos 1)) Null Null ∷ table_row 1 (Int (pos 1)) Null Null ∷ [])) ≡ false
key_twice = refl

null_in_key : is_valid_table (table_of (table_row 0 Null Null Null ∷ [])) ≡ false
null_in_key = refl

text_for_number : is_valid_table (table_of (table_row 0 (Int (pos 1)) Null (Text (codes "a")) ∷ [])) ≡ false
text_for_number = refl

name_twice : is_database (table_t 5 ∷ table_t 5 ∷ []) ≡ false
name_twice = refl

-- ---- schemas

abbrev schema_of : List Column → List ℕ → Schema
schema_of columns key = record { columns = columns; key = key; foreign = [] }

t_is_described : tables_test (table_t 5 ∷ []) ≡ true
t_is_described = refl

no_column : schema_test (schema_of [] []) ≡ false
no_column = refl

-- two columns of one name, though of different kinds
column_twice : schema_test (schema_of (table_column (codes "a") false false ∷ table_column (codes "a") true false ∷ []) []) ≡ false
column_twice = refl

reserved_name : schema_test (schema_of (table_column (codes "key") false false ∷ table_column (codes "order") false false ∷ []) []) ≡ false
reserved_name = refl

key_of_a_column : schema_test (schema_of columns_of_t (0 ∷ [])) ≡ true
key_of_a_column = refl

key_place_outside : schema_test (schema_of columns_of_t (3 ∷ [])) ≡ false
key_place_outside = refl

key_place_twice : schema_test (schema_of columns_of_t (0 ∷ 0 ∷ [])) ≡ false
key_place_twice = refl

key_may_be_null : schema_test (schema_of columns_of_t (1 ∷ [])) ≡ false
key_may_be_null = refl

-- keys by names
key_names : places_named columns_of_t (codes "v" ∷ codes "k" ∷ []) ≡ 2 ∷ 0 ∷ []
key_names = refl

unknown_key_name : key_places_test columns_of_t (places_named columns_of_t (codes "z" ∷ [])) ≡ false
unknown_key_name = refl
