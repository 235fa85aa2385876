-- Tables that two packages share; their rows have no reasons. Facts about each one in memory, its bytes, and
-- how it is read.
use Rattle.std.specs.Prelude.{ℕ, List, ◌++◌, length, Some}
use Rattle.std.specs.Int.{w32, to_be_bytes}
use Rattle.std.specs.List.{AllByRecursion}
use Rattle.std.specs.Str.{IsUtf8}
use Rattle.sql_model.specs.declared.table.Table.{Table}
use Rattle.sql_model.specs.declared.table.TableRow.{TableRow}
use Rattle.package_codec.specs.declared.version.Version.TheVariants.{Two}
use Rattle.package_codec.specs.Fields.{DecodeResult, then_at, both_at, made_at, number_at, list_at, text_at}
use Rattle.package_codec.specs.Fields.{text_spelling, list_spelling}
use Rattle.package_codec.specs.Reading.{schema_at, cells_at}
use Rattle.package_codec.specs.Spelling.{schema_spelling, number_spelling, cells_spelling}
use Rattle.package_codec.specs.Typed.{IsU32, TypedValues, TypedSchema}

-- ---- in memory

abbrev pub TypedCommonRow : TableRow → Type 0
TypedCommonRow row = IsU32 row.number × TypedValues row.values

abbrev pub TypedCommonTable : Table → Type 0
TypedCommonTable t = IsUtf8 t.name
    × (TypedSchema t.schema × (IsU32 t.next × AllByRecursion TypedCommonRow t.rows))

-- ---- spelling

abbrev pub common_row_spelling : TableRow → List ℕ
common_row_spelling row = number_spelling row.number ++ cells_spelling row.values

abbrev pub common_rows_spelling : List TableRow → List ℕ
common_rows_spelling = list_spelling w32 common_row_spelling

-- as version 2 has it
abbrev pub common_table_spelling : Table → List ℕ
common_table_spelling table =
    text_spelling table.name
    ++ (schema_spelling Two table.schema ++ (to_be_bytes w32 table.next ++ common_rows_spelling table.rows))

-- ---- reading

abbrev pub common_row_at : ℕ → List ℕ → DecodeResult TableRow
common_row_at columns =
    made_at (λ r. Some (record { number = r.0; values = r.1 })) (both_at (number_at w32) (cells_at columns))

abbrev pub common_rows_at : ℕ → List ℕ → DecodeResult (List TableRow)
common_rows_at columns = list_at w32 (common_row_at columns)

abbrev pub common_table_at : List ℕ → DecodeResult Table
common_table_at =
    made_at (λ t. Some (record { name = t.0; schema = t.1.0; next = t.1.1.0; rows = t.1.1.1 }))
    (both_at text_at
    (then_at (schema_at Two) (λ s. both_at (number_at w32) (common_rows_at (length s.columns)))))
