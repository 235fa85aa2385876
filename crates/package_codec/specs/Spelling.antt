-- The bytes of each part of a package. Numbers have their highest byte first.
use Rattle.std.specs.Prelude.{ℕ, List, [], ◌∷◌, ◌++◌, Bool, true, false, Option, Some, None}
use Rattle.std.specs.List.{flat_map}
use Rattle.std.specs.Int.{w8, w16, w32, w64, to_be_bytes, cast_unsigned}
use Rattle.ldv_value.specs.declared.value.Value.{Value}
use Rattle.ldv_value.specs.declared.value.Value.TheVariants.{Null, Int, Text}
use Rattle.sql_model.specs.declared.need.Rule.{Rule}
use Rattle.sql_model.specs.declared.need.Rule.TheVariants.{L, H, K, P, C}
use Rattle.sql_model.specs.declared.table.Column.{Column}
use Rattle.sql_model.specs.declared.table.Foreign.{Foreign}
use Rattle.sql_model.specs.declared.table.Schema.{Schema}
use Rattle.sql_model.specs.declared.reply.SqlRefusal.{SqlRefusal}
use Rattle.sql_model.specs.declared.reply.SqlRefusal.TheVariants.{Syntax, NoTable, NoColumn, TypeClash}
use Rattle.sql_model.specs.declared.reply.SqlRefusal.TheVariants.{NotNull, KeyTaken, Full, NoParent}
use Rattle.sql_model.specs.declared.reply.SqlRefusal.TheVariants.{HasChild}
use Rattle.sql_model.specs.declared.reply.Reply.{Reply}
use Rattle.sql_model.specs.declared.reply.Reply.TheVariants.{Rows, Changed, Refused}
use Rattle.run_model.specs.declared.package.PackedFile.{PackedFile}
use Rattle.run_model.specs.declared.package.PackedRow.{PackedRow}
use Rattle.run_model.specs.declared.package.PackedTable.{PackedTable}
use Rattle.run_model.specs.declared.package.Entry.{Entry}
use Rattle.run_model.specs.declared.package.Log.{Log}
use Rattle.package_codec.specs.Fields.{text_spelling, list_spelling}
use Rattle.package_codec.specs.Version.{Version, One, Two}

-- ---- values

abbrev pub value_spelling : Value → List ℕ
value_spelling Null = 0 ∷ []
value_spelling (Int z) = 1 ∷ to_be_bytes w64 (cast_unsigned w64 z)
value_spelling (Text t) = 2 ∷ text_spelling t

abbrev pub values_spelling : List Value → List ℕ
values_spelling = list_spelling w16 value_spelling

-- ---- files

abbrev pub content_spelling : Option (List ℕ) → List ℕ
content_spelling (Some bytes) = 1 ∷ text_spelling bytes
content_spelling None = 2 ∷ []

abbrev pub file_spelling : PackedFile → List ℕ
file_spelling f = text_spelling f.path ++ content_spelling f.content

-- ---- tables

-- INT, TEXT, INT NOT NULL, TEXT NOT NULL
abbrev pub kind_number : Bool → Bool → ℕ
kind_number false false = 1
kind_number true false = 2
kind_number false true = 3
kind_number true true = 4

abbrev pub column_spelling : Column → List ℕ
column_spelling c = text_spelling c.name ++ to_be_bytes w8 (kind_number c.text c.not_null)

abbrev pub rule_number : Rule → ℕ
rule_number L = 1
rule_number H = 2
rule_number K = 3
rule_number P = 4
rule_number C = 5

-- a row has a number, a reason for which it is packed, and values, each with a spelling of its own
abbrev pub number_spelling : ℕ → List ℕ
number_spelling number = to_be_bytes w32 number

-- the first statement that needed the row, and the rule by which it did
abbrev pub reason_spelling : ℕ → Rule → List ℕ
reason_spelling statement rule = to_be_bytes w32 statement ++ to_be_bytes w8 (rule_number rule)

-- a value for each column of the table, so their number isn't written
abbrev pub cells_spelling : List Value → List ℕ
cells_spelling values = flat_map value_spelling values

abbrev pub row_spelling : PackedRow → List ℕ
row_spelling r = number_spelling r.number ++ (reason_spelling r.statement r.rule ++ cells_spelling r.values)

-- the places of columns
abbrev pub places_spelling : List ℕ → List ℕ
places_spelling = list_spelling w8 (to_be_bytes w8)

abbrev pub foreign_spelling : Foreign → List ℕ
foreign_spelling f = places_spelling f.columns ++ text_spelling f.parent

-- version 1 has none
abbrev pub foreigns_spelling : Version → List Foreign → List ℕ
foreigns_spelling One foreigns = []
foreigns_spelling Two foreigns = list_spelling w8 foreign_spelling foreigns

abbrev pub keys_spelling : Version → Schema → List ℕ
keys_spelling version s = places_spelling s.key ++ foreigns_spelling version s.foreign

abbrev pub schema_spelling : Version → Schema → List ℕ
schema_spelling version s = list_spelling w8 column_spelling s.columns ++ keys_spelling version s

abbrev pub table_spelling : Version → PackedTable → List ℕ
table_spelling version t =
    text_spelling t.name
    ++ (schema_spelling version t.schema ++ (to_be_bytes w32 t.next ++ list_spelling w32 row_spelling t.rows))

-- ---- logs

-- a table and the values of a key of it
abbrev pub row_key_spelling : List ℕ → List Value → List ℕ
row_key_spelling table key = text_spelling table ++ list_spelling w8 value_spelling key

abbrev pub refusal_spelling : SqlRefusal → List ℕ
refusal_spelling Syntax = 1 ∷ []
refusal_spelling NoTable = 2 ∷ []
refusal_spelling NoColumn = 3 ∷ []
refusal_spelling TypeClash = 4 ∷ []
refusal_spelling NotNull = 5 ∷ []
refusal_spelling (KeyTaken table key) = 6 ∷ row_key_spelling table key
refusal_spelling Full = 7 ∷ []
refusal_spelling (NoParent table key) = 8 ∷ row_key_spelling table key
refusal_spelling (HasChild table key) = 9 ∷ row_key_spelling table key

abbrev pub reply_spelling : Reply → List ℕ
reply_spelling (Rows rows) = 1 ∷ list_spelling w32 values_spelling rows
reply_spelling (Changed n) = 2 ∷ to_be_bytes w64 n
reply_spelling (Refused refusal) = 3 ∷ refusal_spelling refusal

abbrev pub entry_spelling : Entry → List ℕ
entry_spelling e = text_spelling e.text ++ (values_spelling e.params ++ reply_spelling e.reply)

abbrev pub parts_spelling : List ℕ → List ℕ
parts_spelling = list_spelling w16 (to_be_bytes w32)

abbrev pub log_spelling : Log → List ℕ
log_spelling l = parts_spelling l.process.parts ++ list_spelling w32 entry_spelling l.entries
