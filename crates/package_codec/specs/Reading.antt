-- How the parts of a package are read from the front of bytes.
use Rattle.std.specs.Prelude.{ℕ, zero, suc, List, [], length, Bool, true, false, Option, Some, None}
use Rattle.package_codec.specs.Version.{Version, One, Two}
use Rattle.std.specs.Int.{w8, w16, w32, w64}
use Rattle.ldv_value.specs.declared.value.Value.{Value}
use Rattle.ldv_value.specs.declared.value.Value.TheVariants.{Null, Int, Text}
use Rattle.sql_model.specs.declared.need.Rule.{Rule}
use Rattle.sql_model.specs.declared.need.Rule.TheVariants.{L, H, K, P, C}
use Rattle.sql_model.specs.declared.table.Column.{Column}
use Rattle.sql_model.specs.declared.table.Foreign.{Foreign}
use Rattle.sql_model.specs.declared.table.Schema.{Schema}
use Rattle.sql_model.specs.declared.reply.SqlRefusal.{SqlRefusal}
use Rattle.sql_model.specs.declared.reply.SqlRefusal.TheVariants.{Syntax, NoTable, NoColumn, TypeClash}
use Rattle.sql_model.specs.declared.reply.SqlRefusal.TheVariants.{NotNull, KeyTaken, Full, NoParent}
use Rattle.sql_model.specs.declared.reply.SqlRefusal.TheVariants.{HasChild}
use Rattle.sql_model.specs.declared.reply.Reply.{Reply}
use Rattle.sql_model.specs.declared.reply.Reply.TheVariants.{Rows, Changed, Refused}
use Rattle.run_model.specs.declared.name.ProcName.{ProcName}
use Rattle.run_model.specs.declared.package.PackedFile.{PackedFile}
use Rattle.run_model.specs.declared.package.PackedRow.{PackedRow}
use Rattle.run_model.specs.declared.package.PackedTable.{PackedTable}
use Rattle.run_model.specs.declared.package.Entry.{Entry}
use Rattle.run_model.specs.declared.package.Log.{Log}
use Rattle.package_codec.specs.Fields.{DecodeResult, then_at, both_at, made_at, tagged_at, number_at, signed_at}
use Rattle.package_codec.specs.Fields.{sized_at, text_at, items_at, list_at}

-- ---- values

abbrev pub value_of_tag : ℕ → List ℕ → DecodeResult Value
value_of_tag zero = λ bytes. Some (Null, bytes)
value_of_tag (suc zero) = made_at (λ z. Some (Int z)) signed_at
value_of_tag (suc (suc zero)) = made_at (λ t. Some (Text t)) text_at
value_of_tag (suc (suc (suc n))) = λ bytes. None

abbrev pub value_at : List ℕ → DecodeResult Value
value_at = tagged_at value_of_tag

abbrev pub values_at : List ℕ → DecodeResult (List Value)
values_at = list_at w16 value_at

-- ---- files

abbrev pub content_of_tag : ℕ → List ℕ → DecodeResult (Option (List ℕ))
content_of_tag zero = λ bytes. None
content_of_tag (suc zero) = made_at (λ b. Some (Some b)) sized_at
content_of_tag (suc (suc zero)) = λ bytes. Some (None, bytes)
content_of_tag (suc (suc (suc n))) = λ bytes. None

abbrev pub content_at : List ℕ → DecodeResult (Option (List ℕ))
content_at = tagged_at content_of_tag

abbrev pub file_at : List ℕ → DecodeResult PackedFile
file_at = made_at (λ f. Some (record { path = f.0; content = f.1 })) (both_at text_at content_at)

-- ---- tables

abbrev pub kind_of : ℕ → Option (Bool × Bool)
kind_of zero = None
kind_of (suc zero) = Some (false, false)
kind_of (suc (suc zero)) = Some (true, false)
kind_of (suc (suc (suc zero))) = Some (false, true)
kind_of (suc (suc (suc (suc zero)))) = Some (true, true)
kind_of (suc (suc (suc (suc (suc n))))) = None

abbrev pub kind_at : List ℕ → DecodeResult (Bool × Bool)
kind_at = made_at kind_of (number_at w8)

abbrev pub column_at : List ℕ → DecodeResult Column
column_at =
    made_at (λ c. Some (record { name = c.0; text = c.1.0; not_null = c.1.1 })) (both_at text_at kind_at)

abbrev pub rule_of : ℕ → Option Rule
rule_of zero = None
rule_of (suc zero) = Some L
rule_of (suc (suc zero)) = Some H
rule_of (suc (suc (suc zero))) = Some K
rule_of (suc (suc (suc (suc zero)))) = Some P
rule_of (suc (suc (suc (suc (suc zero))))) = Some C
rule_of (suc (suc (suc (suc (suc (suc n)))))) = None

abbrev pub rule_at : List ℕ → DecodeResult Rule
rule_at = made_at rule_of (number_at w8)

abbrev pub reason_at : List ℕ → DecodeResult (ℕ × Rule)
reason_at = both_at (number_at w32) rule_at

-- the values of a row of a table with the given number of columns
abbrev pub cells_at : ℕ → List ℕ → DecodeResult (List Value)
cells_at columns = items_at value_at columns

abbrev pub row_at : ℕ → List ℕ → DecodeResult PackedRow
row_at columns =
    made_at (λ r. Some (record { number = r.0; statement = r.1.0.0; rule = r.1.0.1; values = r.1.1 }))
    (both_at (number_at w32) (both_at reason_at (cells_at columns)))

abbrev pub rows_at : ℕ → List ℕ → DecodeResult (List PackedRow)
rows_at columns = list_at w32 (row_at columns)

abbrev pub places_at : List ℕ → DecodeResult (List ℕ)
places_at = list_at w8 (number_at w8)

abbrev pub foreign_at : List ℕ → DecodeResult Foreign
foreign_at = made_at (λ f. Some (record { columns = f.0; parent = f.1 })) (both_at places_at text_at)

-- version 1 has none
abbrev pub foreigns_at : Version → List ℕ → DecodeResult (List Foreign)
foreigns_at One = λ bytes. Some ([], bytes)
foreigns_at Two = list_at w8 foreign_at

abbrev pub schema_at : Version → List ℕ → DecodeResult Schema
schema_at version =
    made_at (λ s. Some (record { columns = s.0; key = s.1.0; foreign = s.1.1 }))
    (both_at (list_at w8 column_at) (both_at places_at (foreigns_at version)))

abbrev pub table_at : Version → List ℕ → DecodeResult PackedTable
table_at version =
    made_at (λ t. Some (record { name = t.0; schema = t.1.0; next = t.1.1.0; rows = t.1.1.1 }))
    (both_at text_at
    (then_at (schema_at version) (λ s. both_at (number_at w32) (rows_at (length s.columns)))))

-- ---- logs

-- a table and the values of a key of it
abbrev pub row_key_at : List ℕ → DecodeResult (List ℕ × List Value)
row_key_at = both_at text_at (list_at w8 value_at)

abbrev pub refusal_of_code : ℕ → List ℕ → DecodeResult SqlRefusal
refusal_of_code zero = λ bytes. None
refusal_of_code (suc zero) = λ bytes. Some (Syntax, bytes)
refusal_of_code (suc (suc zero)) = λ bytes. Some (NoTable, bytes)
refusal_of_code (suc (suc (suc zero))) = λ bytes. Some (NoColumn, bytes)
refusal_of_code (suc (suc (suc (suc zero)))) = λ bytes. Some (TypeClash, bytes)
refusal_of_code (suc (suc (suc (suc (suc zero))))) = λ bytes. Some (NotNull, bytes)
refusal_of_code (suc (suc (suc (suc (suc (suc zero)))))) =
    made_at (λ k. Some (KeyTaken k.0 k.1)) row_key_at
refusal_of_code (suc (suc (suc (suc (suc (suc (suc zero))))))) = λ bytes. Some (Full, bytes)
refusal_of_code (suc (suc (suc (suc (suc (suc (suc (suc zero)))))))) =
    made_at (λ k. Some (NoParent k.0 k.1)) row_key_at
refusal_of_code (suc (suc (suc (suc (suc (suc (suc (suc (suc zero))))))))) =
    made_at (λ k. Some (HasChild k.0 k.1)) row_key_at
refusal_of_code (suc (suc (suc (suc (suc (suc (suc (suc (suc (suc n)))))))))) = λ bytes. None

abbrev pub refusal_at : List ℕ → DecodeResult SqlRefusal
refusal_at = tagged_at refusal_of_code

abbrev pub reply_of_tag : ℕ → List ℕ → DecodeResult Reply
reply_of_tag zero = λ bytes. None
reply_of_tag (suc zero) = made_at (λ rows. Some (Rows rows)) (list_at w32 values_at)
reply_of_tag (suc (suc zero)) = made_at (λ n. Some (Changed n)) (number_at w64)
reply_of_tag (suc (suc (suc zero))) = made_at (λ r. Some (Refused r)) refusal_at
reply_of_tag (suc (suc (suc (suc n)))) = λ bytes. None

abbrev pub reply_at : List ℕ → DecodeResult Reply
reply_at = tagged_at reply_of_tag

abbrev pub entry_at : List ℕ → DecodeResult Entry
entry_at =
    made_at (λ e. Some (record { text = e.0; params = e.1.0; reply = e.1.1 }))
    (both_at text_at (both_at values_at reply_at))

abbrev pub name_at : List ℕ → DecodeResult ProcName
name_at = made_at (λ parts. Some (record { parts = parts })) (list_at w16 (number_at w32))

abbrev pub log_at : List ℕ → DecodeResult Log
log_at =
    made_at (λ l. Some (record { process = l.0; entries = l.1 })) (both_at name_at (list_at w32 entry_at))
