-- The limits of the fields of the format: counts of one and two bytes fit their fields, and each row of a
-- table has one value for each column. Counts of four bytes are in `specs/Counts.antt`.
use Rattle.std.specs.Prelude.{ℕ, ◌^◌, List, length, Bool, true, ◌&&◌, ◌==◌, nat_lt}
use Rattle.std.specs.List.{list_all}
use Rattle.sql_model.specs.declared.reply.SqlRefusal.{SqlRefusal}
use Rattle.sql_model.specs.declared.reply.SqlRefusal.TheVariants.{Syntax, NoTable, NoColumn, TypeClash}
use Rattle.sql_model.specs.declared.reply.SqlRefusal.TheVariants.{NotNull, KeyTaken, Full, NoParent}
use Rattle.sql_model.specs.declared.reply.SqlRefusal.TheVariants.{HasChild}
use Rattle.sql_model.specs.declared.table.Foreign.{Foreign}
use Rattle.sql_model.specs.declared.table.Schema.{Schema}
use Rattle.sql_model.specs.declared.reply.Reply.{Reply}
use Rattle.sql_model.specs.declared.reply.Reply.TheVariants.{Rows, Changed, Refused}
use Rattle.run_model.specs.declared.package.PackedRow.{PackedRow}
use Rattle.run_model.specs.declared.package.PackedTable.{PackedTable}
use Rattle.run_model.specs.declared.package.Entry.{Entry}
use Rattle.run_model.specs.declared.package.Log.{Log}

-- a count of one byte, and one of two
abbrev pub fits_u8_count : {X : Type 0} → List X → Bool
fits_u8_count xs = nat_lt (length xs) 256

abbrev pub fits_u16_count : {X : Type 0} → List X → Bool
fits_u16_count xs = nat_lt (length xs) (2 ^ 16)

-- the places of columns have one byte each
abbrev pub key_room : List ℕ → Bool
key_room key = fits_u8_count key && list_all (λ place. nat_lt place 256) key

abbrev pub foreign_room : Foreign → Bool
foreign_room f = key_room f.columns

abbrev pub foreigns_room : List Foreign → Bool
foreigns_room foreigns = fits_u8_count foreigns && list_all foreign_room foreigns

abbrev pub schema_room : Schema → Bool
schema_room s = fits_u8_count s.columns && (key_room s.key && foreigns_room s.foreign)

abbrev pub row_room : ℕ → PackedRow → Bool
row_room columns r = length r.values == columns

abbrev pub table_room : PackedTable → Bool
table_room t = schema_room t.schema && list_all (row_room (length t.schema.columns)) t.rows

-- a key has at most 255 values
abbrev pub refusal_room : SqlRefusal → Bool
refusal_room Syntax = true
refusal_room NoTable = true
refusal_room NoColumn = true
refusal_room TypeClash = true
refusal_room NotNull = true
refusal_room (KeyTaken table key) = fits_u8_count key
refusal_room Full = true
refusal_room (NoParent table key) = fits_u8_count key
refusal_room (HasChild table key) = fits_u8_count key

-- a row of a reply has at most 65,535 values
abbrev pub reply_room : Reply → Bool
reply_room (Rows rows) = list_all fits_u16_count rows
reply_room (Changed n) = true
reply_room (Refused refusal) = refusal_room refusal

abbrev pub entry_room : Entry → Bool
entry_room e = fits_u16_count e.params && reply_room e.reply

-- a process name has at most 65,535 parts
abbrev pub log_room : Log → Bool
log_room l = fits_u16_count l.process.parts && list_all entry_room l.entries
