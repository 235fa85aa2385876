-- The outcome text: each line ends by LF.
use Rattle.std.specs.Prelude.{ℕ, List, [], ◌∷◌, ◌++◌, length, codes, Option, Some, None}
use Rattle.std.specs.List.{flat_map}
use Rattle.std.specs.Fmt.{decimal, signed_decimal}
use Rattle.ldv_value.specs.declared.value.Value.{Value}
use Rattle.ldv_value.specs.declared.value.Value.TheVariants.{Null, Int, Text}
use Rattle.sql_model.specs.Codes.{code_of}
use Rattle.sql_model.specs.declared.reply.Reply.{Reply}
use Rattle.sql_model.specs.declared.reply.Reply.TheVariants.{Rows, Changed, Refused}
use Rattle.sql_model.specs.declared.reply.SqlRefusal.{SqlRefusal}
use Rattle.sql_model.specs.declared.reply.SqlRefusal.TheVariants.{Syntax, NoTable, NoColumn, TypeClash}
use Rattle.sql_model.specs.declared.reply.SqlRefusal.TheVariants.{NotNull, KeyTaken, Full, NoParent}
use Rattle.sql_model.specs.declared.reply.SqlRefusal.TheVariants.{HasChild}
use Rattle.run_model.specs.declared.outcome.Outcome.{Outcome}
use Rattle.run_model.specs.declared.outcome.ProcOutcome.{ProcOutcome}
use Rattle.run_model.specs.declared.outcome.PathOutcome.{PathOutcome}

abbrev pub line : List ℕ → List ℕ
line bytes = bytes ++ 10 ∷ []

-- `text N` and the N bytes
abbrev pub utf8_text : List ℕ → List ℕ
utf8_text bytes = line (codes "text " ++ decimal (length bytes)) ++ line bytes

-- `null`, `int D`, or a text
abbrev pub value_text : Value → List ℕ
value_text Null = line (codes "null")
value_text (Int z) = line (codes "int " ++ signed_decimal z)
value_text (Text bytes) = utf8_text bytes

abbrev pub values_text : List Value → List ℕ
values_text values = flat_map value_text values

-- `row W` and W values
abbrev pub row_text : List Value → List ℕ
row_text values = line (codes "row " ++ decimal (length values)) ++ values_text values

-- `rows N` and N rows
abbrev pub rows_text : List (List Value) → List ℕ
rows_text rows = line (codes "rows " ++ decimal (length rows)) ++ flat_map row_text rows

-- `refused CODE TABLE W` and the W values of a key
abbrev pub key_text : ℕ → List ℕ → List Value → List ℕ
key_text code table key =
    line (codes "refused " ++ decimal code ++ codes " " ++ table ++ codes " " ++ decimal (length key))
    ++ values_text key

-- `refused CODE`, and more for a key that is taken, missing or lost
abbrev pub refusal_text : SqlRefusal → List ℕ
refusal_text Syntax = line (codes "refused " ++ decimal (code_of Syntax))
refusal_text NoTable = line (codes "refused " ++ decimal (code_of NoTable))
refusal_text NoColumn = line (codes "refused " ++ decimal (code_of NoColumn))
refusal_text TypeClash = line (codes "refused " ++ decimal (code_of TypeClash))
refusal_text NotNull = line (codes "refused " ++ decimal (code_of NotNull))
refusal_text (KeyTaken table key) = key_text (code_of (KeyTaken table key)) table key
refusal_text Full = line (codes "refused " ++ decimal (code_of Full))
refusal_text (NoParent table key) = key_text (code_of (NoParent table key)) table key
refusal_text (HasChild table key) = key_text (code_of (HasChild table key)) table key

-- `rows N` and N rows, or `changed N`, or the refusal
abbrev pub reply_text : Reply → List ℕ
reply_text (Rows rows) = rows_text rows
reply_text (Changed count) = line (codes "changed " ++ decimal count)
reply_text (Refused refusal) = refusal_text refusal

-- parts of a process name, a point before each
abbrev pub parts_text : List ℕ → List ℕ
parts_text parts = flat_map (λ part. 46 ∷ decimal part) parts

-- the parts of a process name, a point before each but the first
abbrev pub name_text : List ℕ → List ℕ
name_text [] = []
name_text (first ∷ rest) = decimal first ++ parts_text rest

-- `process NAME STATUS N R`, the N printed bytes, LF and R replies
abbrev pub head_text : ProcOutcome → List ℕ
head_text p =
    line (codes "process " ++ name_text p.name.parts ++ codes " " ++ decimal p.status ++ codes " "
    ++ decimal (length p.printed) ++ codes " " ++ decimal (length p.replies))

abbrev pub process_text : ProcOutcome → List ℕ
process_text p = head_text p ++ line p.printed ++ flat_map reply_text p.replies

-- `file A N`, the path and the N bytes
abbrev pub file_text : List ℕ → List ℕ → List ℕ
file_text path bytes =
    line (codes "file " ++ decimal (length path) ++ codes " " ++ decimal (length bytes)) ++ line path
    ++ line bytes

-- `removed A` and the path
abbrev pub removed_text : List ℕ → List ℕ
removed_text path = line (codes "removed " ++ decimal (length path)) ++ line path

abbrev pub content_text : List ℕ → Option (List ℕ) → List ℕ
content_text path None = removed_text path
content_text path (Some bytes) = file_text path bytes

abbrev pub path_text : PathOutcome → List ℕ
path_text p = content_text p.path p.content

-- `outcome P F`, P processes and F paths
abbrev pub outcome_text_of : Outcome → List ℕ
outcome_text_of o =
    line (codes "outcome " ++ decimal (length o.processes) ++ codes " " ++ decimal (length o.paths))
    ++ flat_map process_text o.processes ++ flat_map path_text o.paths
