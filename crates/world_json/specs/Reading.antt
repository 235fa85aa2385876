-- Reading a document: its world, or its first fault.
use Rattle.std.specs.Prelude.{◌≡◌, ℕ, ◌+◌, List, [], ◌∷◌, map, Bool, ◌&&◌, if◌then◌else◌, Option, Some, None}
use Rattle.std.specs.Prelude.{Result, Ok, Err}
use Rattle.serde_json.specs.Data.{Data}
use Rattle.json_bytes.specs.Reading.{json_of}
use Rattle.ldv_value.specs.declared.file.File.{File}
use Rattle.script_parse.specs.Script.{script_of, first_bad_line}
use Rattle.script_parse.specs.declared.script.Instr.{Instr}
use Rattle.ldv_value.specs.declared.value.Value.{Value}
use Rattle.sql_model.specs.ForeignKeys.{have_parents}
use Rattle.sql_model.specs.References.{references_hold}
use Rattle.sql_model.specs.Scope.{catalog_of}
use Rattle.sql_model.specs.declared.table.Table.{Table}
use Rattle.sql_model.specs.declared.table.TableRow.{TableRow}
use Rattle.run_model.specs.declared.world.World.{World}
use Rattle.world_json.specs.declared.document.Document.{Document}
use Rattle.world_json.specs.declared.document.Draft.{Draft}
use Rattle.world_json.specs.declared.fault.WorldFault.{WorldFault}
use Rattle.world_json.specs.declared.fault.WorldFault.TheVariants.{NotJson, Shape, Name, Limit, RowType}
use Rattle.world_json.specs.declared.fault.WorldFault.TheVariants.{NotNull, Key, Reference, NoStart}
use Rattle.world_json.specs.declared.fault.WorldFault.TheVariants.{BadScript}
use Rattle.world_json.specs.declared.fault.WorldStop.{WorldStop}
use Rattle.world_json.specs.declared.fault.WorldStop.TheVariants.{Fault, NoMemory}
use Rattle.world_json.specs.Shape.{document_of}
use Rattle.world_json.specs.Faults.{is_named, is_within, is_typed, is_filled, is_keyed, key_places}
use Rattle.world_json.specs.Faults.{foreign_keys, start_file}

-- ---- the world of a document without a fault

-- the rows, numbered from a number on
abbrev pub numbered_from : ℕ → List (List Value) → List TableRow
numbered_from n [] = []
numbered_from n (row ∷ rows) = record { number = n; values = row } ∷ numbered_from (n + 1) rows

abbrev pub table_as : Draft → Table
table_as draft = record {
  name = draft.name;
  schema = record { columns = draft.columns; key = key_places draft; foreign = foreign_keys draft };
  rows = numbered_from 0 draft.rows;
  next = draft.next;
}

abbrev pub world_as : Document → World
world_as doc =
    record { start = doc.start; seed = doc.seed; files = doc.files; tables = map table_as doc.tables }

-- ---- Reference: each foreign key has a parent with a fitting key, which has a row for each row that refers

abbrev pub have_references : List Table → Bool
have_references tables = have_parents (catalog_of tables) && references_hold tables

abbrev pub is_referring : Document → Bool
is_referring doc = have_references (map table_as doc.tables)

-- ---- the faults in their order, each over the whole document

-- BadScript, where bytes are no script
abbrev pub script_fault : List ℕ → Option (List Instr) → Option WorldFault
script_fault bytes None = Some (BadScript (first_bad_line bytes))
script_fault bytes (Some instructions) = None

-- NoStart, where the first start word is no file
abbrev pub start_fault_of : Option File → Option WorldFault
start_fault_of None = Some NoStart
start_fault_of (Some file) = script_fault file.content (script_of file.content)

abbrev pub start_fault : Document → Option WorldFault
start_fault doc = start_fault_of (start_file doc)

abbrev pub ending : Document → Option WorldFault → Result World WorldFault
ending doc None = Ok (world_as doc)
ending doc (Some fault) = Err fault

abbrev pub referring_of : Document → Result World WorldFault
referring_of doc = if is_referring doc then ending doc (start_fault doc) else Err Reference

abbrev pub reading_of : Document → Result World WorldFault
reading_of doc =
    if is_named doc
    then (if is_within doc
    then (if is_typed doc
    then (if is_filled doc
    then (if is_keyed doc then referring_of doc else Err Key)
    else Err NotNull)
    else Err RowType)
    else Err Limit)
    else Err Name

abbrev pub reading_of_document : Option Document → Result World WorldFault
reading_of_document None = Err Shape
reading_of_document (Some doc) = reading_of doc

abbrev pub reading_of_json : Option Data → Result World WorldFault
reading_of_json None = Err NotJson
reading_of_json (Some d) = reading_of_document (document_of d)

abbrev pub world_reading : List ℕ → Result World WorldFault
world_reading bytes = reading_of_json (json_of bytes)

-- a stop that names the fault of a reading; out of memory names none
abbrev pub IsFaultOf : Result World WorldFault → WorldStop → Type 0
IsFaultOf reading (Fault fault) = reading ≡ Err fault
IsFaultOf reading NoMemory = Unit {0}

-- the same of a fault, where there is one
abbrev pub IsStopFor : Option WorldFault → WorldStop → Type 0
IsStopFor due (Fault fault) = Some fault ≡ due
IsStopFor due NoMemory = Unit {0}
