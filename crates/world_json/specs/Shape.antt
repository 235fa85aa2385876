-- The shape of a document: which members it has, of which types. `None` is the fault Shape.
use Rattle.std.specs.Prelude.{ℕ, List, [], ◌∷◌, length, ◌==◌, Bool, true, false, ◌&&◌, if◌then◌else◌}
use Rattle.std.specs.Prelude.{Option, Some, None, option_map, codes, bytes_eq}
use Rattle.std.specs.List.{list_any, list_all}
use Rattle.std.specs.Result.{result_ok}
use Rattle.hex.specs.Hex.{decode_of}
use Rattle.serde_json.specs.Data.{Data, null, boolean, number, string, array, object}
use Rattle.serde_json.specs.Data.{Items, no_items, item, Members, no_members, member}
use Rattle.serde_json.specs.Find.{get_member, as_str, as_number, as_array, as_object, as_u64, as_i64}
pub use Rattle.ldv_value.specs.Options.{◌>>=◌}
use Rattle.ldv_value.specs.declared.file.File.{File}
use Rattle.ldv_value.specs.declared.value.Value.{Value}
use Rattle.ldv_value.specs.declared.value.Value.TheVariants.{Null, Int, Text}
use Rattle.sql_model.specs.declared.table.Column.{Column}
use Rattle.world_json.specs.declared.document.Document.{Document}
use Rattle.world_json.specs.declared.document.Draft.{Draft}
use Rattle.world_json.specs.declared.document.DraftForeign.{DraftForeign}

-- ---- arrays and objects

-- the items, each by f
abbrev pub each : {X : Type 0} → (Data → Option X) → Items → Option (List X)
each f no_items = Some []
each f (item d ds) = do
  x ← f d
  xs ← each f ds
  Some (x ∷ xs)

-- an array, each of its items by f
abbrev pub array_of : {X : Type 0} → (Data → Option X) → Data → Option (List X)
array_of f d = as_array d >>= each f

-- the members, each by f of its name and its value, in the order of their names
abbrev pub each_member : {X : Type 0} → (List ℕ → Data → Option X) → Members → Option (List X)
each_member f no_members = Some []
each_member f (member k d ms) = do
  x ← f k d
  xs ← each_member f ms
  Some (x ∷ xs)

-- an object, each of its members by f
abbrev pub object_of : {X : Type 0} → (List ℕ → Data → Option X) → Data → Option (List X)
object_of f d = as_object d >>= each_member f

-- every member has one of these names
abbrev pub only : List (List ℕ) → Members → Bool
only names no_members = true
only names (member k d ms) = list_any (bytes_eq k) names && only names ms

-- a member that has to be there, and one that may be missing, with what it is then
abbrev pub required_member : {X : Type 0} → (Data → Option X) → Option Data → Option X
required_member f None = None
required_member f (Some d) = f d

abbrev pub optional_member : {X : Type 0} → (Data → Option X) → X → Option Data → Option X
optional_member f x None = Some x
optional_member f x (Some d) = f d

-- ---- files

abbrev pub whole_of : Data → Option ℕ
whole_of d = as_number d >>= as_u64

-- the bytes of hex digits in either case, two for each byte
abbrev pub hex_text : List ℕ → Option (List ℕ)
hex_text text = result_ok (decode_of text)

abbrev pub hex_of : Data → Option (List ℕ)
hex_of d = as_str d >>= hex_text

abbrev pub content_in : Members → Option (List ℕ)
content_in ms = if only (codes "hex" ∷ []) ms
    then required_member hex_of (get_member (codes "hex") ms) else None

-- a text is its bytes, or the one member `hex` has them
abbrev pub content_of : Data → Option (List ℕ)
content_of null = None
content_of (boolean b) = None
content_of (number n) = None
content_of (string text) = Some text
content_of (array ds) = None
content_of (object ms) = content_in ms

abbrev pub file_of : List ℕ → Data → Option File
file_of path d = do
  content ← content_of d
  Some (record { path = path; content = content })

-- ---- tables

abbrev pub cell_of : Data → Option Value
cell_of null = Some Null
cell_of (boolean b) = None
cell_of (number n) = option_map Int (as_i64 n)
cell_of (string text) = Some (Text text)
cell_of (array ds) = None
cell_of (object ms) = None

abbrev pub column_as : List ℕ → Bool → Bool → Column
column_as name text not_null = record { name = name; text = text; not_null = not_null }

abbrev pub kind_of : List ℕ → List ℕ → Option Column
kind_of name kind =
    if bytes_eq kind (codes "INT") then Some (column_as name false false)
    else if bytes_eq kind (codes "TEXT") then Some (column_as name true false)
    else if bytes_eq kind (codes "INT NOT NULL") then Some (column_as name false true)
    else if bytes_eq kind (codes "TEXT NOT NULL") then Some (column_as name true true)
    else None

-- two texts, the name and the kind
abbrev pub column_from : List (List ℕ) → Option Column
column_from [] = None
column_from (name ∷ []) = None
column_from (name ∷ kind ∷ []) = kind_of name kind
column_from (name ∷ kind ∷ other ∷ more) = None

abbrev pub column_of : Data → Option Column
column_of d = array_of as_str d >>= column_from

abbrev pub foreign_from : List (List ℕ) → List ℕ → Option DraftForeign
foreign_from columns parent = Some (record { columns = columns; parent = parent })

abbrev pub foreign_of_two : Data → Data → Option DraftForeign
foreign_of_two columns parent = do
  columns ← array_of as_str columns
  parent ← as_str parent
  foreign_from columns parent

-- two items, the names of columns and that of the parent
abbrev pub foreign_in : Items → Option DraftForeign
foreign_in no_items = None
foreign_in (item columns no_items) = None
foreign_in (item columns (item parent no_items)) = foreign_of_two columns parent
foreign_in (item columns (item parent (item other more))) = None

abbrev pub foreign_of : Data → Option DraftForeign
foreign_of d = as_array d >>= foreign_in

abbrev pub draft_of : List ℕ → List Column → List (List ℕ) → List DraftForeign → List (List Value) → ℕ → Draft
draft_of name columns key foreign rows next =
    record { name = name; columns = columns; key = key; foreign = foreign; rows = rows; next = next }

-- each row has one value for each column
abbrev pub is_width : ℕ → List (List Value) → Bool
is_width width rows = list_all (λ row. length row == width) rows

-- a table by its columns, key, foreign keys, rows and next number
abbrev pub table_from :
    List ℕ → Option Data → Option Data → Option Data → Option Data → Option Data → Option Draft
table_from name columns key foreign rows next = do
  columns ← required_member (array_of column_of) columns
  key ← optional_member (array_of as_str) [] key
  foreign ← optional_member (array_of foreign_of) [] foreign
  rows ← optional_member (array_of (array_of cell_of)) [] rows
  next ← optional_member whole_of (length rows) next
  (if is_width (length columns) rows then Some (draft_of name columns key foreign rows next) else None)

abbrev pub table_members : List (List ℕ)
table_members = codes "columns" ∷ codes "key" ∷ codes "foreign" ∷ codes "rows" ∷ codes "next" ∷ []

abbrev pub table_in : List ℕ → Members → Option Draft
table_in name ms =
    if only table_members ms
    then table_from name (get_member (codes "columns") ms) (get_member (codes "key") ms)
    (get_member (codes "foreign") ms) (get_member (codes "rows") ms) (get_member (codes "next") ms)
    else None

abbrev pub table_of : List ℕ → Data → Option Draft
table_of name d = as_object d >>= table_in name

-- ---- the document

abbrev pub document_as : List (List ℕ) → ℕ → List File → List Draft → Document
document_as start seed files tables = record { start = start; seed = seed; files = files; tables = tables }

-- a document by its start words, seed, files and tables
abbrev pub document_from : Option Data → Option Data → Option Data → Option Data → Option Document
document_from start seed files tables = do
  start ← required_member (array_of as_str) start
  seed ← optional_member whole_of 0 seed
  files ← required_member (object_of file_of) files
  tables ← optional_member (object_of table_of) [] tables
  Some (document_as start seed files tables)

abbrev pub document_members : List (List ℕ)
document_members = codes "start" ∷ codes "seed" ∷ codes "files" ∷ codes "tables" ∷ []

abbrev pub document_in : Members → Option Document
document_in ms =
    if only document_members ms
    then document_from (get_member (codes "start") ms) (get_member (codes "seed") ms)
    (get_member (codes "files") ms) (get_member (codes "tables") ms)
    else None

abbrev pub document_of : Data → Option Document
document_of d = as_object d >>= document_in
