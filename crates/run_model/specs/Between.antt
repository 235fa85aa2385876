-- The slice of a world, and the worlds between the slice and the world: by their contents, and as the world
-- without the parts that are cut.
use Rattle.std.specs.Prelude.{◌≡◌, ◌⊎◌, ℕ, List, [], ◌∷◌, map, filter, Bool, true}
use Rattle.std.specs.Prelude.{Option, Some, None, is_some}
use Rattle.std.specs.List.{list_any, filter_map}
use Rattle.sql_model.specs.ForeignKeys.{have_parents}
use Rattle.sql_model.specs.Scope.{catalog_of, has_row}
use Rattle.run_model.specs.Types.{File, Table, TableRow, Event, World}
use Rattle.run_model.specs.Slice.{FileNeed, Whole, Present, file_need, first_reason, is_table_needed}
use Rattle.run_model.specs.SqlDatabase.{SqlDatabase}
use Rattle.run_model.specs.WorldRun.{events_within}

-- some statement of the run needs the row
abbrev pub is_row_needed : List Event → List ℕ → ℕ → Bool
is_row_needed events table row = is_some (first_reason table row events)

-- ---- by what is in them

abbrev pub IsIn : {X : Type 0} → X → List X → Type 0
IsIn x [] = ⊥
IsIn x (y ∷ ys) = (x ≡ y) ⊎ IsIn x ys

abbrev pub with_content : File → List ℕ → File
with_content file bytes = record { path = file.path; content = bytes }

-- a file of the path of a present one, of which only that it is there is needed
abbrev pub IsPresent : List Event → List File → File → Type 0
IsPresent events files file =
    (file_need file.path events ≡ Some Present) × ((bytes : List ℕ) × IsIn (with_content file bytes) files)

-- a table has the schema and the next number of another, rows of it, and those that are needed
pub record TableBetween (events : List Event) (small whole : Table) : Type 0 where
  pub name : small.name ≡ whole.name
  pub schema : small.schema ≡ whole.schema
  pub next : small.next ≡ whole.next
  pub rows : (row : TableRow) → IsIn row small.rows → IsIn row whole.rows
  pub needed : (row : TableRow) → IsIn row whole.rows → is_row_needed events whole.name row.number ≡ true
      → IsIn row small.rows

-- each foreign key of a world has a parent there with a fitting key
abbrev pub HasParents : World → Type 0
HasParents v = have_parents (catalog_of v.tables) ≡ true

-- a world lies between what events need of another and the other
pub record LiesBetween (events : List Event) (v w : World) : Type 0 where
  pub parents : HasParents v
  pub start : v.start ≡ w.start
  pub seed : v.seed ≡ w.seed
  -- each whole file is there with its bytes
  pub whole : (file : File) → IsIn file w.files → file_need file.path events ≡ Some Whole → IsIn file v.files
  -- each present file is there with any bytes
  pub present : (file : File) → IsIn file w.files → file_need file.path events ≡ Some Present
      → (bytes : List ℕ) × IsIn (with_content file bytes) v.files
  -- every other file is one of the other world, with the same bytes
  pub others : (file : File) → IsIn file v.files → IsIn file w.files ⊎ IsPresent events w.files file
  -- each needed table is there
  pub needed : (table : Table) → IsIn table w.tables → is_table_needed events table.name ≡ true
      → (small : Table) × IsIn small v.tables × (small.name ≡ table.name)
  -- each table is one of the other world, with some of its rows
  pub tables : (small : Table) → IsIn small v.tables
      → (table : Table) × IsIn table w.tables × TableBetween events small table

-- ---- what is cut

-- what becomes of a file: it goes, stays, or stays with other bytes
pub data FileCut : Type 0 where
  Gone : FileCut
  Same : FileCut
  Other : List ℕ → FileCut

-- what becomes of files, and which tables and rows stay
pub record Cut : Type 0 where
  pub file : List ℕ → FileCut
  pub table : List ℕ → Bool
  pub row : List ℕ → ℕ → Bool

abbrev pub kept_file : FileCut → File → Option File
kept_file Gone file = None
kept_file Same file = Some file
kept_file (Other bytes) file = Some (with_content file bytes)

abbrev pub cut_file : Cut → File → Option File
cut_file cut file = kept_file (cut.file file.path) file

abbrev pub cut_files : Cut → List File → List File
cut_files cut files = filter_map (cut_file cut) files

abbrev pub row_stays : Cut → Table → TableRow → Bool
row_stays cut table row = cut.row table.name row.number

-- the name, the schema and the next number are as they were
abbrev pub cut_table : Cut → Table → Table
cut_table cut table = record {
  name = table.name;
  schema = table.schema;
  rows = filter (row_stays cut table) table.rows;
  next = table.next;
}

abbrev pub table_stays : Cut → Table → Bool
table_stays cut table = cut.table table.name

abbrev pub cut_tables : Cut → List Table → List Table
cut_tables cut tables = filter (table_stays cut) (map (cut_table cut) tables)

abbrev pub cut_world : Cut → World → World
cut_world cut w = record {
  start = w.start;
  seed = w.seed;
  files = cut_files cut w.files;
  tables = cut_tables cut w.tables;
}

-- tables without what is cut, and the versions of all rows
abbrev pub cut_database : Cut → SqlDatabase → SqlDatabase
cut_database cut db = record { tables = cut_tables cut db.tables; versions = db.versions }

-- ---- cuts that keep what is needed

-- a whole file stays as it is, a present one is there, and no other stays with other bytes
abbrev pub KeepsFile : Option FileNeed → FileCut → Type 0
KeepsFile (Some Whole) Gone = ⊥
KeepsFile (Some Whole) Same = Unit {0}
KeepsFile (Some Whole) (Other bytes) = ⊥
KeepsFile (Some Present) Gone = ⊥
KeepsFile (Some Present) Same = Unit {0}
KeepsFile (Some Present) (Other bytes) = Unit {0}
KeepsFile None Gone = Unit {0}
KeepsFile None Same = Unit {0}
KeepsFile None (Other bytes) = ⊥

-- the world of a run has the row from the start; a row that the run makes is never cut
abbrev pub is_initial : List Table → List ℕ → ℕ → Bool
is_initial tables name number = list_any (has_row name number) tables

-- nothing is cut that the events need of initial files and tables
pub record KeepsNeeded (cut : Cut) (initial : List Table) (events : List Event) : Type 0 where
  pub files : (path : List ℕ) → KeepsFile (file_need path events) (cut.file path)
  pub tables : (name : List ℕ) → is_table_needed events name ≡ true → cut.table name ≡ true
  pub rows : (name : List ℕ) (number : ℕ) → is_initial initial name number ≡ true
      → is_row_needed events name number ≡ true → cut.row name number ≡ true

-- a world is another without what was cut, nothing was cut that the events need, and parents are there
abbrev pub CutOf : List Event → World → World → Type 0
CutOf events v w = (cut : Cut) × KeepsNeeded cut w.tables events × HasParents v × (v ≡ cut_world cut w)

-- a world lies between the slice of a run of at most n steps and the run's world
abbrev pub Between : ℕ → World → World → Type 0
Between n v w = CutOf (events_within n w) v w

-- ---- the slice

abbrev pub cut_to : Option FileNeed → FileCut
cut_to (Some Whole) = Same
cut_to (Some Present) = Other []
cut_to None = Gone

-- all that isn't needed goes, and a present file is empty
abbrev pub slice_cut : List Event → Cut
slice_cut events = record {
  file = λ path. cut_to (file_need path events);
  table = is_table_needed events;
  row = is_row_needed events;
}

-- the world of what a run of at most n steps needs
abbrev pub slice_of : ℕ → World → World
slice_of n w = cut_world (slice_cut (events_within n w)) w
