-- Valid worlds: their parts meet the rules for a package with all of these parts. And worlds that can be run.
use Rattle.std.specs.Prelude.{◌≡◌, [], map, Bool, true, ◌&&◌, Some, IsTrue, is_some}
use Rattle.ldv_value.specs.FileState.{files_test}
use Rattle.sql_model.specs.declared.need.Rule.TheVariants.{L}
use Rattle.sql_model.specs.Tables.{tables_test}
use Rattle.run_model.specs.Types.{File, Table, TableRow, World, Included, Package, PackedFile, PackedRow}
use Rattle.run_model.specs.Types.{PackedTable}
use Rattle.run_model.specs.Start.{start_script}
use Rattle.run_model.specs.TypedPackage.{IsTyped}
use Rattle.run_model.specs.ValidPackage.{start_rule, files_rule, tables_rule, script_rule}

-- ---- the package that has all of a world, of which nothing was asked

abbrev pub all_of_file : File → PackedFile
all_of_file file = record { path = file.path; content = Some file.content }

abbrev pub all_of_row : TableRow → PackedRow
all_of_row row = record { number = row.number; statement = 0; rule = L; values = row.values }

abbrev pub all_of_table : Table → PackedTable
all_of_table table = record {
  name = table.name;
  schema = table.schema;
  next = table.next;
  rows = map all_of_row table.rows;
}

abbrev pub all_of_world : World → Package
all_of_world w = record {
  mode = Included;
  start = w.start;
  seed = w.seed;
  steps = 1;
  files = map all_of_file w.files;
  tables = map all_of_table w.tables;
  logs = [];
  events = [];
}

-- ---- what a world meets

-- numbers are those of their types and texts are UTF-8, as in every world in memory
abbrev pub TypedWorld : World → Type 0
TypedWorld w = IsTyped (all_of_world w)

-- start words, files and tables meet the rules, and the first start word is a file that is a script
abbrev pub rules_of_parts : Package → Bool
rules_of_parts p =
    start_rule p.start && files_rule p.files && tables_rule p.tables && script_rule p.start p.files

abbrev pub world_rules : World → Bool
world_rules w = rules_of_parts (all_of_world w)

pub record ValidWorld (w : World) : Type 0 where
  pub typed : TypedWorld w
  pub ruled : IsTrue (world_rules w)

-- ---- what can be run

-- A world that can be run: its first start word names a script, its files are valid and sorted by path, and
-- its tables meet the rules.
pub record CanRun (w : World) : Type 0 where
  pub script : is_some (start_script w) ≡ true
  pub files : files_test w.files ≡ true
  pub tables : tables_test w.tables ≡ true
