-- A valid world is good: its start words are texts, and the values of its tables are numbers of 64 bits, or
-- texts of UTF-8 that aren't too long.
use Rattle.std.proofs.Common.{◌≡◌, ◌≤◌, List, [], ◌∷◌, length, map, true, le_trans}
use Rattle.std.specs.List.{list_all, AllByRecursion}
use Rattle.std.proofs.lemmas.Bool.{leb-true}
use Rattle.ldv_value.specs.Limits.{max_columns}
use Rattle.ldv_value.proofs.Booleans.{and-parts, and-first, and-second}
use Rattle.sql_model.specs.Tables.{is_short, foreign_key_test}
use Rattle.sql_model.specs.declared.table.Column.{Column}
use Rattle.sql_model.specs.declared.table.Foreign.{Foreign}
use Rattle.run_model.specs.TypedPackage.{TypedForeign, TypedRow, TypedTable}
use Rattle.run_model.specs.ValidPackage.{table_rule}
use Rattle.value_laws.specs.Steps.{GoodWorld}
use Rattle.value_laws.specs.Values.{GoodForeign, GoodRow, GoodTable, GoodTables}
use Rattle.value_laws.proofs.StepGood.{row_good}
use Rattle.replay_db.specs.Types.{Table, TableRow, PackedRow, World}
use Rattle.replay_db.specs.Worlds.{all_of_row, all_of_table, all_of_world, ValidWorld}
use Rattle.run_model.proofs.KeyPlaces.{key_within}
use Rattle.run_model.proofs.ValidWorlds.{Ruled, ruled_by, RuledList, ruled_list, world_tables}

rows_good : (rows : List TableRow) → AllByRecursion TypedRow (map all_of_row rows)
    → list_all (λ (row : PackedRow). list_all is_short row.values) (map all_of_row rows) ≡ true
    → AllByRecursion GoodRow rows
rows_good [] typed short = tt
rows_good (row ∷ rows) typed short =
    let both = and-parts _ _ short in
    (row_good row.values typed.0.1.1 both.0, rows_good rows typed.1 both.1)

foreigns_good : (columns : List Column) (foreigns : List Foreign) → length columns ≤ max_columns
    → AllByRecursion TypedForeign foreigns → list_all (foreign_key_test columns) foreigns ≡ true → AllByRecursion GoodForeign foreigns
foreigns_good columns [] few typed met = tt
foreigns_good columns (f ∷ fs) few typed met =
    let both = and-parts (foreign_key_test columns f) (list_all (foreign_key_test columns) fs) met in
    let within : length f.columns ≤ length columns = key_within columns f.columns both.0 in
    ((typed.0, le_trans within few), foreigns_good columns fs few typed.1 both.1)

table_good : (t : Table) → TypedTable (all_of_table t) → table_rule (all_of_table t) ≡ true → GoodTable t
table_good t typed met =
    let columns : List Column = t.schema.columns in
    let parts = and-parts _ _ (and-first _ _ met) in
    let tested = and-parts _ _ (and-second _ _ parts.0) in
    let schema = and-parts _ _ (and-first _ _ tested.0) in
    let few : length columns ≤ max_columns = leb-true _ _ (and-second _ _ (and-first _ _ schema.0)) in
    let key : length t.schema.key ≤ length columns = key_within columns t.schema.key schema.1 in
    record {
      name = typed.0;
      columns = few;
      key = le_trans key few;
      foreign = foreigns_good columns t.schema.foreign few typed.1.0.1 (and-second _ _ tested.1);
      rows = rows_good t.rows typed.1.1.1 (and-second _ _ parts.1);
    }

tables_good : (ts : List Table) → AllByRecursion TypedTable (map all_of_table ts)
    → list_all table_rule (map all_of_table ts) ≡ true → GoodTables ts
tables_good [] typed met = tt
tables_good (t ∷ ts) typed met =
    let both = and-parts (table_rule (all_of_table t)) (list_all table_rule (map all_of_table ts)) met in
    (table_good t typed.0 both.0, tables_good ts typed.1 both.1)

pub good_world : (w : World) → ValidWorld w → GoodWorld w
good_world w valid =
    let ruled : Ruled (all_of_world w) = ruled_by (all_of_world w) valid.ruled in
    let list : RuledList (map all_of_table w.tables) = ruled_list (map all_of_table w.tables) ruled.tables in
    record {
      texts = valid.typed.0;
      words = ruled.start;
      tables = tables_good w.tables valid.typed.1.1.1.1.0 list.each;
      valid = world_tables w valid;
    }
