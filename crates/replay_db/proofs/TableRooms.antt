-- A table that meets the rules fits the fields of the format.
use Rattle.std.proofs.Common.{◌≡◌, ℕ, ◌<◌, ◌≤◌, List, length, true, not, arith}
use Rattle.std.specs.Prelude.{nat_lt, nat_eq}
use Rattle.std.specs.List.{list_all}
use Rattle.std.proofs.lemmas.Bool.{lt-ltb, ltb-true, leb-true}
use Rattle.ldv_value.proofs.Booleans.{and-parts, and-from, and-first, and-second}
use Rattle.ldv_value.proofs.Lists.{list_all-weaker}
use Rattle.ldv_value.specs.Limits.{max_columns}
use Rattle.sql_model.specs.Keys.{repeats}
use Rattle.sql_model.specs.ForeignKeys.{max_foreign}
use Rattle.sql_model.specs.Tables.{key_places_test, foreign_key_test, foreign_count_test, foreign_test, is_row}
use Rattle.sql_model.specs.declared.table.Column.{Column}
use Rattle.sql_model.specs.declared.table.Foreign.{Foreign}
use Rattle.run_model.proofs.KeyPlaces.{key_within}
use Rattle.run_model.proofs.ValidWorlds.{RuledList, ruled_list}
use Rattle.run_model.specs.ValidPackage.{table_rule, tables_rule}
use Rattle.package_codec.specs.Room.{key_room, foreign_room, foreigns_room, schema_room, row_room, table_room}
use Rattle.replay_db.specs.Types.{PackedRow, PackedTable}

key_room_met : (columns : List Column) (key : List ℕ) → length columns ≤ max_columns → key_places_test columns key ≡ true → key_room key ≡ true
key_room_met columns key few met =
    let parts = and-parts (list_all (λ p. nat_lt p (length columns)) key) (not (repeats nat_eq key)) met in
    let count : length key ≤ length columns = key_within columns key met in
    and-from (nat_lt (length key) 256) (list_all (λ p. nat_lt p 256) key) (lt-ltb (length key) 256 (omega arith))
    (list_all-weaker (λ p. nat_lt p (length columns)) (λ p. nat_lt p 256) (λ p below. let less : p < length columns = ltb-true p (length columns) below in lt-ltb p 256 (omega arith)) key parts.0)

foreigns_room_met : (columns : List Column) (foreigns : List Foreign) → length columns ≤ max_columns
    → foreign_test columns foreigns ≡ true → foreigns_room foreigns ≡ true
foreigns_room_met columns foreigns few met =
    let parts = and-parts (foreign_count_test foreigns) (list_all (foreign_key_test columns) foreigns) met in
    let count : length foreigns ≤ max_foreign = leb-true (length foreigns) max_foreign parts.0 in
    and-from (nat_lt (length foreigns) 256) (list_all foreign_room foreigns) (lt-ltb (length foreigns) 256 (omega (arith, count)))
    (list_all-weaker (foreign_key_test columns) foreign_room (λ f fits. key_room_met columns f.columns few fits) foreigns parts.1)

room_met : (t : PackedTable) → table_rule t ≡ true → table_room t ≡ true
room_met t met =
    let columns : List Column = t.schema.columns in
    let parts = and-parts _ _ (and-first _ _ met) in
    let tested = and-parts _ _ (and-second _ _ parts.0) in
    let schema = and-parts _ _ (and-first _ _ tested.0) in
    let few : length columns ≤ max_columns = leb-true _ _ (and-second _ _ (and-first _ _ schema.0)) in
    let room : schema_room t.schema ≡ true =
    and-from _ _ (lt-ltb (length columns) 256 (omega arith))
    (and-from _ _ (key_room_met columns t.schema.key few schema.1) (foreigns_room_met columns t.schema.foreign few tested.1)) in
    let wide : list_all (row_room (length columns)) t.rows ≡ true =
    list_all-weaker (λ (r : PackedRow). is_row columns r.values) (row_room (length columns)) (λ r fits. and-first _ _ fits) t.rows (and-second _ _ (and-first _ _ parts.1)) in
    and-from _ _ room wide

pub rooms_met : (tables : List PackedTable) → tables_rule tables ≡ true → list_all table_room tables ≡ true
rooms_met tables met =
    let list : RuledList tables = ruled_list tables met in
    list_all-weaker table_rule table_room room_met tables list.each
