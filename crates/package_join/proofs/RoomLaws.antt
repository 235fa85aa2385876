-- The package of a run fits the fields of the format if the joined package does.
use Rattle.std.proofs.Common.{◌≡◌, ℕ, suc, ◌≤◌, ◌^◌, Bool, true, false, cond, List, [], ◌∷◌, map, length, Option, Some, None, refl, arith, ◌&&◌}
use Rattle.std.specs.Prelude.{filter, find, option_map}
use Rattle.std.specs.List.{list_all, filter_map, cons_option}
use Rattle.std.proofs.lemmas.Bool.{ltb-true, lt-ltb}
use Rattle.ldv_value.proofs.Booleans.{and-parts, and-from}
use Rattle.package_codec.specs.Room.{row_room, schema_room, fits_u16_count, table_room, log_room}
use Rattle.package_codec.specs.Runs.{trace_room}
use Rattle.package_layout.specs.Whole.{has_room, tables_room}
use Rattle.package_join.specs.Types.{Package, PackedRow, PackedTable, Table, TableRow}
use Rattle.joined_data.specs.declared.joined.Joined.{Joined}
use Rattle.joined_data.specs.declared.joined.JoinedRun.{JoinedRun}
use Rattle.joined_data.specs.declared.joined.Reason.{Reason}
use Rattle.joined_data.specs.declared.joined.Which.{Which}
use Rattle.joined_data.specs.declared.joined.Which.TheVariants.{First, Second}
use Rattle.joined_data.specs.Joined.{is_among, is_reason, packed_by, picked_package, picked_row, picked_table, run_package}
use Rattle.joined_data.specs.Rooms.{common_row_room, common_table_room, common_tables_room, bare_run_room, joined_run_room, joined_room}

-- ---- rows

maybe_row : (columns : ℕ) (row : TableRow) (o : Option Reason) (rest : List PackedRow) → common_row_room columns row ≡ true
    → list_all (row_room columns) rest ≡ true → list_all (row_room columns) (cons_option (option_map (packed_by row) o) rest) ≡ true
maybe_row columns row None rest h k = k
maybe_row columns row (Some reason) rest h k = and-from (row_room columns (packed_by row reason)) (list_all (row_room columns) rest) h k

rows_fit : (run : JoinedRun) (name : List ℕ) (columns : ℕ) (rows : List TableRow) → list_all (common_row_room columns) rows ≡ true
    → list_all (row_room columns) (filter_map (picked_row run name) rows) ≡ true
rows_fit run name columns [] h = refl
rows_fit run name columns (row ∷ rows) h =
    let both = and-parts (common_row_room columns row) (list_all (common_row_room columns) rows) h in
    maybe_row columns row (find (is_reason name row.number) run.reasons) (filter_map (picked_row run name) rows) both.0
    (rows_fit run name columns rows both.1)

-- ---- tables

table_fits : (run : JoinedRun) (t : Table) → common_table_room t ≡ true → table_room (picked_table run t) ≡ true
table_fits run t h =
    let columns : ℕ = length t.schema.columns in
    let both = and-parts (schema_room t.schema) (list_all (common_row_room columns) t.rows) h in
    and-from (schema_room t.schema) (list_all (row_room columns) (picked_table run t).rows) both.0 (rows_fit run t.name columns t.rows both.1)

module _ (run : JoinedRun) (test : Table → Bool) where
  abbrev picked : List Table → List PackedTable
  picked ts = map (picked_table run) (filter test ts)

  tables_fit : (ts : List Table) → list_all common_table_room ts ≡ true → list_all table_room (picked ts) ≡ true
  tables_fit [] h = refl
  tables_fit (t ∷ ts) h =
      let both = and-parts (common_table_room t) (list_all common_table_room ts) h in
      by (test t) both.0 (tables_fit ts both.1)
    where
      by : (b : Bool) → common_table_room t ≡ true → list_all table_room (picked ts) ≡ true
          → list_all table_room (map (picked_table run) (cond b (t ∷ filter test ts) (filter test ts))) ≡ true
      by true fits rest = and-from (table_room (picked_table run t)) (list_all table_room (picked ts)) (table_fits run t fits) rest
      by false fits rest = rest

  fewer : (ts : List Table) → length (picked ts) ≤ length ts
  fewer [] = omega arith
  fewer (t ∷ ts) = by (test t) (fewer ts)
    where
      by : (b : Bool) → length (picked ts) ≤ length ts → length (map (picked_table run) (cond b (t ∷ filter test ts) (filter test ts))) ≤ suc (length ts)
      by true rest = omega (arith, rest)
      by false rest = omega (arith, rest)

  few_enough : (ts : List Table) → fits_u16_count ts ≡ true → fits_u16_count (picked ts) ≡ true
  few_enough ts h = lt-ltb (length (picked ts)) (2 ^ 16) (omega (arith, fewer ts, ltb-true (length ts) (2 ^ 16) h))

-- ---- the package of a run

package_fits : (run : JoinedRun) (j : Joined) → common_tables_room j.tables ≡ true → joined_run_room run ≡ true
    → has_room (picked_package run j.files j.tables) ≡ true
package_fits run j h k =
    let p : Package = picked_package run j.files j.tables in
    let tables = and-parts (fits_u16_count j.tables) (list_all common_table_room j.tables) h in
    let traced = and-parts (bare_run_room run) (trace_room run.events) k in
    let bare = and-parts (fits_u16_count run.start) (fits_u16_count run.tables) traced.0 in
    let many : fits_u16_count p.tables ≡ true = few_enough run (λ (t : Table). is_among t.name run.tables) j.tables tables.0 in
    let each : list_all table_room p.tables ≡ true = tables_fit run (λ (t : Table). is_among t.name run.tables) j.tables tables.1 in
    and-from (fits_u16_count p.start) (tables_room p && (list_all log_room p.logs && trace_room p.events)) bare.0
    (and-from (tables_room p) (list_all log_room p.logs && trace_room p.events)
    (and-from (fits_u16_count p.tables) (list_all table_room p.tables) many each)
    (and-from (list_all log_room p.logs) (trace_room p.events) refl traced.1))

pub picked_room : (which : Which) (j : Joined) → joined_room j ≡ true → has_room (run_package which j) ≡ true
picked_room First j h =
    let both = and-parts (common_tables_room j.tables) (joined_run_room j.first && joined_run_room j.second) h in
    package_fits j.first j both.0 (and-parts (joined_run_room j.first) (joined_run_room j.second) both.1).0
picked_room Second j h =
    let both = and-parts (common_tables_room j.tables) (joined_run_room j.first && joined_run_room j.second) h in
    package_fits j.second j both.0 (and-parts (joined_run_room j.first) (joined_run_room j.second) both.1).1
